use Rattle.std.proofs.Common.{◌≡◌, length, ap, ◌∙◌, arith, rules, refl}
use Rattle.std.specs.Int.{w32, to_be_bytes}
use Rattle.aes_block.specs.Aes.{aes}
use Rattle.gcm_seal.proofs.Lanes.{lane_taken, joined}
use Rattle.gcm_seal.proofs.counter_mode.first_blocks.Goals as goal

pub returns-clause-subkey : goal.returns-clause-subkey
returns-clause-subkey c =
    let whole : length c.encrypt_four-ciphers.result ≡ 64 = search rules in
    lane_taken c.encrypt_four-ciphers.result 0 whole (omega arith) ∙ c.encrypt_four-ciphers.ensures 0 (omega arith)

pub returns-clause-mask : goal.returns-clause-mask
returns-clause-mask c =
    let whole : length c.encrypt_four-ciphers.result ≡ 64 = search rules in
    lane_taken c.encrypt_four-ciphers.result 1 whole (omega arith) ∙ c.encrypt_four-ciphers.ensures 1 (omega arith)
    ∙ ap (aes c.args.key.now) (joined c.args.nonce.now (to_be_bytes w32 1) (omega arith) refl)
