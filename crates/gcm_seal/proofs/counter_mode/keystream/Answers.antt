use Rattle.std.proofs.Common.{◌/◌, ◌%◌, get_or, ap, ◌∙◌, arith}
use Rattle.aes_block.specs.Aes.{aes}
use Rattle.gcm_seal.proofs.Lanes.{byte_in_lane}
use Rattle.gcm_seal.proofs.counter_mode.keystream.Goals as goal

pub returns : goal.returns
returns c = λ j h.
    byte_in_lane c.encrypt_four.result j
    ∙ ap (λ b. get_or b (j % 16) 0) (c.encrypt_four.ensures (j / 16) (omega arith) ∙ ap (aes c.args.key.now) (c.counter_blocks.ensures (j / 16) (omega arith)))
