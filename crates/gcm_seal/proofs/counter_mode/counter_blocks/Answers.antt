use Rattle.std.proofs.Common.{◌+◌, ◌∙◌, arith}
use Rattle.gcm_seal.proofs.Lanes.{counters, wrapped}
use Rattle.gcm_seal.proofs.counter_mode.counter_blocks.Goals as goal

pub returns : goal.returns
returns c = λ b h.
    let n = c.args.first in
    counters c.args.nonce.now c.to_be_bytes.result c.to_be_bytes-2.result c.to_be_bytes-3.result c.to_be_bytes-4.result n b (omega arith) c.to_be_bytes.ensures
    (c.to_be_bytes-2.ensures ∙ wrapped (n + 1))
    (c.to_be_bytes-3.ensures ∙ wrapped (n + 2))
    (c.to_be_bytes-4.ensures ∙ wrapped (n + 3)) h
