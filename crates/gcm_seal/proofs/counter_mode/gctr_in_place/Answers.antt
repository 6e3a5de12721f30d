use Rattle.std.proofs.Common.{◌-◌, ◌*◌, ◌/◌, length, ◌∙◌, arith}
use Rattle.gcm_seal.proofs.Lanes.{added}
use Rattle.gcm_seal.proofs.Texts.{gctr_is}
use Rattle.gcm_seal.proofs.counter_mode.gctr_in_place.Goals as goal

pub loop-i-preserved : goal.loop-i-preserved
loop-i-preserved c =
    record {
      done = λ k h. added c.args.key.now c.args.nonce.now c.args.first c.loop-i.i 64 c.args.buffer.now c.loop-i.buffer c.xor_stream.new.buffer c.keystream-stream.result (omega arith)
          c.loop-i.invariant.done c.loop-i.invariant.rest c.keystream-stream.ensures c.xor_stream.ensures.before c.xor_stream.ensures.inside k (omega arith);
      rest = λ k h. c.xor_stream.ensures.after k (omega arith) ∙ c.loop-i.invariant.rest k (omega arith);
    }

pub returns-then-rest-gt0 : goal.returns-then-rest-gt0
returns-then-rest-gt0 c =
    let rest = length c.loop-i.buffer - 64 * (length c.args.buffer.now / 64) in
    gctr_is c.args.key.now c.args.nonce.now c.args.first c.args.buffer.now c.xor_stream-then-rest-gt0.new.buffer (omega arith) (λ k h.
    added c.args.key.now c.args.nonce.now c.args.first (length c.args.buffer.now / 64) rest c.args.buffer.now c.loop-i.buffer c.xor_stream-then-rest-gt0.new.buffer
    c.keystream-stream-then-rest-gt0.result (omega arith)
    (λ i low. c.loop-i.invariant.done i (omega arith)) (λ i low. c.loop-i.invariant.rest i (omega arith))
    c.keystream-stream-then-rest-gt0.ensures c.xor_stream-then-rest-gt0.ensures.before c.xor_stream-then-rest-gt0.ensures.inside k (omega arith))

pub returns-else-rest-gt0 : goal.returns-else-rest-gt0
returns-else-rest-gt0 c =
    gctr_is c.args.key.now c.args.nonce.now c.args.first c.args.buffer.now c.loop-i.buffer (omega arith) (λ k h. c.loop-i.invariant.done k (omega arith))
