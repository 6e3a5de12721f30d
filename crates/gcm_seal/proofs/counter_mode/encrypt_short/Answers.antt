use Rattle.std.proofs.Common.{◌<◌, ◌≢◌, length, take, get_or, bit_xor, ap, ◌∙◌, arith, below_more, get_or-set_other, get_or-set_same}
use Rattle.std.specs.Int.Bits.{xor_comm}
use Rattle.std.proofs.Math.ListN.{length-set}
use Rattle.std.proofs.lemmas.List.{get_or-take, length-take-le}
use Rattle.gcm_seal.proofs.Texts.{gctr_is}
use Rattle.gcm_seal.proofs.counter_mode.encrypt_short.Goals as goal

pub loop-j-preserved : goal.loop-j-preserved
loop-j-preserved c =
    record {
      whole = length-set c.loop-j.stream c.loop-j.j _ ∙ c.loop-j.invariant.whole;
      done = below_more _ _
          (λ k h. let ne : k ≢ c.loop-j.j = omega arith in rw get_or-set_other (c.loop-j.invariant.done k h))
          (let lt : c.loop-j.j < length c.loop-j.stream = omega (arith, c.loop-j.invariant.whole) in rw get_or-set_same (ap (λ b. bit_xor b (get_or c.args.text.now c.loop-j.j 0)) (c.loop-j.invariant.rest c.loop-j.j (omega arith))
          ∙ xor_comm (get_or c.keystream-stream.result c.loop-j.j 0) (get_or c.args.text.now c.loop-j.j 0)));
      rest = λ k h. let ne : k ≢ c.loop-j.j = omega arith in rw get_or-set_other (c.loop-j.invariant.rest k (omega arith));
    }

pub returns : goal.returns
returns c =
    let text = c.args.text.now in
    gctr_is c.args.key.now c.args.nonce.now c.args.first text (take (length text) c.loop-j.stream)
    (length-take-le (length text) c.loop-j.stream (omega (arith, c.loop-j.invariant.whole)))
    (λ k h. get_or-take (length text) c.loop-j.stream k 0 h ∙ c.loop-j.invariant.done k (omega arith)
    ∙ ap (λ b. bit_xor (get_or text k 0) b) (c.keystream-stream.ensures k (omega arith)))
