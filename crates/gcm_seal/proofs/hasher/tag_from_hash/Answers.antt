use Rattle.std.proofs.Common.{◌<◌, ◌≢◌, length, get_or, bit_xor, ap, ◌∙◌, arith, below_more, get_or-set_other, get_or-set_same}
use Rattle.std.proofs.Math.ListN.{length-set}
use Rattle.std.specs.Int.{w128, to_be_bytes}
use Rattle.std.proofs.lemmas.List.FromFn.{fill_by_all}
use Rattle.gcm_seal.proofs.hasher.tag_from_hash.Goals as goal

pub loop-i-preserved : goal.loop-i-preserved
loop-i-preserved c =
    record {
      whole = length-set c.loop-i.tag c.loop-i.i _ ∙ c.loop-i.invariant.whole;
      done = below_more _ _
          (λ k h. let ne : k ≢ c.loop-i.i = omega arith in rw get_or-set_other (c.loop-i.invariant.done k h))
          (let lt : c.loop-i.i < length c.loop-i.tag = omega arith in rw get_or-set_same (ap (λ b. bit_xor b (get_or c.args.mask.now c.loop-i.i 0)) (c.loop-i.invariant.rest c.loop-i.i (omega arith))));
      rest = λ k h. let ne : k ≢ c.loop-i.i = omega arith in rw get_or-set_other (c.loop-i.invariant.rest k (omega arith));
    }

pub returns : goal.returns
returns c =
    fill_by_all (λ i. bit_xor (get_or (to_be_bytes w128 c.args.hash) i 0) (get_or c.args.mask.now i 0)) c.loop-i.tag 16 0 c.loop-i.invariant.whole
    (λ k h. c.loop-i.invariant.done k (omega arith) ∙ ap (λ b. bit_xor (get_or b k 0) (get_or c.args.mask.now k 0)) c.to_be_bytes-tag.ensures)
