use Rattle.std.proofs.Common.{◌≡◌, ℕ, [], map, get_or, refl, sym, ap, ◌∙◌, arith}
use Rattle.std.proofs.Math.ListN.{length-set}
use Rattle.std.specs.Int.{w128, to_be_bytes}
use Rattle.std.specs.List.{range_with_len}
use Rattle.std.proofs.lemmas.List.Edits.{fill_by_more}
use Rattle.std.proofs.lemmas.List.FromFn.{fill_by_all}
use Rattle.gcm_field.proofs.hash_key.blocks_of.Goals as goal

pub loop-v-preserved : goal.loop-v-preserved
loop-v-preserved c =
    let f = λ (k : ℕ). to_be_bytes w128 (get_or c.args.row.now k 0) in
    let more = fill_by_more f c.loop-v.blocks c.loop-v.v [] (omega arith) c.loop-v.invariant.written in
    record {
      whole = length-set c.loop-v.blocks c.loop-v.v c.to_be_bytes.result ∙ c.loop-v.invariant.whole;
      written = rw c.to_be_bytes.ensures more;
    }

pub returns : goal.returns
returns c =
    let products = c.args.row.now in
    let listed : products ≡ map (λ k. get_or products k 0) (range_with_len 0 16) = fill_by_all (λ k. get_or products k 0) products 16 0 (omega arith) (λ k h. refl) in
    fill_by_all (λ k. to_be_bytes w128 (get_or products k 0)) c.loop-v.blocks 16 [] c.loop-v.invariant.whole (λ k h. c.loop-v.invariant.written k (omega arith))
    ∙ sym (ap (map (to_be_bytes w128)) listed)
