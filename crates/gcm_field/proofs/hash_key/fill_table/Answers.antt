use Rattle.std.proofs.Common.{◌≡◌, suc, ◌+◌, ◌*◌, ◌^◌, ◌<◌, [], sym, ap, ◌∙◌, arith}
use Rattle.std.proofs.Math.ListN.{length-set}
use Rattle.std.proofs.lemmas.List.Edits.{fill_by_more}
use Rattle.std.proofs.lemmas.List.FromFn.{fill_by_all}
use Rattle.gcm_field.specs.Field.{reversed}
use Rattle.gcm_field.specs.Table.{table_row, table_of}
use Rattle.gcm_field.proofs.Folds.{reduced, reduced_small}
use Rattle.gcm_field.proofs.Reversal.{reversed_lt}
use Rattle.gcm_field.proofs.TableLemmas.{IsPower, power_next, row_is}
use Rattle.gcm_field.proofs.hash_key.fill_table.Goals as goal

pub loop-k-init : goal.loop-k-init
loop-k-init c =
    let one : reversed c.args.h * 2 ^ 0 ≡ reversed c.args.h = omega arith in
    record {
      whole = omega arith;
      written = λ j h. absurd (omega arith);
      power = (omega arith, sym (ap reduced one ∙ reduced_small (reversed c.args.h) (reversed_lt c.args.h)));
    }

pub loop-k-preserved : goal.loop-k-preserved
loop-k-preserved c =
    let h = reversed c.args.h in
    let k = c.loop-k.k in
    let small : h < 2 ^ 128 = reversed_lt c.args.h in
    let pa = c.loop-k.invariant.power in
    let pb : IsPower h (suc (4 * k)) c.times_x-b.result = power_next h (4 * k) c.loop-k.a c.times_x-b.result small (omega arith) pa (omega arith) c.times_x-b.ensures in
    let pc : IsPower h (suc (suc (4 * k))) c.times_x-c.result = power_next h (suc (4 * k)) c.times_x-b.result c.times_x-c.result small (omega arith) pb (omega arith) c.times_x-c.ensures in
    let pd : IsPower h (suc (suc (suc (4 * k)))) c.times_x-d.result = power_next h (suc (suc (4 * k))) c.times_x-c.result c.times_x-d.result small (omega arith) pc (omega arith) c.times_x-d.ensures in
    let pe : IsPower h (suc (suc (suc (suc (4 * k))))) c.times_x-a.result = power_next h (suc (suc (suc (4 * k)))) c.times_x-d.result c.times_x-a.result small (omega arith) pd (omega arith) c.times_x-a.ensures in
    let row : c.sums.result ≡ table_row h k =
    c.sums.ensures ∙ row_is h k c.loop-k.a c.times_x-b.result c.times_x-c.result c.times_x-d.result (omega arith) pa pb pc pd in
    let place : suc (suc (suc (suc (4 * k)))) ≡ 4 * (k + 1) = omega arith in
    record {
      whole = length-set c.loop-k.table k c.sums.result ∙ c.loop-k.invariant.whole;
      written = rw row (fill_by_more (table_row h) c.loop-k.table k [] (omega arith) c.loop-k.invariant.written);
      power = (pe.0, pe.1 ∙ ap (λ n. reduced (h * 2 ^ n)) place);
    }

pub returns : goal.returns
unfolding table_of
returns c =
    fill_by_all (table_row (reversed c.args.h)) c.loop-k.table 32 [] c.loop-k.invariant.whole (λ k h. c.loop-k.invariant.written k (omega arith))
