use Rattle.std.proofs.Common.{◌≡◌, ◌^◌, ◌<◌}
use Rattle.pme_terms.specs.Polynomials.{product_below}
use Rattle.gcm_field.specs.Field.{reversed}
use Rattle.gcm_field.proofs.Folds.{reduced}
use Rattle.gcm_field.proofs.TableLemmas.{IsPower}
use Rattle.gcm_field.proofs.bitwise.product.Given as goal

abbrev pub invariant-loop-i : goal.invariant-loop-i
invariant-loop-i l =
    record {
      fits : l.sum < 2 ^ 128;
      sum : reversed l.sum ≡ reduced (product_below (reversed l.x) (reversed l.y) l.i);
      power : IsPower (reversed l.y) l.i l.shifted;
    }
