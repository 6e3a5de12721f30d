use Rattle.std.proofs.Common.{◌≡◌, ℕ, ◌*◌, ◌<◌, [], get_or, length}
use Rattle.gcm_field.specs.Field.{reversed}
use Rattle.gcm_field.specs.Table.{table_row}
use Rattle.gcm_field.proofs.TableLemmas.{IsPower}
use Rattle.gcm_field.proofs.hash_key.fill_table.Given as goal

abbrev pub invariant-loop-k : goal.invariant-loop-k
invariant-loop-k l =
    record {
      whole : length l.table ≡ 32;
      written : (j : ℕ) → j < l.k → get_or l.table j [] ≡ table_row (reversed l.fn.h) j;
      power : IsPower (reversed l.fn.h) (4 * l.k) l.a;
    }
