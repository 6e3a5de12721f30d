use Rattle.std.proofs.Common.{◌≡◌}
use Rattle.table_text.specs.Generated.{state_after_rows, columns_of, rows_drawn, seeded}
use Rattle.table_text.proofs.generated.columns_drawn.Given as goal

abbrev pub invariant-loop-number : goal.invariant-loop-number
invariant-loop-number l = (l.columns ≡ columns_of (rows_drawn l.number (seeded l.fn.seed))) × (l.generator ≡ state_after_rows l.number (seeded l.fn.seed))
