use Rattle.std.proofs.Common.{◌≡◌, ◌<◌, ℕ, length}
use Rattle.std.specs.List.{AllByRecursion}
use Rattle.table_tests.proofs.texts.all_columns.Given as goal

abbrev pub invariant-loop-column : goal.invariant-loop-column
invariant-loop-column l = (length l.chosen ≡ l.column) × AllByRecursion (λ (column : ℕ). column < l.fn.count) l.chosen
