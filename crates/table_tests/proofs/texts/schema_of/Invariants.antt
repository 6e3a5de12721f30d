use Rattle.std.proofs.Common.{◌≡◌, length}
use Rattle.table_tests.proofs.texts.schema_of.Given as goal

abbrev pub invariant-loop-column : goal.invariant-loop-column
invariant-loop-column l = length l.schema ≡ l.column
