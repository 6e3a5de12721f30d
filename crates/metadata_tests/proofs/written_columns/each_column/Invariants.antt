use Rattle.std.proofs.Common.{◌≤◌, length}
use Rattle.std.specs.List.{All}
use Rattle.parquet_writing.specs.Fitting.{FitsColumn}
use Rattle.metadata_tests.proofs.written_columns.each_column.Given as goal

abbrev pub invariant-loop-number : goal.invariant-loop-number
invariant-loop-number l = (length l.schema ≤ l.number) × All FitsColumn l.schema
