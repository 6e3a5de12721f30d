use Rattle.std.proofs.Common.{◌≡◌}
use Rattle.table_text.specs.Records.{IsReading, to_come}
use Rattle.table_text.specs.Tables.{rows_added}
use Rattle.table_text.proofs.from_csv.read_rows.Given as goal

abbrev pub invariant-loop-entry : goal.invariant-loop-entry
invariant-loop-entry l = record {
  reading : IsReading l.reader;
  rest : rows_added 1 l.fn.columns.items (to_come l.fn.reader) ≡ rows_added l.entry l.columns.items (to_come l.reader);
}
