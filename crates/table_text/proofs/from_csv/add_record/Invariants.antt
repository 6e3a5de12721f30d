use Rattle.std.proofs.Common.{◌≡◌, drop, length, take}
use Rattle.csv.specs.Records.{fields_of}
use Rattle.table_text.proofs.HeaderLemmas.{onto}
use Rattle.table_text.specs.Tables.{row_added}
use Rattle.table_text.proofs.from_csv.add_record.Given as goal

abbrev pub invariant-loop-i : goal.invariant-loop-i
invariant-loop-i l = record {
  long : length (fields_of l.record) ≡ length l.columns.items;
  rest : row_added 0 l.fn.columns.items (fields_of l.record) ≡ onto (take l.i l.columns.items) (row_added l.i (drop l.i l.columns.items) (drop l.i (fields_of l.record)));
}
