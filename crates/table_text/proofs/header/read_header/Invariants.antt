use Rattle.std.proofs.Common.{◌≡◌, drop}
use Rattle.std.specs.FinSet.{empty}
use Rattle.csv.specs.Records.{fields_of}
use Rattle.table_text.specs.Headers.{columns_read}
use Rattle.table_text.proofs.HeaderLemmas.{onto}
use Rattle.table_text.proofs.header.read_header.Given as goal

abbrev pub invariant-loop-i : goal.invariant-loop-i
invariant-loop-i l = columns_read 0 empty (fields_of l.names) ≡ onto l.columns.items (columns_read l.i l.earlier (drop l.i (fields_of l.names)))
