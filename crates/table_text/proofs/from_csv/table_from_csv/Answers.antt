use Rattle.csv.specs.Records.{fields_of}
use Rattle.table_text.proofs.TableLemmas.{whole_table}
use Rattle.table_text.specs.Records.{to_come}
use Rattle.table_text.proofs.from_csv.table_from_csv.Goals as goal

pub from_columns-requires : goal.from_columns-requires
from_columns-requires c =
    whole_table (fields_of c.read_next.new.record) (to_come c.read_next.new.reader) c.in-Ok-read_header.columns.items c.read_rows.new.columns.items (c.in-Ok.ensures.short c.if-not-found.false) c.in-Ok-read_header.ensures.ok c.in_default-read_rows.ensures.ok
