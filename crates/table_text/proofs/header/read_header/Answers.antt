use Rattle.csv.specs.Records.{fields_of}
use Rattle.table_text.proofs.TableLemmas.{short_at}
use Rattle.table_text.proofs.header.read_header.Goals as goal

pub add_column-requires : goal.add_column-requires
add_column-requires c = short_at (fields_of c.args.names.now) c.loop-i.i c.field_of-field.result.now c.requires c.field_of-field.ensures
