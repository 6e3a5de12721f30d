use Rattle.std.proofs.Common.{sym}
use Rattle.table_text.proofs.CellLemmas.{sized_value}
use Rattle.table_text.proofs.fields.push_hex_of_size.Goals as goal

pub push-requires : goal.push-requires
push-requires c = sized_value _ c.args.size c.args.field.now c.in-Some.bytes.now c.requires (sym (rw c.in-Some.is at c.in_ok-bytes.ensures))
