use Rattle.std.proofs.Common.{sym}
use Rattle.table_text.proofs.CellLemmas.{text_size}
use Rattle.table_text.proofs.fields.push_text.Goals as goal

pub push-requires : goal.push-requires
push-requires c = rw c.requires.kind (text_size c.args.field.now c.in-Some.text.now 268435456 (sym c.in-Some.ensures) c.requires.size)
