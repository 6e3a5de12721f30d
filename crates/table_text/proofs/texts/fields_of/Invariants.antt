use Rattle.std.proofs.Common.{◌≡◌, map, take}
use Rattle.table_text.proofs.texts.fields_of.Given as goal

abbrev pub invariant-loop-cell : goal.invariant-loop-cell
invariant-loop-cell l = map (λ field. field.now) l.fields.items ≡ take l.cell-index l.cells
