use Rattle.std.proofs.Common.{◌≡◌, take}
use Rattle.table_text.specs.Texts.{headings}
use Rattle.table_text.proofs.texts.headings_of.Given as goal

abbrev pub invariant-loop-column : goal.invariant-loop-column
invariant-loop-column l = l.headings ≡ headings l.schema (take l.column-index l.chosen)
