use Rattle.std.proofs.Common.{◌∷◌, [], lit<, lit≤, subst, sym, refl}
use Rattle.plain_pages.specs.ColumnSpecs.{IsColumnName}
use Rattle.table_text.proofs.CellLemmas.{ascii_text}
use Rattle.table_tests.proofs.pages.column_of.Goals as goal

-- `a` is a valid column name
named : IsColumnName (97 ∷ [])
named = record { not_empty = lit< tt; utf8 = ascii_text (97 ∷ []) refl; short = lit≤ tt }

pub new-requires : goal.new-requires
new-requires c = record { name = subst IsColumnName (sym c.in_ok-copy_of.ensures) named; word = c.requires }
