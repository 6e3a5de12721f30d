-- Lemmas for Table::add: a column of the right length and with a new name keeps the columns a table.
use Rattle.std.proofs.Common.{◌≡◌, ◌≢◌, ℕ, zero, suc, List, [], ◌∷◌, ◌++◌, length, Some, refl, sym}
use Rattle.std.specs.List.{slice_get}
use Rattle.plain_pages.specs.ColumnSpecs.{IsColumnSpec}
use Rattle.plain_pages.specs.Columns.{Column, rows_of, AreOfLength, AreNamed, HaveOneLength, IsNewName, IsTable, IsNextColumn}

one_more : (rows : ℕ) (columns : List Column) (column : Column) → AreOfLength rows columns → length column.cells ≡ rows → AreOfLength rows (columns ++ column ∷ [])
one_more rows [] column h e = (e, tt)
one_more rows (c ∷ columns) column h e = (h.0, one_more rows columns column h.1 e)

longer : (columns : List Column) (column : Column) → HaveOneLength columns → IsNextColumn columns column → HaveOneLength (columns ++ column ∷ [])
longer [] column h next = (refl, tt)
longer (c ∷ columns) column h next = one_more (length c.cells) (c ∷ columns) column h next

new_behind : (name : List ℕ) (columns : List Column) (column : Column) → IsNewName name columns → column.spec.name ≢ name → IsNewName name (columns ++ column ∷ [])
new_behind name [] column h other = (other, tt)
new_behind name (c ∷ columns) column h other = (h.0, new_behind name columns column h.1 other)

named_more : (columns : List Column) (column : Column) → AreNamed columns → IsColumnSpec column.spec → IsNewName column.spec.name columns → AreNamed (columns ++ column ∷ [])
named_more [] column h spec new = (spec, tt, tt)
named_more (c ∷ columns) column h spec new =
    (h.0, new_behind c.spec.name columns column h.1 (λ same. new.0 (sym same)), named_more columns column h.2 spec new.1)

pub next_table : (columns : List Column) (column : Column) → IsTable columns → IsNextColumn columns column → IsColumnSpec column.spec → IsNewName column.spec.name columns
    → IsTable (columns ++ column ∷ [])
next_table columns column h next spec new = record { even = longer columns column h.even next; named = named_more columns column h.named spec new }

rows_at : (rows : ℕ) (columns : List Column) (i : ℕ) (column : Column) → AreOfLength rows columns → slice_get columns i ≡ Some column → length column.cells ≡ rows
rows_at rows [] i column h e = absurd (cc)
rows_at rows (c ∷ columns) zero column h e = let same : c ≡ column = cc in rw (← same) h.0
rows_at rows (c ∷ columns) (suc i) column h e = rows_at rows columns i column h.1 e

pub column_rows : (columns : List Column) (i : ℕ) (column : Column) → IsTable columns → slice_get columns i ≡ Some column → length column.cells ≡ rows_of columns
column_rows columns i column h e = rows_at (rows_of columns) columns i column h.even e
