-- The columns of a table, the bytes in which they keep their cells, and the pages that are written from them.
use Rattle.std.specs.Prelude.{◌≡◌, ◌≢◌, ℕ, zero, suc, ◌+◌, ◌-◌, ◌*◌, ◌/◌, ◌<◌, ◌≤◌, ◌==◌, Bool, true, false, if◌then◌else◌, List, [], ◌∷◌, ◌++◌, take, drop, map, replicate, length, slice_get, slice_index, FitsSigned, Option, option_and_then, Ok}
use Rattle.std.specs.Int.{w32, w64, to_le_bytes, cast_unsigned}
use Rattle.std.specs.List.{AllByRecursion}
use Rattle.parquet_types.specs.declared.column.ColumnKind.{ColumnKind}
use Rattle.parquet_types.specs.declared.column.ColumnKind.TheVariants.{Boolean, Int32, Int64, Int96, Float, Double, ByteArray, Fixed}
use Rattle.parquet_types.specs.declared.column.ColumnSpec.{ColumnSpec}
use Rattle.parquet_types.specs.declared.page_head.DataHead.{DataHead}
use Rattle.pme_base.specs.declared.place.Place.{Place}
use Rattle.hybrid_runs.specs.Written.{bits_text, run_text}
use Rattle.plain_pages.specs.Cells.{Cell, null, bool, int32, int64, bytes}
use Rattle.plain_pages.specs.ColumnSpecs.{IsColumnSpec}
use Rattle.plain_pages.specs.Plain.{cell_at, value_of, value_size}
use Rattle.plain_pages.specs.Pages.{page, is_coded}

-- a column of a table: its description and its cells
pub record Column : Type 0 where
  pub spec : ColumnSpec
  pub cells : List Cell

-- a cell is a value of this physical type
abbrev pub IsValueOf : ColumnKind → Cell → Type 0
IsValueOf Boolean (bool b) = Unit {0}
IsValueOf Int32 (int32 n) = FitsSigned w32 n
IsValueOf Int64 (int64 n) = FitsSigned w64 n
IsValueOf Int96 (bytes xs) = length xs ≡ 12
IsValueOf Float (bytes xs) = length xs ≡ 4
IsValueOf Double (bytes xs) = length xs ≡ 8
IsValueOf ByteArray (bytes xs) = length xs ≤ 268435456
IsValueOf (Fixed n) (bytes xs) = length xs ≡ n
IsValueOf _ _ = ⊥

-- a cell that a column may hold: a value of its physical type, or null if the column is OPTIONAL
abbrev pub IsCellOf : ColumnSpec → Cell → Type 0
IsCellOf spec null = spec.optional ≡ true
IsCellOf spec cell = IsValueOf spec.kind cell

abbrev pub AreCellsOf : ColumnSpec → List Cell → Type 0
AreCellsOf spec [] = Unit {0}
AreCellsOf spec (cell ∷ cells) = IsCellOf spec cell × AreCellsOf spec cells

-- ---- stored bytes
-- the stored bytes of a cell: none for a null, a byte of 0 or 1 for a boolean, and PLAIN for every other type
abbrev pub text_of : ColumnKind → Cell → List ℕ
text_of kind null = []
text_of kind (bool b) = (if b then 1 else 0) ∷ []
text_of kind (int32 n) = to_le_bytes w32 (cast_unsigned w32 n)
text_of kind (int64 n) = to_le_bytes w64 (cast_unsigned w64 n)
text_of ByteArray (bytes xs) = to_le_bytes w32 (length xs) ++ xs
text_of _ (bytes xs) = xs

-- the stored bytes of a list of cells
abbrev pub values_text : ColumnKind → List Cell → List ℕ
values_text kind [] = []
values_text kind (cell ∷ cells) = text_of kind cell ++ values_text kind cells

abbrev pub level_of : Cell → ℕ
level_of null = 0
level_of _ = 1

abbrev pub levels_of : List Cell → List ℕ
levels_of cells = map level_of cells

-- the number of bytes that a cell with this definition level takes at the front of `front`
abbrev pub size_kept : ColumnKind → ℕ → List ℕ → ℕ
size_kept kind zero front = 0
size_kept kind (suc _) front = value_size kind front

-- the cells with these definition levels and stored bytes: each value begins where the previous one ends
abbrev pub cells_kept : ColumnKind → List ℕ → List ℕ → List Cell
cells_kept kind [] values = []
cells_kept kind (zero ∷ levels) values = null ∷ cells_kept kind levels values
cells_kept kind (suc _ ∷ levels) values = value_of kind values ∷ cells_kept kind levels (drop (value_size kind values) values)

-- the stored value that begins at offset `start`
abbrev pub value_kept : ColumnKind → ℕ → List ℕ → Cell
value_kept Boolean start values = value_of Boolean (drop start values)
value_kept kind start values = cell_at kind start values

-- the offset in the stored bytes at which a row begins; for the row after the last, the end of the bytes
abbrev pub start_of : ColumnKind → List Cell → ℕ → ℕ
start_of kind cells row = length (values_text kind (take row cells))

-- `marks` holds the offset of every sixteenth cell in the stored bytes
pub record AreMarks (kind : ColumnKind) (cells : List Cell) (marks : List ℕ) : Type 0 where
  pub enough : length cells ≤ 16 * length marks
  pub few : 16 * length marks ≤ length cells + 16
  pub place : (k : ℕ) → k < length marks → slice_index marks k ≡ start_of kind cells (16 * k)

-- the marks after the next cell's offset has been appended, which is done if its number is a multiple of 16
abbrev pub marked : ℕ → ℕ → List ℕ → List ℕ
marked count place marks = if count / 16 == length marks then marks ++ place ∷ [] else marks

-- these levels, marks and values are the representation of a column with these cells
pub record Keeps (spec : ColumnSpec) (cells : List Cell) (levels marks values : List ℕ) : Type 0 where
  pub of_spec : AreCellsOf spec cells
  pub levels_are : levels ≡ levels_of cells
  pub values_are : values ≡ values_text spec.kind cells
  pub marks_are : AreMarks spec.kind cells marks

-- the definition levels of `count` cells: the kept ones in an OPTIONAL column, otherwise all 1
abbrev pub levels_in : Bool → ℕ → List ℕ → List ℕ
levels_in optional count kept = if optional then kept else replicate count 1

-- the invariant of a column: its description can be expressed in a header, its fields represent its cells, and the list of
-- levels has the capacity for every cell up to the next mark
pub record IsKept (spec : ColumnSpec) (cells : List Cell) (count : ℕ) (levels marks values : List ℕ) (capacity : ℕ) : Type 0 where
  pub named : IsColumnSpec spec
  pub counted : count ≡ length cells
  pub kept : Keeps spec cells (levels_in spec.optional count levels) marks values
  pub has_capacity : spec.optional ≡ true → 16 * length marks ≤ capacity

-- ---- tables
-- the number of rows: the number of cells in the first column
abbrev pub rows_of : List Column → ℕ
rows_of [] = 0
rows_of (column ∷ columns) = length column.cells

abbrev pub AreOfLength : ℕ → List Column → Type 0
AreOfLength rows [] = Unit {0}
AreOfLength rows (column ∷ columns) = (length column.cells ≡ rows) × AreOfLength rows columns

-- all columns have the same number of cells
abbrev pub HaveOneLength : List Column → Type 0
HaveOneLength columns = AreOfLength (rows_of columns) columns

-- none of the columns has this name
abbrev pub IsNewName : List ℕ → List Column → Type 0
IsNewName name columns = AllByRecursion (λ (column : Column). column.spec.name ≢ name) columns

-- all columns can be expressed in a header, and their names are different
abbrev pub AreNamed : List Column → Type 0
AreNamed [] = Unit {0}
AreNamed (column ∷ columns) = IsColumnSpec column.spec × IsNewName column.spec.name columns × AreNamed columns

-- columns that form a table: equal lengths and different names
pub record IsTable (columns : List Column) : Type 0 where
  pub even : HaveOneLength columns
  pub named : AreNamed columns

-- a column that may be appended to these columns: it has their length, or any length if it is the first
abbrev pub IsNextColumn : List Column → Column → Type 0
IsNextColumn [] column = Unit {0}
IsNextColumn (first ∷ columns) column = length column.cells ≡ length first.cells

-- the cell in a column and a row of a table
abbrev pub cell_in : List Column → ℕ → ℕ → Option Cell
cell_in table column row = option_and_then (λ (c : Column). slice_get c.cells row) (slice_get table column)

-- ---- pages
-- the PLAIN encoding of stored values: booleans are packed into bits, other values are unchanged
abbrev pub plain_text : ColumnKind → List ℕ → List ℕ
plain_text Boolean values = bits_text values
plain_text kind values = values

-- definition levels in a page: one bit-packed run, preceded by its length in four bytes
abbrev pub levels_text : List ℕ → List ℕ
levels_text levels = to_le_bytes w32 (length (run_text levels)) ++ run_text levels

-- the page body with these definition levels and stored values; only an OPTIONAL column has levels
unfoldable pub page_of : ColumnSpec → List ℕ → List ℕ → List ℕ
page_of spec levels values = (if spec.optional then levels_text levels else []) ++ plain_text spec.kind values

-- the page body that is written for these cells
abbrev pub page_text : ColumnSpec → List Cell → List ℕ
page_text spec cells = page_of spec (levels_of cells) (values_text spec.kind cells)

-- the cells of rows `from` (included) to `to` (excluded)
abbrev pub rows_between : ℕ → ℕ → List Cell → List Cell
rows_between from to cells = take (to - from) (drop from cells)

-- a body is read as these cells under every page header that gives their number and the PLAIN encoding, with any dictionary
abbrev pub IsPageOf : ColumnSpec → List Cell → List ℕ → Type 0
IsPageOf spec cells body =
    (place : Place) (head : DataHead) (entries : List Cell) → cast_unsigned w32 head.num_values ≡ length cells → is_coded head.encoding ≡ false
    → page place spec head entries body ≡ Ok cells

-- the page that is written for at most 16,777,216 cells is read as these cells
abbrev pub PagesReadBack : Type 0
PagesReadBack = (spec : ColumnSpec) (cells : List Cell) → AreCellsOf spec cells → length cells ≤ 16777216 → IsPageOf spec cells (page_text spec cells)
