-- Round trips: cells, headings, records and tables are read back from the text that is written for them.
use Rattle.std.specs.Prelude.{◌≡◌, ℕ, zero, suc, ◌+◌, ◌<◌, Bool, true, false, List, [], ◌∷◌, ◌++◌, map, length, slice_get, slice_index_or, Some, Ok}
use Rattle.std.specs.FinSet.{contains, empty, insert}
use Rattle.std.specs.List.{AllByRecursion}
use Rattle.std.specs.Str.{is_utf8}
use Rattle.hex.specs.Hex.{IsBytes}
use Rattle.csv.specs.Machine.{next_record}
use Rattle.csv.specs.Reading.{default_config, strip_bom}
use Rattle.csv.specs.Writing.{default_writer, row_text}
use Rattle.csv.specs.declared.parser.State.TheVariants as st
use Rattle.parquet_types.specs.declared.column.ColumnKind.{ColumnKind}
use Rattle.parquet_types.specs.declared.column.ColumnKind.TheVariants.{ByteArray}
use Rattle.parquet_types.specs.declared.column.ColumnSpec.{ColumnSpec}
use Rattle.plain_pages.specs.Cells.{Cell, null, bytes}
use Rattle.plain_pages.specs.ColumnSpecs.{HasWord}
use Rattle.plain_pages.specs.Columns.{AreCellsOf, Column, HaveOneLength, IsCellOf, rows_of}
use Rattle.table_text.specs.declared.column_type.ColumnType.{ColumnType}
use Rattle.table_text.specs.Cells.{cell_read}
use Rattle.table_text.specs.Headers.{Names, heading_read, is_name}
use Rattle.table_text.specs.Tables.{table}
use Rattle.table_text.specs.Texts.{cell_text, heading_text, headings}
use Rattle.table_text.specs.Types.{column_type}

-- the bytes of a value can be read back: in a text column they must be UTF-8, in other columns any bytes will do
abbrev pub AreSpelled : ColumnKind → Bool → List ℕ → Type 0
AreSpelled ByteArray true xs = is_utf8 xs ≡ true
AreSpelled _ _ xs = IsBytes xs

-- a cell can be read back from its text
abbrev pub IsSpelled : ColumnSpec → Cell → Type 0
IsSpelled spec (bytes xs) = AreSpelled spec.kind spec.text xs
IsSpelled spec _ = Unit {0}

-- the text of a cell is read back as the same cell
abbrev pub CellsReadBack : Type 0
CellsReadBack = (spec : ColumnSpec) (cell : Cell) → IsCellOf spec cell → IsSpelled spec cell → cell_read spec (cell_text spec cell) ≡ Some cell

-- a column description that a header can express
pub record IsNameable (spec : ColumnSpec) : Type 0 where
  pub name : is_name spec.name ≡ true
  pub word : HasWord spec.kind spec.text

-- the type of a column
abbrev pub type_of : ColumnSpec → ColumnType
type_of spec = column_type spec.optional spec.text spec.kind

-- the heading of a column is read back as its name and type
abbrev pub HeadingsReadBack : Type 0
HeadingsReadBack = (spec : ColumnSpec) → IsNameable spec → heading_read (heading_text spec) ≡ Some (spec.name, type_of spec)

-- the text of a record is read back as its fields, whatever follows it
abbrev pub RecordsReadBack : Type 0
RecordsReadBack =
    (fields : List (List ℕ)) (tail : List ℕ) → 0 < length fields
    → next_record default_config st.StartRecord [] [] (row_text default_writer fields ++ tail) ≡ Some (fields, st.StartRecord, tail)

-- ---- whole tables
-- columns that a header can express, with names that differ from each other and from the earlier ones
abbrev pub AreNameable : Names → List Column → Type 0
AreNameable earlier [] = Unit {0}
AreNameable earlier (column ∷ columns) =
    IsNameable column.spec × (contains earlier column.spec.name ≡ false) × AreNameable (insert earlier column.spec.name) columns

-- columns whose cells are valid for them and can be read back
abbrev pub AreSpelledColumns : List Column → Type 0
AreSpelledColumns [] = Unit {0}
AreSpelledColumns (column ∷ columns) =
    AreCellsOf column.spec column.cells × AllByRecursion (IsSpelled column.spec) column.cells × AreSpelledColumns columns

-- the texts of the cells in a row
abbrev pub row_fields : ℕ → List Column → List (List ℕ)
row_fields row columns = map (λ (column : Column). cell_text column.spec (slice_index_or column.cells row null)) columns

-- the texts of the cells in `rows` rows from row `row` on
abbrev pub rows_fields : ℕ → ℕ → List Column → List (List (List ℕ))
rows_fields row zero columns = []
rows_fields row (suc rows) columns = row_fields row columns ∷ rows_fields (row + 1) rows columns

-- the columns have the descriptions of the chosen columns of a schema
abbrev pub AreChosen : List ColumnSpec → List ℕ → List Column → Type 0
AreChosen schema [] [] = Unit {0}
AreChosen schema (place ∷ places) (column ∷ columns) = (slice_get schema place ≡ Some column.spec) × AreChosen schema places columns
AreChosen schema _ _ = ⊥

-- the records of a table: the header of the chosen columns, then a record for each row
abbrev pub table_records : List ColumnSpec → List ℕ → List Column → List (List (List ℕ))
table_records schema chosen columns = headings schema chosen ∷ rows_fields 0 (rows_of columns) columns

-- the text of records, one after another
abbrev pub records_text : List (List (List ℕ)) → List ℕ
records_text [] = []
records_text (fields ∷ records) = row_text default_writer fields ++ records_text records

-- the text of a table: its header, then a record for each row
abbrev pub text_of_table : List ColumnSpec → List ℕ → List Column → List ℕ
text_of_table schema chosen columns = records_text (table_records schema chosen columns)

-- the text of a table is read back as the table, unless its first name begins with a byte order mark, which is skipped
abbrev pub TablesReadBack : Type 0
TablesReadBack =
    (schema : List ColumnSpec) (chosen : List ℕ) (columns : List Column) → 0 < length columns → HaveOneLength columns → AreChosen schema chosen columns
    → AreNameable empty columns → AreSpelledColumns columns
    → strip_bom (text_of_table schema chosen columns) ≡ text_of_table schema chosen columns → table (text_of_table schema chosen columns) ≡ Ok columns
