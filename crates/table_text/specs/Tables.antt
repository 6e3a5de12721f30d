-- The table that a CSV text stands for, or the first bad record and its first bad field.
use Rattle.std.specs.Prelude.{◌≡◌, ℕ, ◌+◌, ◌==◌, if◌then◌else◌, List, [], ◌∷◌, ◌++◌, length, ⊤, Option, Some, None, option_map, Result, Ok, Err}
use Rattle.std.specs.FinSet.{empty}
use Rattle.plain_pages.specs.Cells.{Cell}
use Rattle.plain_pages.specs.Columns.{Column}
use Rattle.pme_base.specs.Steps.{◌>>=◌}
use Rattle.table_text.specs.declared.from_csv.TableRefusal.{TableRefusal}
use Rattle.table_text.specs.declared.from_csv.TableRefusal.TheVariants.{Bad, OutOfMemory}
use Rattle.table_text.specs.declared.refusals.FieldRefusal.{FieldRefusal}
use Rattle.table_text.specs.declared.refusals.FieldRefusal.TheVariants.{Bad as FieldBad, OutOfMemory as FieldMemory}
use Rattle.table_text.specs.declared.refusals.RecordRefusal.{RecordRefusal}
use Rattle.table_text.specs.declared.refusals.RecordRefusal.TheVariants.{BadField, OutOfMemory as RecordMemory}
use Rattle.table_text.specs.Cells.{cell_read}
use Rattle.table_text.specs.Headers.{columns_read}
use Rattle.table_text.specs.Records.{records_of}

-- a column with one more cell
abbrev pub with_cell : Column → Cell → Column
with_cell column cell = record column { cells = column.cells ++ cell ∷ [] }

-- a column with the cell that a field stands for
abbrev pub cell_added : Column → List ℕ → Option Column
cell_added column field = option_map (with_cell column) (cell_read column.spec field)

-- the column in front of the others, or the first bad field: number `place` if there is no column
abbrev pub prepend_column : ℕ → Option Column → Result (List Column) ℕ → Result (List Column) ℕ
prepend_column place None rest = Err place
prepend_column place (Some column) (Ok columns) = Ok (column ∷ columns)
prepend_column place (Some column) (Err bad) = Err bad

-- the columns with the cells of a record, or the number of the first field that is invalid for its column
abbrev pub row_added : ℕ → List Column → List (List ℕ) → Result (List Column) ℕ
row_added place [] fields = Ok []
row_added place (column ∷ columns) [] = Ok (column ∷ columns)
row_added place (column ∷ columns) (field ∷ fields) = prepend_column place (cell_added column field) (row_added (place + 1) columns fields)

-- the number of a record and the number of a field in it
abbrev pub Spot : Type 0
Spot = ℕ × ℕ

abbrev pub at_field : FieldRefusal → ℕ → RecordRefusal
at_field FieldBad field = BadField field
at_field FieldMemory field = RecordMemory

-- the error in record number `entry`
abbrev pub at_entry : ℕ → Result (List Column) ℕ → Result (List Column) Spot
at_entry entry (Ok columns) = Ok columns
at_entry entry (Err field) = Err (entry, field)

-- the columns with the cells of record number `entry`; a record of another length is reported at the field after the last
-- column
abbrev pub row_read : ℕ → List Column → List (List ℕ) → Result (List Column) Spot
row_read entry columns row =
    if length row == length columns then at_entry entry (row_added 0 columns row) else Err (entry, length columns)

-- the columns with the cells of these records, the first of which has number `entry`
abbrev pub rows_added : ℕ → List Column → List (List (List ℕ)) → Result (List Column) Spot
rows_added entry columns [] = Ok columns
rows_added entry columns (row ∷ rows) = row_read entry columns row >>= λ more. rows_added (entry + 1) more rows

-- the table with these records, the first of which is the header
abbrev pub table_of : List (List (List ℕ)) → Result (List Column) Spot
table_of [] = Err (0, 0)
table_of (names ∷ rows) = at_entry 0 (columns_read 0 empty names) >>= λ columns. rows_added 1 columns rows

-- the table that a text stands for
abbrev pub table : List ℕ → Result (List Column) Spot
table text = table_of (records_of text)

-- an error that is correct for this result: it reports the same record and field, or that memory was refused
abbrev pub IsRefusalOf : Result (List Column) Spot → TableRefusal → Type 0
IsRefusalOf answer (Bad entry field) = answer ≡ Err (entry, field)
IsRefusalOf answer OutOfMemory = ⊤

abbrev pub IsRecordRefusalOf : Result (List Column) ℕ → RecordRefusal → Type 0
IsRecordRefusalOf answer (BadField field) = answer ≡ Err field
IsRecordRefusalOf answer RecordMemory = ⊤

abbrev pub in_record : RecordRefusal → ℕ → TableRefusal
in_record (BadField field) entry = Bad entry field
in_record RecordMemory entry = OutOfMemory
