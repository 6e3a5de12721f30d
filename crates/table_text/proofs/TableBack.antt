-- The text of a table is read back as the same table.
use Rattle.std.proofs.Common.{◌≡◌, ℕ, zero, suc, ◌+◌, ◌<◌, List, [], ◌∷◌, ◌++◌, map, take, length, get_or, Some, None, Ok, refl, sym, ap, arith, ◌∙◌}
use Rattle.std.proofs.lemmas.Bool.{eq-eqb}
use Rattle.std.proofs.lemmas.List.{length-map, take_all, take_more}
use Rattle.std.specs.FinSet.{empty, insert}
use Rattle.std.specs.List.{AllByRecursion}
use Rattle.csv.specs.Machine.{next_record}
use Rattle.csv.specs.Reading.{default_config, strip_bom}
use Rattle.csv.specs.Writing.{default_writer, row_text}
use Rattle.csv.specs.declared.parser.State.TheVariants as st
use Rattle.csv.proofs.RoundTrip.{read-write}
use Rattle.parquet_types.specs.declared.column.ColumnSpec.{ColumnSpec}
use Rattle.plain_pages.specs.Cells.{Cell, null}
use Rattle.plain_pages.specs.Columns.{AreCellsOf, AreOfLength, Column, HaveOneLength, IsCellOf, rows_of}
use Rattle.table_text.specs.Headers.{Names, columns_read}
use Rattle.table_text.specs.ReadingBack.{AreChosen, AreNameable, AreSpelledColumns, IsSpelled, records_text, row_fields, rows_fields, table_records, text_of_table}
use Rattle.table_text.specs.Records.{records_left, records_of}
use Rattle.table_text.specs.Tables.{row_added, rows_added, table}
use Rattle.table_text.specs.Texts.{heading_text, headings}
use Rattle.table_text.proofs.CellBack.{cell_back}
use Rattle.table_text.proofs.HeaderBack.{heading_back}
use Rattle.table_text.proofs.RecordLemmas.{end_left, next_left}

-- ---- records
pub record_back : (fields : List (List ℕ)) (tail : List ℕ) → 0 < length fields
    → next_record default_config st.StartRecord [] [] (row_text default_writer fields ++ tail) ≡ Some (fields, st.StartRecord, tail)
record_back [] tail some = absurd (omega arith)
record_back (field ∷ fields) tail some = read-write (field ∷ fields) tail

abbrev AreSome : List (List (List ℕ)) → Type 0
AreSome records = AllByRecursion (λ (fields : List (List ℕ)). 0 < length fields) records

no_record : next_record default_config st.StartRecord [] [] [] ≡ None
unfolding next_record
no_record = refl

records_back : (records : List (List (List ℕ))) → AreSome records → records_left st.StartRecord (Some (records_text records)) ≡ records
records_back [] some = end_left st.StartRecord [] no_record
records_back (fields ∷ records) some =
    next_left st.StartRecord (row_text default_writer fields ++ records_text records) (fields, st.StartRecord, records_text records) (record_back fields (records_text records) some.0)
    ∙ ap (λ (rest : List (List (List ℕ))). fields ∷ rest) (records_back records some.1)

unmarked : (text : List ℕ) → strip_bom text ≡ text → records_of text ≡ records_left st.StartRecord (Some text)
unfolding records_of records_left
unmarked text bare = rw bare refl

rows_some : (rows row : ℕ) (columns : List Column) → 0 < length columns → AreSome (rows_fields row rows columns)
rows_some zero row columns some = tt
rows_some (suc rows) row columns some = (rw (length-map columns _) some, rows_some rows (row + 1) columns some)

-- ---- rows
-- the first cells of a column, and of all columns
abbrev first : ℕ → Column → Column
first n column = record { spec = column.spec; cells = take n column.cells }

abbrev firsts : ℕ → List Column → List Column
firsts n columns = map (λ (column : Column). first n column) columns

abbrev headings_of : List Column → List (List ℕ)
headings_of columns = map (λ (column : Column). heading_text column.spec) columns

are_headings : (schema : List ColumnSpec) (chosen : List ℕ) (columns : List Column) → AreChosen schema chosen columns → headings schema chosen ≡ headings_of columns
are_headings schema [] [] h = refl
are_headings schema [] (column ∷ columns) h = absurd h
are_headings schema (place ∷ places) [] h = absurd h
are_headings schema (place ∷ places) (column ∷ columns) h = rw (h.0, are_headings schema places columns h.1) refl

header_back : (columns : List Column) (place : ℕ) (earlier : Names) → AreNameable earlier columns → columns_read place earlier (headings_of columns) ≡ Ok (firsts 0 columns)
header_back [] place earlier h = refl
header_back (column ∷ columns) place earlier h =
    rw (heading_back column.spec h.0, h.1, header_back columns (place + 1) (insert earlier column.spec.name) h.2) refl

cell_at : (spec : ColumnSpec) (cells : List Cell) (n : ℕ) → AreCellsOf spec cells → n < length cells → IsCellOf spec (get_or cells n null)
cell_at spec [] n h inside = absurd (omega arith)
cell_at spec (cell ∷ cells) zero h inside = h.0
cell_at spec (cell ∷ cells) (suc n) h inside = cell_at spec cells n h.1 (omega arith)

spelled_at : (spec : ColumnSpec) (cells : List Cell) (n : ℕ) → AllByRecursion (IsSpelled spec) cells → n < length cells → IsSpelled spec (get_or cells n null)
spelled_at spec [] n h inside = absurd (omega arith)
spelled_at spec (cell ∷ cells) zero h inside = h.0
spelled_at spec (cell ∷ cells) (suc n) h inside = spelled_at spec cells n h.1 (omega arith)

row_back : (columns : List Column) (n rows place : ℕ) → AreOfLength rows columns → n < rows → AreSpelledColumns columns
    → row_added place (firsts n columns) (row_fields n columns) ≡ Ok (firsts (n + 1) columns)
row_back [] n rows place even small cells = refl
row_back (column ∷ columns) n rows place even small cells =
    let inside : n < length column.cells = omega (arith, even.0) in
    let back = cell_back column.spec (get_or column.cells n null) (cell_at column.spec column.cells n cells.0 inside) (spelled_at column.spec column.cells n cells.1 inside) in
    rw (back, row_back columns n rows (place + 1) even.1 small cells.2, take_more column.cells n null inside) refl

rows_back : (more n rows entry : ℕ) (columns : List Column) → AreOfLength rows columns → n + more ≡ rows → AreSpelledColumns columns
    → rows_added entry (firsts n columns) (rows_fields n more columns) ≡ Ok (firsts rows columns)
rows_back zero n rows entry columns even all cells = ap (λ (k : ℕ). Ok (firsts k columns)) (omega arith)
rows_back (suc more) n rows entry columns even all cells =
    let same : length (row_fields n columns) ≡ length (firsts n columns) = length-map columns _ ∙ sym (length-map columns _) in
    rw (eq-eqb (length (row_fields n columns)) (length (firsts n columns)) same, row_back columns n rows 0 even (omega arith) cells)
    (rows_back more (n + 1) rows (entry + 1) columns even (omega arith) cells)

whole : (rows : ℕ) (columns : List Column) → AreOfLength rows columns → firsts rows columns ≡ columns
whole rows [] even = refl
whole rows (column ∷ columns) even = rw (take_all rows column.cells (omega (arith, even.0)), whole rows columns even.1) refl

pub table_back : (schema : List ColumnSpec) (chosen : List ℕ) (columns : List Column) → 0 < length columns → HaveOneLength columns → AreChosen schema chosen columns
    → AreNameable empty columns → AreSpelledColumns columns
    → strip_bom (text_of_table schema chosen columns) ≡ text_of_table schema chosen columns → table (text_of_table schema chosen columns) ≡ Ok columns
table_back schema chosen columns some even of_schema names cells bare =
    let rows = rows_of columns in
    let named = are_headings schema chosen columns of_schema in
    let filled : 0 < length (headings schema chosen) = rw (named, length-map columns _) some in
    let read : records_of (text_of_table schema chosen columns) ≡ table_records schema chosen columns =
    unmarked (text_of_table schema chosen columns) bare ∙ records_back (table_records schema chosen columns) (filled, rows_some rows 0 columns some) in
    rw (read, named, header_back columns 0 empty names) (rows_back rows 0 rows 1 columns even (omega arith) cells ∙ ap Ok (whole rows columns even))
