-- Lemmas about appending one cell and one record to the columns of a table.
use Rattle.std.proofs.Common.{subst, Result, add-one, Ok, Err, ◌≡◌, ◌≢◌, ◌==◌, map, ℕ, zero, suc, ◌+◌, ◌<◌, ◌≤◌, Some, None, List, [], ◌∷◌, ◌++◌, take, drop, set, length, get_or, Option, refl, sym, ap, ◌∙◌, arith, append_assoc, inl, inr}
use Rattle.std.specs.Option.{option_map}
use Rattle.std.proofs.Math.Seq.{drop-cons}
use Rattle.std.proofs.lemmas.Bool.{cases_Bool, eqb-true}
use Rattle.std.proofs.lemmas.List.{take_more_set, drop-set-lt, length-append}
use Rattle.std.specs.FinSet.{empty}
use Rattle.csv.specs.Records.{field_at}
use Rattle.pme_base.specs.Steps.{◌>>=◌}
use Rattle.parquet_types.specs.declared.column.ColumnSpec.{ColumnSpec}
use Rattle.plain_pages.specs.Cells.{Cell}
use Rattle.plain_pages.specs.ColumnSpecs.{IsColumnSpec}
use Rattle.plain_pages.specs.Columns.{AreNamed, AreOfLength, Column, HaveOneLength, IsCellOf, IsNewName, IsTable}
use Rattle.table_text.proofs.HeaderLemmas.{field_found, onto}
use Rattle.table_text.proofs.HeaderSpecs.{header_columns}
use Rattle.table_text.specs.Cells.{cell_read}
use Rattle.table_text.specs.Headers.{columns_read}
use Rattle.table_text.specs.Records.{AreShort}
use Rattle.table_text.specs.Tables.{IsRecordRefusalOf, IsRefusalOf, at_entry, at_field, prepend_column, cell_added, in_record, row_added, row_read, rows_added, with_cell, Spot}
use Rattle.table_text.specs.declared.from_csv.TableRefusal.{TableRefusal}
use Rattle.table_text.specs.declared.from_csv.TableRefusal.TheVariants.{Bad, OutOfMemory as NoMemory}
use Rattle.table_text.specs.declared.refusals.FieldRefusal.{FieldRefusal}
use Rattle.table_text.specs.declared.refusals.FieldRefusal.TheVariants.{Bad as FieldBad, OutOfMemory as FieldMemory}
use Rattle.table_text.specs.declared.refusals.RecordRefusal.{RecordRefusal}
use Rattle.table_text.specs.declared.refusals.RecordRefusal.TheVariants.{BadField, OutOfMemory as RecordMemory}

before_some : (place : ℕ) (done : List Column) (new : Column) (rest : Result (List Column) ℕ) → onto done (prepend_column place (Some new) rest) ≡ onto (done ++ new ∷ []) rest
before_some place done new (Ok columns) = ap Ok (sym (append_assoc done (new ∷ []) columns))
before_some place done new (Err field) = refl

pub row_turn : (place : ℕ) (columns : List Column) (fields : List (List ℕ)) (field : List ℕ) (old new : Column) → place < length columns
    → old ≡ get_or columns place old → field_at fields place ≡ Some field → cell_added old field ≡ Some new
    → onto (take place columns) (row_added place (drop place columns) (drop place fields))
    ≡ onto (take (place + 1) (set columns place new)) (row_added (place + 1) (drop (place + 1) (set columns place new)) (drop (place + 1) fields))
row_turn place columns fields field old new inside at found cell =
    let first : drop place columns ≡ old ∷ drop (suc place) columns = drop-cons columns place old inside ∙ ap (λ (t : Column). t ∷ drop (suc place) columns) (sym at) in
    rw (first, field_found fields place field found, cell, take_more_set columns place new inside, add-one place, drop-set-lt (suc place) columns place new (omega arith))
    (before_some place (take place columns) new (row_added (suc place) (drop (suc place) columns) (drop (suc place) fields)))

pub row_bad : (place : ℕ) (columns : List Column) (fields : List (List ℕ)) (field : List ℕ) (old : Column) → place < length columns
    → old ≡ get_or columns place old → field_at fields place ≡ Some field → cell_added old field ≡ None
    → onto (take place columns) (row_added place (drop place columns) (drop place fields)) ≡ Err place
row_bad place columns fields field old inside at found cell =
    let first : drop place columns ≡ old ∷ drop (suc place) columns = drop-cons columns place old inside ∙ ap (λ (t : Column). t ∷ drop (suc place) columns) (sym at) in
    rw (first, field_found fields place field found, cell) refl

pub refused_at : (answer : Result (List Column) ℕ) (error : FieldRefusal) (field : ℕ) → (error ≡ FieldBad → answer ≡ Err field) → IsRecordRefusalOf answer (at_field error field)
refused_at answer FieldBad field h = h refl
refused_at answer FieldMemory field h = tt

pub refused_in : (answer : Result (List Column) ℕ) (error : RecordRefusal) (entry : ℕ) → IsRecordRefusalOf answer error → IsRefusalOf (at_entry entry answer) (in_record error entry)
refused_in answer (BadField field) entry h = rw h refl
refused_in answer RecordMemory entry h = tt

-- appending a record keeps the lengths of the columns equal, and their descriptions unchanged
abbrev specs_of : List Column → List ColumnSpec
specs_of columns = map (λ (column : Column). column.spec) columns

abbrev Grown : ℕ → List Column → List Column → Type 0
Grown n columns more = AreOfLength n more × (specs_of more ≡ specs_of columns)

grown_row : (n place : ℕ) (columns more : List Column) (fields : List (List ℕ)) → AreOfLength n columns → length fields ≡ length columns
    → row_added place columns fields ≡ Ok more → Grown (n + 1) columns more
grown_row n place [] more fields h long e = let same : [] ≡ more = cc e in rw (← same) (tt, refl)
grown_row n place (c ∷ cs) more [] h long e = absurd (omega (arith, long))
grown_row n place (c ∷ cs) more (f ∷ fs) h long e =
    elim (cell_read c.spec f) as (λ o. prepend_column place (option_map (with_cell c) o) (row_added (place + 1) cs fs) ≡ Ok more → Grown (n + 1) (c ∷ cs) more) [
      | None ↦ λ no_cell. cc no_cell
      | Some x ↦ λ found. elim (row_added (place + 1) cs fs) as (λ r. row_added (place + 1) cs fs ≡ r → prepend_column place (Some (with_cell c x)) r ≡ Ok more → Grown (n + 1) (c ∷ cs) more) [
        | Ok rest ↦ λ is whole.
            let same : with_cell c x ∷ rest ≡ more = cc whole in
            let grown = grown_row n (place + 1) cs rest fs h.1 (omega (arith, long)) is in
            rw (← same)
            ((length-append c.cells (x ∷ []) ∙ ap (λ (t : ℕ). t + 1) h.0, grown.0), ap (λ (specs : List ColumnSpec). c.spec ∷ specs) grown.1)
        | Err b ↦ λ is whole. cc whole
      ] refl found
    ] e

grown_rows : (rows : List (List (List ℕ))) (n entry : ℕ) (columns more : List Column) → AreOfLength n columns → rows_added entry columns rows ≡ Ok more → (m : ℕ) × Grown m columns more
grown_rows [] n entry columns more h e = let same : columns ≡ more = cc e in (n, rw (← same) (h, refl))
grown_rows (row ∷ rows) n entry columns more h e = elim (cases_Bool (length row == length columns)) [
  | inr other ↦ cc (rw other at e)
  | inl long ↦
      elim (row_added 0 columns row) as (λ r. row_added 0 columns row ≡ r → (at_entry entry r >>= λ next. rows_added (entry + 1) next rows) ≡ Ok more → (m : ℕ) × Grown m columns more) [
        | Ok next ↦ λ is rest.
            let one = grown_row n 0 columns next row h (eqb-true _ _ long) is in
            let all = grown_rows rows (n + 1) (entry + 1) next more one.0 rest in
            (all.0, (all.1.0, all.1.1 ∙ one.1))
        | Err b ↦ λ is rest. cc rest
      ] refl (rw long at e)
]

new_as : (name : List ℕ) (columns more : List Column) → specs_of columns ≡ specs_of more → IsNewName name columns → IsNewName name more
new_as name [] [] e h = tt
new_as name [] (d ∷ ds) e h = cc e
new_as name (c ∷ cs) [] e h = cc e
new_as name (c ∷ cs) (d ∷ ds) e h =
    let first : c.spec ≡ d.spec = cc e in
    let rest : specs_of cs ≡ specs_of ds = cc e in
    (subst (λ (spec : ColumnSpec). spec.name ≢ name) first h.0, new_as name cs ds rest h.1)

named_as : (columns more : List Column) → specs_of columns ≡ specs_of more → AreNamed columns → AreNamed more
named_as [] [] e h = tt
named_as [] (d ∷ ds) e h = cc e
named_as (c ∷ cs) [] e h = cc e
named_as (c ∷ cs) (d ∷ ds) e h =
    let first : c.spec ≡ d.spec = cc e in
    let rest : specs_of cs ≡ specs_of ds = cc e in (
      subst IsColumnSpec first h.0,
      subst (λ (spec : ColumnSpec). IsNewName spec.name ds) first (new_as c.spec.name cs ds rest h.1),
      named_as cs ds rest h.2,
    )

one_length : (n : ℕ) (columns : List Column) → AreOfLength n columns → HaveOneLength columns
one_length n [] h = tt
one_length n (c ∷ columns) h = (refl, subst (λ (k : ℕ). AreOfLength k columns) (sym h.0) h.1)

pub whole_table : (fields : List (List ℕ)) (rows : List (List (List ℕ))) (columns more : List Column) → AreShort fields → columns_read 0 empty fields ≡ Ok columns
    → rows_added 1 columns rows ≡ Ok more → IsTable more
whole_table fields rows columns more short header added =
    let headed = header_columns fields 0 empty columns short header in
    let grown = grown_rows rows 0 1 columns more headed.empty added in
    record { even = one_length grown.0 more grown.1.0; named = named_as columns more (sym grown.1.1) headed.named }

-- one step of the loop over the records
pub rows_step : (entry : ℕ) (columns more : List Column) (row : List (List ℕ)) (all rest : List (List (List ℕ))) → all ≡ row ∷ rest
    → row_read entry columns row ≡ Ok more → rows_added entry columns all ≡ rows_added (entry + 1) more rest
rows_step entry columns more row all rest is read = rw is (ap (λ (r : Result (List Column) Spot). r >>= λ (next : List Column). rows_added (entry + 1) next rest) read)

pub rows_refused : (entry : ℕ) (columns : List Column) (row : List (List ℕ)) (all rest : List (List (List ℕ))) (error : TableRefusal) → all ≡ row ∷ rest
    → IsRefusalOf (row_read entry columns row) error → IsRefusalOf (rows_added entry columns all) error
rows_refused entry columns row all rest (Bad e f) is read = rw is (ap (λ (r : Result (List Column) Spot). r >>= λ (next : List Column). rows_added (entry + 1) next rest) read)
rows_refused entry columns row all rest NoMemory is read = tt

pub short_at : (fields : List (List ℕ)) (i : ℕ) (field : List ℕ) → AreShort fields → field_at fields i ≡ Some field → length field ≤ 268435456
unfolding field_at
short_at [] i field h e = cc e
short_at (f ∷ fields) zero field h e = let same : f ≡ field = cc e in rw (← same) h.0
short_at (f ∷ fields) (suc i) field h e = short_at fields i field h.1 e

-- a cell of a table is a cell of its column
pub cell_fits : (column : Option Column) (spec : ColumnSpec) (cell : Cell) → option_map (λ (c : Column). c.spec) column ≡ Some spec
    → ((c : Column) → column ≡ Some c → IsCellOf c.spec cell) → IsCellOf spec cell
cell_fits None spec cell e h = cc e
cell_fits (Some c) spec cell e h = let same : c.spec ≡ spec = cc e in rw (← same) (h c refl)
