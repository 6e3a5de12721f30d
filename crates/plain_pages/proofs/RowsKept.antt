-- Lemmas about a range of rows: its definition levels and its part of the stored bytes.
use Rattle.std.proofs.Common.{inl, inr, ◌≡◌, ◌≢◌, true, ℕ, zero, suc, ◌+◌, ◌*◌, ◌-◌, ◌<◌, ◌≤◌, List, [], ◌∷◌, ◌++◌, take, drop, length, get_or, refl, sym, ap, ◌∙◌, arith, append_assoc, length-append, length-take}
use Rattle.std.proofs.Math.Seq.{take-add, take-suc}
use Rattle.std.proofs.lemmas.Bool.{cases_Bool}
use Rattle.std.proofs.lemmas.List.{take_at, drop_at, take-append-drop, take_all, take-map, drop-map}
use Rattle.parquet_types.specs.declared.column.ColumnKind.{ColumnKind}
use Rattle.parquet_types.specs.declared.column.ColumnSpec.{ColumnSpec}
use Rattle.plain_pages.specs.Cells.{Cell, null, bool, int32, int64, bytes}
use Rattle.plain_pages.specs.Columns.{text_of, values_text, level_of, levels_of, rows_between, size_kept, value_kept, start_of, IsValueOf, IsCellOf, AreCellsOf, Keeps, page_of}
use Rattle.plain_pages.proofs.Kept.{reads_as, read_kept, values_text-append, values_text-push}

take_between : (from to : ℕ) (cells : List Cell) → from ≤ to → take to cells ≡ take from cells ++ rows_between from to cells
take_between from to cells h = let e : to ≡ from + (to - from) = omega arith in ap (λ n. take n cells) e ∙ take-add from (to - from) cells

values_between : (kind : ColumnKind) (from to : ℕ) (cells : List Cell) → from ≤ to
    → values_text kind (take to cells) ≡ values_text kind (take from cells) ++ values_text kind (rows_between from to cells)
values_between kind from to cells h = ap (values_text kind) (take_between from to cells h) ∙ values_text-append kind (take from cells) (rows_between from to cells)

values_split : (kind : ColumnKind) (to : ℕ) (cells : List Cell) → values_text kind cells ≡ values_text kind (take to cells) ++ values_text kind (drop to cells)
values_split kind to cells = ap (values_text kind) (sym (take-append-drop to cells)) ∙ values_text-append kind (take to cells) (drop to cells)

pub start_le : (kind : ColumnKind) (from to : ℕ) (cells : List Cell) → from ≤ to → length (values_text kind (take from cells)) ≤ length (values_text kind (take to cells))
start_le kind from to cells h =
    omega (arith, ap length (values_between kind from to cells h), length-append (values_text kind (take from cells)) (values_text kind (rows_between from to cells)))

pub end_le : (kind : ColumnKind) (to : ℕ) (cells : List Cell) → length (values_text kind (take to cells)) ≤ length (values_text kind cells)
end_le kind to cells =
    omega (arith, ap length (values_split kind to cells), length-append (values_text kind (take to cells)) (values_text kind (drop to cells)))

-- the bytes between the starts of two rows are the stored bytes of the rows between them
pub values_cut : (kind : ColumnKind) (from to start end : ℕ) (cells : List Cell) (values : List ℕ) → from ≤ to → values ≡ values_text kind cells
    → start ≡ length (values_text kind (take from cells)) → end ≡ length (values_text kind (take to cells))
    → take (end - start) (drop start values) ≡ values_text kind (rows_between from to cells)
values_cut kind from to start end cells values h e f g =
    let rows = values_text kind (rows_between from to cells) in
    let later = values_text kind (drop to cells) in
    let whole : values ≡ values_text kind (take from cells) ++ (rows ++ later) =
    e ∙ values_split kind to cells ∙ ap (λ vs. vs ++ later) (values_between kind from to cells h) ∙ append_assoc (values_text kind (take from cells)) rows later in
    let long : length (values_text kind (take to cells)) ≡ length (values_text kind (take from cells)) + length rows =
    ap length (values_between kind from to cells h) ∙ length-append (values_text kind (take from cells)) rows in
    let size : length rows ≡ end - start = omega arith in
    ap (λ vs. take (end - start) (drop start vs)) whole
    ∙ ap (take (end - start)) (drop_at (values_text kind (take from cells)) (rows ++ later) start (sym f))
    ∙ take_at rows later (end - start) size

pub levels_cut : (from to : ℕ) (cells : List Cell) (levels : List ℕ) → levels ≡ levels_of cells
    → take (to - from) (drop from levels) ≡ levels_of (rows_between from to cells)
levels_cut from to cells levels e =
    ap (λ ls. take (to - from) (drop from ls)) e
    ∙ ap (take (to - from)) (drop-map level_of from cells)
    ∙ take-map level_of (to - from) (drop from cells)

-- ---- one row
split_at : (cells : List Cell) (row : ℕ) → row < length cells → cells ≡ take row cells ++ (get_or cells row null ∷ drop (suc row) cells)
split_at [] row h = absurd (omega arith)
split_at (c ∷ cells) zero h = refl
split_at (c ∷ cells) (suc row) h = ap (λ cs. c ∷ cs) (split_at cells row (omega arith))

-- the stored bytes are the bytes of the rows before a row, of the row itself, and of the rows after it
values_at : (kind : ColumnKind) (cells : List Cell) (row : ℕ) → row < length cells
    → values_text kind cells ≡ values_text kind (take row cells) ++ (text_of kind (get_or cells row null) ++ values_text kind (drop (suc row) cells))
values_at kind cells row h = ap (values_text kind) (split_at cells row h) ∙ values_text-append kind (take row cells) (get_or cells row null ∷ drop (suc row) cells)

pub of_spec_at : (spec : ColumnSpec) (cells : List Cell) (row : ℕ) → AreCellsOf spec cells → row < length cells → IsCellOf spec (get_or cells row null)
of_spec_at spec [] row all h = absurd (omega arith)
of_spec_at spec (c ∷ cells) zero all h = all.0
of_spec_at spec (c ∷ cells) (suc row) all h = of_spec_at spec cells row all.1 (omega arith)

level_at : (cells : List Cell) (row : ℕ) → row < length cells → get_or (levels_of cells) row 0 ≡ level_of (get_or cells row null)
level_at [] row h = absurd (omega arith)
level_at (c ∷ cells) zero h = refl
level_at (c ∷ cells) (suc row) h = level_at cells row (omega arith)

null_by : (cell : Cell) → level_of cell ≡ 0 → cell ≡ null
null_by null e = refl
null_by (bool b) e = absurd (omega arith)
null_by (int32 n) e = absurd (omega arith)
null_by (int64 n) e = absurd (omega arith)
null_by (bytes xs) e = absurd (omega arith)

value_by : (spec : ColumnSpec) (cell : Cell) → IsCellOf spec cell → level_of cell ≢ 0 → IsValueOf spec.kind cell
value_by spec null h e = absurd (e refl)
value_by spec (bool b) h e = h
value_by spec (int32 n) h e = h
value_by spec (int64 n) h e = h
value_by spec (bytes xs) h e = h

-- a cell with level 0 is null
pub null_read : (spec : ColumnSpec) (cells : List Cell) (levels marks values : List ℕ) (row : ℕ) → Keeps spec cells levels marks values → row < length cells
    → get_or levels row 0 ≡ 0 → get_or cells row null ≡ null
null_read spec cells levels marks values row k h e =
    null_by (get_or cells row null) (sym (level_at cells row h) ∙ ap (λ ls. get_or ls row 0) (sym k.levels_are) ∙ e)

-- a cell with another level is the value that is read at its offset
pub value_read : (spec : ColumnSpec) (cells : List Cell) (levels marks values : List ℕ) (row : ℕ) → Keeps spec cells levels marks values → row < length cells
    → get_or levels row 0 ≢ 0 → value_kept spec.kind (start_of spec.kind cells row) values ≡ get_or cells row null
value_read spec cells levels marks values row k h e =
    let cell = get_or cells row null in
    let level : level_of cell ≡ get_or levels row 0 = sym (level_at cells row h) ∙ ap (λ ls. get_or ls row 0) (sym k.levels_are) in
    let value : IsValueOf spec.kind cell = value_by spec cell (of_spec_at spec cells row k.of_spec h) (λ z. e (sym level ∙ z)) in
    rw (k.values_are, values_at spec.kind cells row h)
    (read_kept spec.kind cell (values_text spec.kind (take row cells)) (values_text spec.kind (drop (suc row) cells)) value)

size_by : (spec : ColumnSpec) (cell : Cell) (rest : List ℕ) → IsCellOf spec cell → size_kept spec.kind (level_of cell) (text_of spec.kind cell ++ rest) ≡ length (text_of spec.kind cell)
size_by spec null rest h = refl
size_by spec (bool b) rest h = (reads_as spec.kind (bool b) h).size rest
size_by spec (int32 n) rest h = (reads_as spec.kind (int32 n) h).size rest
size_by spec (int64 n) rest h = (reads_as spec.kind (int64 n) h).size rest
size_by spec (bytes xs) rest h = (reads_as spec.kind (bytes xs) h).size rest

-- a row's bytes end at the offset of the next row
pub row_passed : (spec : ColumnSpec) (cells : List Cell) (levels marks values : List ℕ) (row start level : ℕ) → Keeps spec cells levels marks values → row < length cells
    → level ≡ get_or levels row 0 → start ≡ start_of spec.kind cells row → start + size_kept spec.kind level (drop start values) ≡ start_of spec.kind cells (row + 1)
row_passed spec cells levels marks values row start level k h e s =
    let kind = spec.kind in
    let cell = get_or cells row null in
    let pre = values_text kind (take row cells) in
    let rest = values_text kind (drop (suc row) cells) in
    let here : level ≡ level_of cell = e ∙ ap (λ ls. get_or ls row 0) k.levels_are ∙ level_at cells row h in
    let front : drop start values ≡ text_of kind cell ++ rest =
    ap (drop start) (k.values_are ∙ values_at kind cells row h) ∙ drop_at pre (text_of kind cell ++ rest) start (sym s) in
    let size : size_kept kind level (drop start values) ≡ length (text_of kind cell) = rw (here, front) (size_by spec cell rest (of_spec_at spec cells row k.of_spec h)) in
    let one : row + 1 ≡ suc row = omega arith in
    let next : take (row + 1) cells ≡ take row cells ++ cell ∷ [] = ap (λ n. take n cells) one ∙ take-suc cells row null h in
    let behind : start_of kind cells (row + 1) ≡ start_of kind cells row + length (text_of kind cell) =
    ap (λ cs. length (values_text kind cs)) next ∙ ap length (values_text-push kind (take row cells) cell) ∙ length-append pre (text_of kind cell) in
    omega (arith, size, s, behind)

-- one step of the loop in `start_of` reaches the next row's offset, which is within the bytes
pub row_step : (spec : ColumnSpec) (cells : List Cell) (levels marks values : List ℕ) (row start level size : ℕ) → Keeps spec cells levels marks values → row < length cells
    → level ≡ get_or levels row 0 → start ≡ start_of spec.kind cells row
    → (start + size_kept spec.kind level (drop start values) ≤ length values → size ≡ size_kept spec.kind level (drop start values))
    → (start + size ≡ start_of spec.kind cells (row + 1)) × (start + size ≤ length values)
row_step spec cells levels marks values row start level size k h e s answered =
    let next = row_passed spec cells levels marks values row start level k h e s in
    let inside : start_of spec.kind cells (row + 1) ≤ length values = omega (arith, end_le spec.kind (row + 1) cells, ap length k.values_are) in
    let same : size ≡ size_kept spec.kind level (drop start values) = answered (omega (arith, next, inside)) in
    let whole : start + size ≡ start_of spec.kind cells (row + 1) = omega (arith, same, next) in
    (whole, omega (arith, whole, inside))

pub mark_read : (spec : ColumnSpec) (cells : List Cell) (levels marks values : List ℕ) (row start : ℕ) → Keeps spec cells levels marks values → row < length marks
    → start ≡ get_or marks row 0 → start ≡ start_of spec.kind cells (16 * row)
mark_read spec cells levels marks values row start k h e = e ∙ k.marks_are.place row h

-- the offset of the row after the last is the number of stored bytes
pub end_read : (spec : ColumnSpec) (cells : List Cell) (levels marks values : List ℕ) (row end : ℕ) → Keeps spec cells levels marks values → length cells ≤ row
    → end ≡ length values → end ≡ start_of spec.kind cells row
end_read spec cells levels marks values row end k h e =
    e ∙ ap length k.values_are ∙ ap (λ cs. length (values_text spec.kind cs)) (sym (take_all row cells h))

all_take : (spec : ColumnSpec) (n : ℕ) (cells : List Cell) → AreCellsOf spec cells → AreCellsOf spec (take n cells)
all_take spec zero cells h = tt
all_take spec (suc n) [] h = tt
all_take spec (suc n) (c ∷ cells) h = (h.0, all_take spec n cells h.1)

all_drop : (spec : ColumnSpec) (n : ℕ) (cells : List Cell) → AreCellsOf spec cells → AreCellsOf spec (drop n cells)
all_drop spec zero cells h = h
all_drop spec (suc n) [] h = tt
all_drop spec (suc n) (c ∷ cells) h = all_drop spec n cells h.1

pub all_rows : (spec : ColumnSpec) (from to : ℕ) (cells : List Cell) → AreCellsOf spec cells → AreCellsOf spec (rows_between from to cells)
all_rows spec from to cells h = all_take spec (to - from) (drop from cells) (all_drop spec from cells h)

pub few_rows : (from to : ℕ) (cells : List Cell) → length (rows_between from to cells) ≤ to - from
few_rows from to cells = omega (arith, length-take (to - from) (drop from cells))

-- a page of a REQUIRED column doesn't depend on its levels
pub page_same : (spec : ColumnSpec) (levels all values : List ℕ) → (spec.optional ≡ true → levels ≡ all) → page_of spec levels values ≡ page_of spec all values
unfolding page_of
page_same spec levels all values same = elim (cases_Bool spec.optional) [
  | inl optional ↦ rw (optional, same optional) refl
  | inr required ↦ rw required refl
]
