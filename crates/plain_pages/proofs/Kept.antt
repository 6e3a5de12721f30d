-- A column's stored levels and bytes are read back as its cells, also after another cell is appended.
use Rattle.std.proofs.Common.{◌≡◌, ◌≢◌, ℕ, ℤ, suc, ◌+◌, ◌*◌, ◌/◌, ◌<◌, ◌≤◌, ◌==◌, nat_le, Bool, true, false, if◌then◌else◌, List, [], ◌∷◌, ◌++◌, take, drop, length, FitsSigned, refl, sym, ap, ◌∙◌, arith, append_assoc, length-append, below_more}
use Rattle.std.specs.Int.{w32, w64, to_le_bytes, from_le_bytes, cast_unsigned, cast_signed}
use Rattle.std.proofs.Math.ListN.{get_or-append}
use Rattle.std.proofs.Math.Seq.{get_or-append_seam}
use Rattle.std.proofs.lemmas.List.{append-nil, take_at, drop_at, take_all, take-append-le, length-map, map_push}
use Rattle.std.proofs.lemmas.Int.{to_z-of_z}
use Rattle.std.proofs.Math.Facts.{Fits-of_z}
use Rattle.std.proofs.lemmas.Nat.{from_le_bytes-to_le_bytes_4, from_le_bytes-to_le_bytes_8}
use Rattle.parquet_types.specs.declared.column.ColumnKind.{ColumnKind}
use Rattle.parquet_types.specs.declared.column.ColumnKind.TheVariants.{Boolean, Int32, Int64, Int96, Float, Double, ByteArray, Fixed}
use Rattle.parquet_types.specs.declared.column.ColumnSpec.{ColumnSpec}
use Rattle.plain_pages.specs.Cells.{Cell, null, bool, int32, int64, bytes}
use Rattle.plain_pages.specs.Plain.{value_of, value_size}
use Rattle.plain_pages.specs.Columns.{IsValueOf, IsCellOf, AreCellsOf, text_of, values_text, level_of, levels_of, value_kept, cells_kept, start_of, AreMarks, marked, IsKept, Keeps}

le_true : (m n : ℕ) → m ≤ n → nat_le m n ≡ true
le_true m n h = grind arith

-- `text` is read as `cell`, with its own length, whatever bytes follow it
pub record ReadsAs (kind : ColumnKind) (cell : Cell) (text : List ℕ) : Type 0 where
  pub size : (rest : List ℕ) → value_size kind (text ++ rest) ≡ length text
  pub value : (rest : List ℕ) → value_of kind (text ++ rest) ≡ cell

int32_reads : (n : ℤ) → FitsSigned w32 n → ReadsAs Int32 (int32 n) (to_le_bytes w32 (cast_unsigned w32 n))
int32_reads n fits = record {
  size = λ rest. refl;
  value = λ rest. ap (λ m. int32 (cast_signed w32 m)) (from_le_bytes-to_le_bytes_4 (cast_unsigned w32 n) (omega (arith, Fits-of_z fits))) ∙ ap int32 (to_z-of_z w32 n fits);
}

int64_reads : (n : ℤ) → FitsSigned w64 n → ReadsAs Int64 (int64 n) (to_le_bytes w64 (cast_unsigned w64 n))
int64_reads n fits = record {
  size = λ rest. refl;
  value = λ rest. ap (λ m. int64 (cast_signed w64 m)) (from_le_bytes-to_le_bytes_8 (cast_unsigned w64 n) (omega (arith, Fits-of_z fits))) ∙ ap int64 (to_z-of_z w64 n fits);
}

array_reads : (xs : List ℕ) → length xs ≤ 268435456 → ReadsAs ByteArray (bytes xs) (to_le_bytes w32 (length xs) ++ xs)
array_reads xs short =
    let back : from_le_bytes w32 (to_le_bytes w32 (length xs)) ≡ length xs = from_le_bytes-to_le_bytes_4 (length xs) (omega arith) in
    record {
      size = λ rest. ap (λ n. 4 + n) back ∙ (let e : 4 + length xs ≡ suc (suc (suc (suc (length xs)))) = omega arith in e);
      value = λ rest. ap (λ n. bytes (take n (xs ++ rest))) back ∙ ap bytes (take_at xs rest (length xs) refl);
    }

pub reads_as : (kind : ColumnKind) (cell : Cell) → IsValueOf kind cell → ReadsAs kind cell (text_of kind cell)
reads_as Int32 (int32 n) h = int32_reads n h
reads_as Int64 (int64 n) h = int64_reads n h
reads_as Int96 (bytes xs) h = record { size = λ rest. sym h; value = λ rest. ap bytes (take_at xs rest 12 h) }
reads_as Float (bytes xs) h = record { size = λ rest. sym h; value = λ rest. ap bytes (take_at xs rest 4 h) }
reads_as Double (bytes xs) h = record { size = λ rest. sym h; value = λ rest. ap bytes (take_at xs rest 8 h) }
reads_as ByteArray (bytes xs) h = array_reads xs h
reads_as (Fixed n) (bytes xs) h = record { size = λ rest. sym h; value = λ rest. ap bytes (take_at xs rest n h) }
reads_as Boolean (bool true) h = record { size = λ rest. refl; value = λ rest. refl }
reads_as Boolean (bool false) h = record { size = λ rest. refl; value = λ rest. refl }
reads_as _ _ h = absurd h

kept_by : (kind : ColumnKind) (cell : Cell) (text pre rest body : List ℕ) → ReadsAs kind cell text → body ≡ pre ++ (text ++ rest)
    → (if nat_le (length pre + value_size kind (drop (length pre) body)) (length body) then value_of kind (drop (length pre) body) else null) ≡ cell
kept_by kind cell text pre rest body reads e =
    let front : drop (length pre) body ≡ text ++ rest = ap (drop (length pre)) e ∙ drop_at pre (text ++ rest) (length pre) refl in
    let long : length body ≡ length pre + (length text + length rest) = ap length e ∙ length-append pre (text ++ rest) ∙ ap (λ n. length pre + n) (length-append text rest) in
    rw (front, reads.size rest, long, le_true (length pre + length text) (length pre + (length text + length rest)) (omega arith)) (reads.value rest)

-- a value is read back at its offset in the stored bytes
pub read_kept : (kind : ColumnKind) (cell : Cell) (pre rest : List ℕ) → IsValueOf kind cell
    → value_kept kind (length pre) (pre ++ (text_of kind cell ++ rest)) ≡ cell
read_kept Boolean cell pre rest h =
    ap (value_of Boolean) (drop_at pre (text_of Boolean cell ++ rest) (length pre) refl) ∙ (reads_as Boolean cell h).value rest
read_kept Int32 cell pre rest h = kept_by Int32 cell (text_of Int32 cell) pre rest _ (reads_as Int32 cell h) refl
read_kept Int64 cell pre rest h = kept_by Int64 cell (text_of Int64 cell) pre rest _ (reads_as Int64 cell h) refl
read_kept Int96 cell pre rest h = kept_by Int96 cell (text_of Int96 cell) pre rest _ (reads_as Int96 cell h) refl
read_kept Float cell pre rest h = kept_by Float cell (text_of Float cell) pre rest _ (reads_as Float cell h) refl
read_kept Double cell pre rest h = kept_by Double cell (text_of Double cell) pre rest _ (reads_as Double cell h) refl
read_kept ByteArray cell pre rest h = kept_by ByteArray cell (text_of ByteArray cell) pre rest _ (reads_as ByteArray cell h) refl
read_kept (Fixed n) cell pre rest h = kept_by (Fixed n) cell (text_of (Fixed n) cell) pre rest _ (reads_as (Fixed n) cell h) refl

-- ---- a whole column
kept_turn : (kind : ColumnKind) (cell : Cell) (cells : List Cell) (level : ℕ) → level ≡ 1 → IsValueOf kind cell → cells_kept kind (levels_of cells) (values_text kind cells) ≡ cells
    → cells_kept kind (level ∷ levels_of cells) (text_of kind cell ++ values_text kind cells) ≡ cell ∷ cells
kept_turn kind cell cells level one value before =
    let reads = reads_as kind cell value in
    let rest : drop (value_size kind (text_of kind cell ++ values_text kind cells)) (text_of kind cell ++ values_text kind cells) ≡ values_text kind cells =
    ap (λ n. drop n (text_of kind cell ++ values_text kind cells)) (reads.size (values_text kind cells)) ∙ drop_at (text_of kind cell) (values_text kind cells) _ refl in
    rw (one, rest, reads.value (values_text kind cells)) (ap (λ cs. cell ∷ cs) before)

pub kept_back : (spec : ColumnSpec) (cells : List Cell) → AreCellsOf spec cells → cells_kept spec.kind (levels_of cells) (values_text spec.kind cells) ≡ cells
kept_back spec [] h = refl
kept_back spec (null ∷ cells) h = ap (λ cs. null ∷ cs) (kept_back spec cells h.1)
kept_back spec (bool b ∷ cells) h = kept_turn spec.kind (bool b) cells 1 refl h.0 (kept_back spec cells h.1)
kept_back spec (int32 n ∷ cells) h = kept_turn spec.kind (int32 n) cells 1 refl h.0 (kept_back spec cells h.1)
kept_back spec (int64 n ∷ cells) h = kept_turn spec.kind (int64 n) cells 1 refl h.0 (kept_back spec cells h.1)
kept_back spec (bytes xs ∷ cells) h = kept_turn spec.kind (bytes xs) cells 1 refl h.0 (kept_back spec cells h.1)

-- ---- appending a cell
pub values_text-append : (kind : ColumnKind) (xs ys : List Cell) → values_text kind (xs ++ ys) ≡ values_text kind xs ++ values_text kind ys
values_text-append kind [] ys = refl
values_text-append kind (x ∷ xs) ys =
    ap (λ more. text_of kind x ++ more) (values_text-append kind xs ys) ∙ sym (append_assoc (text_of kind x) (values_text kind xs) (values_text kind ys))

pub values_text-push : (kind : ColumnKind) (cells : List Cell) (cell : Cell) → values_text kind (cells ++ cell ∷ []) ≡ values_text kind cells ++ text_of kind cell
values_text-push kind cells cell = values_text-append kind cells (cell ∷ []) ∙ ap (λ more. values_text kind cells ++ more) (append-nil (text_of kind cell))

all_push : (spec : ColumnSpec) (cells : List Cell) (cell : Cell) → AreCellsOf spec cells → IsCellOf spec cell → AreCellsOf spec (cells ++ cell ∷ [])
all_push spec [] cell h one = (one, tt)
all_push spec (c ∷ cells) cell h one = (h.0, all_push spec cells cell h.1 one)

-- the marks stay correct when the next cell's mark is appended
marks_marked : (kind : ColumnKind) (cells : List Cell) (marks : List ℕ) (place : ℕ) → AreMarks kind cells marks → 16 * length marks ≡ length cells
    → place ≡ length (values_text kind cells) → AreMarks kind cells (marks ++ place ∷ [])
marks_marked kind cells marks place m e p =
    let long : length (marks ++ place ∷ []) ≡ length marks + 1 = length-append marks (place ∷ []) in
    let last : start_of kind cells (16 * length marks) ≡ length (values_text kind cells) = ap (λ cs. length (values_text kind cs)) (take_all (16 * length marks) cells m.enough) in
    record {
      enough = omega (arith, long, m.enough);
      few = omega (arith, long);
      place = rw long (below_more _ _
          (λ k h. get_or-append marks (place ∷ []) 0 k h ∙ m.place k h)
          (get_or-append_seam marks place [] 0 ∙ p ∙ sym last));
    }

-- the marks stay correct when a cell is appended that already has its mark
marks_push : (kind : ColumnKind) (cells : List Cell) (cell : Cell) (marks : List ℕ) → AreMarks kind cells marks → length cells < 16 * length marks
    → AreMarks kind (cells ++ cell ∷ []) marks
marks_push kind cells cell marks m capacity =
    let long : length (cells ++ cell ∷ []) ≡ length cells + 1 = length-append cells (cell ∷ []) in
    record {
      enough = omega (arith, long);
      few = omega (arith, long, m.few);
      place = λ k h. m.place k h ∙ ap (λ cs. length (values_text kind cs)) (sym (take-append-le (16 * k) cells (cell ∷ []) (omega (arith, m.few))));
    }

pub length-levels : (spec : ColumnSpec) (cells : List Cell) (levels marks values : List ℕ) → Keeps spec cells levels marks values → length levels ≡ length cells
length-levels spec cells levels marks values k = ap length k.levels_are ∙ length-map cells level_of

pub few_marks : (spec : ColumnSpec) (cells : List Cell) (levels marks values : List ℕ) → Keeps spec cells levels marks values → 16 * length marks ≤ length levels + 16
few_marks spec cells levels marks values k = omega (arith, k.marks_are.few, length-levels spec cells levels marks values k)

with_marks : (spec : ColumnSpec) (cells : List Cell) (levels marks values more : List ℕ) → Keeps spec cells levels marks values → AreMarks spec.kind cells more
    → Keeps spec cells levels more values
with_marks spec cells levels marks values more k m = record { of_spec = k.of_spec; levels_are = k.levels_are; values_are = k.values_are; marks_are = m }

-- a column's representation that already has the mark of the next cell
pub record Ready (spec : ColumnSpec) (cells : List Cell) (levels marks values : List ℕ) : Type 0 where
  pub kept : Keeps spec cells levels marks values
  pub capacity : length cells < 16 * length marks

ready_by : (spec : ColumnSpec) (cells : List Cell) (levels marks values : List ℕ) (due : Bool) → Keeps spec cells levels marks values
    → (length levels / 16 == length marks) ≡ due → Ready spec cells levels (if due then marks ++ length values ∷ [] else marks) values
ready_by spec cells levels marks values true k e =
    let whole : length levels / 16 ≡ length marks = grind arith in
    let same : 16 * length marks ≡ length levels = omega (arith, whole, k.marks_are.enough, length-levels spec cells levels marks values k) in
    let long : length (marks ++ length values ∷ []) ≡ length marks + 1 = length-append marks (length values ∷ []) in
    let more = marks_marked spec.kind cells marks (length values) k.marks_are (same ∙ length-levels spec cells levels marks values k) (ap length k.values_are) in
    record { kept = with_marks spec cells levels marks values _ k more; capacity = omega (arith, long, k.marks_are.enough) }
ready_by spec cells levels marks values false k e =
    let other : length levels / 16 ≢ length marks = grind arith in
    record { kept = k; capacity = omega (arith, other, length-levels spec cells levels marks values k, k.marks_are.enough) }

pub ready : (spec : ColumnSpec) (cells : List Cell) (levels marks values : List ℕ) → Keeps spec cells levels marks values
    → Ready spec cells levels (marked (length levels) (length values) marks) values
ready spec cells levels marks values k = ready_by spec cells levels marks values (length levels / 16 == length marks) k refl

pub keeps_whole : (spec : ColumnSpec) (cells : List Cell) (levels marks values : List ℕ) → Keeps spec cells levels marks values → cells_kept spec.kind levels values ≡ cells
keeps_whole spec cells levels marks values k = rw (k.levels_are, k.values_are) (kept_back spec cells k.of_spec)

pub keeps_push : (spec : ColumnSpec) (cells : List Cell) (cell : Cell) (levels marks values levels' values' : List ℕ) → Ready spec cells levels marks values
    → IsCellOf spec cell → levels' ≡ levels ++ level_of cell ∷ [] → values' ≡ values ++ text_of spec.kind cell
    → Keeps spec (cells ++ cell ∷ []) levels' marks values'
keeps_push spec cells cell levels marks values levels' values' r one e g = record {
  of_spec = all_push spec cells cell r.kept.of_spec one;
  levels_are = e ∙ ap (λ ls. ls ++ level_of cell ∷ []) r.kept.levels_are ∙ sym (map_push level_of cells cell);
  values_are = g ∙ ap (λ vs. vs ++ text_of spec.kind cell) r.kept.values_are ∙ sym (values_text-push spec.kind cells cell);
  marks_are = marks_push spec.kind cells cell marks r.kept.marks_are r.capacity;
}

-- the cells that are read after a cell has been appended
pub pushed_cells : (spec : ColumnSpec) (cells : List Cell) (cell : Cell) (levels marks values levels' values' : List ℕ) → Ready spec cells levels marks values
    → IsCellOf spec cell → levels' ≡ levels ++ level_of cell ∷ [] → values' ≡ values ++ text_of spec.kind cell
    → cells_kept spec.kind levels' values' ≡ cells ++ cell ∷ []
pushed_cells spec cells cell levels marks values levels' values' r one e g =
    keeps_whole spec (cells ++ cell ∷ []) levels' marks values' (keeps_push spec cells cell levels marks values levels' values' r one e g)

pub pushed_keeps : (spec : ColumnSpec) (cells : List Cell) (cell : Cell) (levels marks values levels' values' : List ℕ) → Ready spec cells levels marks values
    → IsCellOf spec cell → levels' ≡ levels ++ level_of cell ∷ [] → values' ≡ values ++ text_of spec.kind cell
    → Keeps spec (cells_kept spec.kind levels' values') levels' marks values'
pushed_keeps spec cells cell levels marks values levels' values' r one e g =
    rw (pushed_cells spec cells cell levels marks values levels' values' r one e g) (keeps_push spec cells cell levels marks values levels' values' r one e g)

-- the kept levels of an OPTIONAL column are its cells' levels
pub kept_levels : (spec : ColumnSpec) (cells : List Cell) (count : ℕ) (levels marks values : List ℕ) (capacity : ℕ) → IsKept spec cells count levels marks values capacity
    → spec.optional ≡ true → levels ≡ levels_of cells
kept_levels spec cells count levels marks values capacity k optional = rw optional at k.kept.levels_are

pub kept_length : (spec : ColumnSpec) (cells : List Cell) (count : ℕ) (levels marks values : List ℕ) (capacity : ℕ) → IsKept spec cells count levels marks values capacity
    → spec.optional ≡ true → length levels ≡ count
kept_length spec cells count levels marks values capacity k optional =
    ap length (kept_levels spec cells count levels marks values capacity k optional) ∙ length-map cells level_of ∙ sym k.counted

pub level_one : (spec : ColumnSpec) (cell : Cell) → IsCellOf spec cell → spec.optional ≡ false → level_of cell ≡ 1
level_one spec null h e = cc (sym h ∙ e)
level_one spec (bool b) h e = refl
level_one spec (int32 n) h e = refl
level_one spec (int64 n) h e = refl
level_one spec (bytes xs) h e = refl
