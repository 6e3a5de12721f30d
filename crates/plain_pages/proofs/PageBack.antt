-- The page that is written for cells is read back as these cells.
use Rattle.std.proofs.Common.{◌≡◌, ℕ, zero, suc, ◌+◌, ◌-◌, ◌*◌, ◌/◌, ◌%◌, ◌^◌, ◌<◌, ◌≤◌, ◌==◌, nat_le, nat_lt, Bool, true, false, if◌then◌else◌, List, [], ◌∷◌, ◌++◌, take, drop, map, length, replicate, Some, refl, sym, ap, subst, ◌∙◌, arith, append_assoc, length-append, length-take, length-drop, inl, inr, Ok}
use Rattle.std.specs.Int.{w32, cast_unsigned, bit_at}
use Rattle.std.specs.List.{slice_get, slice_index}
use Rattle.std.proofs.lemmas.List.{append-nil, take_at, drop_at, length-map, get_or-take, get_or-drop, get_or-append-add}
use Rattle.std.proofs.lemmas.Bool.{cases_lt}
use Rattle.std.proofs.lemmas.Nat.{from_le_bytes-to_le_bytes_4}
use Rattle.std.proofs.lemmas.Nat.Bits.{bit_at_lowest, bit_at-suc}
use Rattle.parquet_types.specs.declared.column.ColumnKind.{ColumnKind}
use Rattle.parquet_types.specs.declared.column.ColumnKind.TheVariants.{Boolean, Int32, Int64, Int96, Float, Double, ByteArray, Fixed}
use Rattle.parquet_types.specs.declared.column.ColumnSpec.{ColumnSpec}
use Rattle.parquet_types.specs.declared.page_head.DataHead.{DataHead}
use Rattle.pme_base.specs.declared.place.Place.{Place}
use Rattle.pme_base.specs.declared.refusal.PagePart.{PagePart}
use Rattle.pme_base.specs.declared.refusal.PagePart.TheVariants.{Levels}
use Rattle.hybrid_runs.specs.Hybrid.{hybrid}
use Rattle.hybrid_runs.specs.Written.{run_text, bits_text, bits_number, grouped, groups_of}
use Rattle.hybrid_runs.proofs.ReadBack.{bits_read_back, length-run_text_small, length-grouped}
use Rattle.plain_pages.specs.Cells.{Cell, null, bool, int32, int64, bytes}
use Rattle.plain_pages.specs.Plain.{cell_at, value_of, value_size, next_place, place_of_byte, places, bit_there}
use Rattle.plain_pages.specs.PageInside.{ranks_from, levels_before, levels_within, levels_read, values_read, index_read, cell_of_rank, cells_of, page_read}
use Rattle.plain_pages.specs.Pages.{all_there, count_below, all_below, defined, is_coded, page}
use Rattle.plain_pages.specs.Columns.{IsValueOf, AreCellsOf, text_of, values_text, level_of, levels_of, plain_text, levels_text, page_of, page_text, IsPageOf}
use Rattle.plain_pages.proofs.Kept.{ReadsAs, reads_as}
use Rattle.plain_pages.proofs.PageByNumber.{page-read}

le_true : (m n : ℕ) → m ≤ n → nat_le m n ≡ true
le_true m n h = grind arith

lt_true : (m n : ℕ) → m < n → nat_lt m n ≡ true
lt_true m n h = grind arith

lt_false : (m n : ℕ) → n ≤ m → nat_lt m n ≡ false
lt_false m n h = grind arith

eq_true : (m n : ℕ) → m ≡ n → (m == n) ≡ true
eq_true m n h = grind arith

-- ---- levels
pub record AreLevels (levels : List ℕ) : Type 0 where
  pub small : (i : ℕ) → slice_index levels i < 2

level_small : (cell : Cell) → level_of cell < 2
level_small null = omega arith
level_small (bool b) = omega arith
level_small (int32 n) = omega arith
level_small (int64 n) = omega arith
level_small (bytes xs) = omega arith

levels_small : (cells : List Cell) (i : ℕ) → slice_index (levels_of cells) i < 2
levels_small [] i = omega arith
levels_small (c ∷ cells) zero = level_small c
levels_small (c ∷ cells) (suc i) = levels_small cells i

all_below_2 : (levels : List ℕ) → ((i : ℕ) → slice_index levels i < 2) → count_below 2 levels ≡ length levels
all_below_2 [] h = refl
all_below_2 (l ∷ levels) h = rw (lt_true l 2 (h 0), all_below_2 levels (λ i. h (suc i))) (let e : 1 + length levels ≡ suc (length levels) = omega arith in e)

all_below_back : (place : Place) (part : PagePart) (n : ℕ) (levels : List ℕ) → length levels ≡ n → ((i : ℕ) → slice_index levels i < 2) → all_below place part 2 n levels ≡ Ok levels
unfolding all_below
all_below_back place part n levels e h = rw (all_below_2 levels h, eq_true (length levels) n e)

levels_within_back : (place : Place) (levels rest : List ℕ) → length levels ≤ 16777216 → ((i : ℕ) → slice_index levels i < 2)
    → levels_within place (length levels) (length (run_text levels)) (run_text levels ++ rest) ≡ Ok (levels_before (4 + length (run_text levels)) levels)
unfolding levels_within
levels_within_back place levels rest short small =
    let run = run_text levels in
    let inside : nat_lt (length (run ++ rest)) (length run) ≡ false = lt_false (length (run ++ rest)) (length run) (omega (arith, length-append run rest)) in
    let back : take (length levels) (hybrid 1 run) ≡ levels =
    ap (λ bs. take (length levels) (hybrid 1 bs)) (sym (append-nil run)) ∙ bits_read_back levels [] short small in
    rw (inside, take_at run rest (length run) refl, back, all_below_back place Levels (length levels) levels refl small)

levels_read_back : (place : Place) (levels rest : List ℕ) → length levels ≤ 16777216 → ((i : ℕ) → slice_index levels i < 2)
    → levels_read place true (length levels) (levels_text levels ++ rest) ≡ Ok (levels_before (4 + length (run_text levels)) levels)
unfolding levels_read
levels_read_back place levels rest short small =
    let run = run_text levels in
    let fits : length run < 2 ^ 32 = omega (arith, length-run_text_small levels) in
    let inside : nat_lt (length (levels_text levels ++ rest)) 4 ≡ false = lt_false (length (levels_text levels ++ rest)) 4 (omega arith) in
    rw (inside, from_le_bytes-to_le_bytes_4 (length run) fits) (levels_within_back place levels rest short small)

-- ---- values
-- the cells that aren't null
abbrev valued : List Cell → List Cell
valued [] = []
valued (null ∷ cells) = valued cells
valued (bool b ∷ cells) = bool b ∷ valued cells
valued (int32 n ∷ cells) = int32 n ∷ valued cells
valued (int64 n ∷ cells) = int64 n ∷ valued cells
valued (bytes xs ∷ cells) = bytes xs ∷ valued cells

-- the places of this type are byte offsets
record Bytewise (kind : ColumnKind) : Type 0 where
  next : (p : ℕ) (body : List ℕ) → next_place kind p body ≡ p + value_size kind (drop p body)
  end : (n : ℕ) → place_of_byte kind n ≡ n
  at : (p : ℕ) (body : List ℕ) → cell_at kind p body ≡ (if nat_le (p + value_size kind (drop p body)) (length body) then value_of kind (drop p body) else null)

value_turn : (kind : ColumnKind) (cell : Cell) (text pre rest body : List ℕ) (d : ℕ) (later : List Cell) → Bytewise kind → ReadsAs kind cell text
    → body ≡ pre ++ (text ++ rest) → map (λ at. cell_at kind at body) (places kind d (length (pre ++ text)) body) ≡ later
    → map (λ at. cell_at kind at body) (places kind (suc d) (length pre) body) ≡ cell ∷ later
value_turn kind cell text pre rest body d later by reads e before =
    let front : drop (length pre) body ≡ text ++ rest = ap (drop (length pre)) e ∙ drop_at pre (text ++ rest) (length pre) refl in
    let long : length body ≡ length pre + (length text + length rest) = ap length e ∙ length-append pre (text ++ rest) ∙ ap (λ n. length pre + n) (length-append text rest) in
    let size : value_size kind (drop (length pre) body) ≡ length text = ap (value_size kind) front ∙ reads.size rest in
    let inside : nat_le (length pre + length text) (length body) ≡ true = le_true (length pre + length text) (length body) (omega arith) in
    let here : cell_at kind (length pre) body ≡ cell = by.at (length pre) body ∙ rw (size, inside, front) (reads.value rest) in
    let next : next_place kind (length pre) body ≡ length (pre ++ text) = by.next (length pre) body ∙ rw size (sym (length-append pre text)) in
    let fits : nat_le (length (pre ++ text)) (place_of_byte kind (length body)) ≡ true = rw (by.end (length body), length-append pre text) inside in
    rw (next, fits, here) (ap (λ cs. cell ∷ cs) before)

values_back : (spec : ColumnSpec) (pre : List ℕ) (cells : List Cell) (body : List ℕ) → Bytewise spec.kind → AreCellsOf spec cells → body ≡ pre ++ values_text spec.kind cells
    → map (λ at. cell_at spec.kind at body) (places spec.kind (defined (levels_of cells)) (length pre) body) ≡ valued cells
values_back spec pre [] body by h e = refl
values_back spec pre (null ∷ cells) body by h e = values_back spec pre cells body by h.1 e
values_back spec pre (bool b ∷ cells) body by h e = value_turn spec.kind (bool b) (text_of spec.kind (bool b)) pre (values_text spec.kind cells) body _ _ by (reads_as spec.kind (bool b) h.0) e
    (values_back spec (pre ++ text_of spec.kind (bool b)) cells body by h.1 (e ∙ sym (append_assoc pre (text_of spec.kind (bool b)) (values_text spec.kind cells))))
values_back spec pre (int32 n ∷ cells) body by h e = value_turn spec.kind (int32 n) (text_of spec.kind (int32 n)) pre (values_text spec.kind cells) body _ _ by (reads_as spec.kind (int32 n) h.0) e
    (values_back spec (pre ++ text_of spec.kind (int32 n)) cells body by h.1 (e ∙ sym (append_assoc pre (text_of spec.kind (int32 n)) (values_text spec.kind cells))))
values_back spec pre (int64 n ∷ cells) body by h e = value_turn spec.kind (int64 n) (text_of spec.kind (int64 n)) pre (values_text spec.kind cells) body _ _ by (reads_as spec.kind (int64 n) h.0) e
    (values_back spec (pre ++ text_of spec.kind (int64 n)) cells body by h.1 (e ∙ sym (append_assoc pre (text_of spec.kind (int64 n)) (values_text spec.kind cells))))
values_back spec pre (bytes xs ∷ cells) body by h e = value_turn spec.kind (bytes xs) (text_of spec.kind (bytes xs)) pre (values_text spec.kind cells) body _ _ by (reads_as spec.kind (bytes xs) h.0) e
    (values_back spec (pre ++ text_of spec.kind (bytes xs)) cells body by h.1 (e ∙ sym (append_assoc pre (text_of spec.kind (bytes xs)) (values_text spec.kind cells))))

-- ---- cells by their ranks
slice_get_at : (before after : List Cell) (cell : Cell) → slice_get (before ++ cell ∷ after) (length before) ≡ Some cell
slice_get_at [] after cell = refl
slice_get_at (b ∷ before) after cell = slice_get_at before after cell

rank_turn : (before after : List Cell) (cell : Cell) (levels : List ℕ) (cells : List Cell)
    → map (cell_of_rank ((before ++ cell ∷ []) ++ after)) (ranks_from (length (before ++ cell ∷ [])) levels) ≡ cells
    → cell_of_rank (before ++ cell ∷ after) (Some (length before)) ∷ map (cell_of_rank (before ++ cell ∷ after)) (ranks_from (length before + 1) levels) ≡ cell ∷ cells
rank_turn before after cell levels cells rest =
    let sizes : length (before ++ cell ∷ []) ≡ length before + 1 = length-append before (cell ∷ []) in
    rw (slice_get_at before after cell, ← sizes, ← append_assoc before (cell ∷ []) after) (ap (λ cs. cell ∷ cs) rest)

ranks_back : (before cells : List Cell) → map (cell_of_rank (before ++ valued cells)) (ranks_from (length before) (levels_of cells)) ≡ cells
ranks_back before [] = refl
ranks_back before (null ∷ cells) = ap (λ cs. null ∷ cs) (ranks_back before cells)
ranks_back before (bool b ∷ cells) = rank_turn before (valued cells) (bool b) (levels_of cells) cells (ranks_back (before ++ bool b ∷ []) cells)
ranks_back before (int32 n ∷ cells) = rank_turn before (valued cells) (int32 n) (levels_of cells) cells (ranks_back (before ++ int32 n ∷ []) cells)
ranks_back before (int64 n ∷ cells) = rank_turn before (valued cells) (int64 n) (levels_of cells) cells (ranks_back (before ++ int64 n ∷ []) cells)
ranks_back before (bytes xs ∷ cells) = rank_turn before (valued cells) (bytes xs) (levels_of cells) cells (ranks_back (before ++ bytes xs ∷ []) cells)

-- ---- booleans
bits_at : (bits : List ℕ) (i : ℕ) → i < length bits → bit_at (bits_number bits) i ≡ slice_index bits i % 2
bits_at [] i h = absurd (omega arith)
bits_at (b ∷ bits) zero h =
    let low : (b % 2 + 2 * bits_number bits) % 2 ≡ b % 2 = omega arith in
    bit_at_lowest (b % 2 + 2 * bits_number bits) ∙ low
bits_at (b ∷ bits) (suc i) h =
    let high : (b % 2 + 2 * bits_number bits) / 2 ≡ bits_number bits = omega arith in
    bit_at-suc (b % 2 + 2 * bits_number bits) i ∙ ap (λ n. bit_at n i) high ∙ bits_at bits i (omega arith)

grouped_at : (g : ℕ) (bits : List ℕ) (i : ℕ) → i < length bits → i < 8 * g → bit_at (slice_index (grouped g bits) (i / 8)) (i % 8) ≡ slice_index bits i % 2
grouped_at zero bits i h l = absurd (omega arith)
grouped_at (suc g) bits i h l = elim (cases_lt i 8) [
  | inl low ↦
      let group : i / 8 ≡ 0 = omega arith in
      let bit : i % 8 ≡ i = omega arith in
      let inside : i < length (take 8 bits) = omega (arith, length-take 8 bits) in
      rw (group, bit) (bits_at (take 8 bits) i inside ∙ ap (λ n. n % 2) (get_or-take 8 bits i 0 low))
  | inr high ↦
      let group : i / 8 ≡ suc ((i - 8) / 8) = omega arith in
      let bit : i % 8 ≡ (i - 8) % 8 = omega arith in
      let same : 8 + (i - 8) ≡ i = omega arith in
      rw (group, bit) (grouped_at g (drop 8 bits) (i - 8) (omega (arith, length-drop 8 bits)) (omega arith) ∙ ap (λ n. n % 2) (get_or-drop 8 bits (i - 8) 0 ∙ ap (λ n. slice_index bits n) same))
]

-- the bits of packed booleans that follow other bytes
bits_behind : (pre bits : List ℕ) (i : ℕ) → i < length bits → bit_there (8 * length pre + i) (pre ++ bits_text bits) ≡ (slice_index bits i % 2 == 1)
bits_behind pre bits i h =
    let byte : (8 * length pre + i) / 8 ≡ length pre + i / 8 = omega arith in
    let bit : (8 * length pre + i) % 8 ≡ i % 8 = omega arith in
    rw (byte, bit) (ap (λ n. bit_at n (i % 8) == 1) (get_or-append-add pre (bits_text bits) (i / 8) 0) ∙ ap (λ n. n == 1) (grouped_at (groups_of (length bits)) bits i h (omega arith)))

bool_turn : (b : Bool) (bit p d : ℕ) (body : List ℕ) (later : List Cell) → bit_there p body ≡ b → p + 1 ≤ 8 * length body
    → map (λ at. cell_at Boolean at body) (places Boolean d (p + 1) body) ≡ later
    → map (λ at. cell_at Boolean at body) (places Boolean (suc d) p body) ≡ bool b ∷ later
bool_turn b bit p d body later here inside before =
    rw (le_true (p + 1) (8 * length body) inside, lt_true p (8 * length body) (omega arith), here) (ap (λ cs. bool b ∷ cs) before)

bools_back : (spec : ColumnSpec) (cells : List Cell) (p : ℕ) (body : List ℕ) → spec.kind ≡ Boolean → AreCellsOf spec cells
    → ((i : ℕ) → i < length (values_text Boolean cells) → bit_there (p + i) body ≡ (slice_index (values_text Boolean cells) i % 2 == 1))
    → p + length (values_text Boolean cells) ≤ 8 * length body
    → map (λ at. cell_at Boolean at body) (places Boolean (defined (levels_of cells)) p body) ≡ valued cells
bools_back spec [] p body e h bits inside = refl
bools_back spec (null ∷ cells) p body e h bits inside = bools_back spec cells p body e h.1 bits inside
bools_back spec (bool true ∷ cells) p body e h bits inside =
    let here : p + 0 ≡ p = omega arith in
    bool_turn true 1 p _ body _ (ap (λ n. bit_there n body) (sym here) ∙ bits 0 (omega arith)) (omega arith)
    (bools_back spec cells (p + 1) body e h.1 (λ i l. (let next : p + 1 + i ≡ p + suc i = omega arith in ap (λ n. bit_there n body) next) ∙ bits (suc i) (omega arith)) (omega arith))
bools_back spec (bool false ∷ cells) p body e h bits inside =
    let here : p + 0 ≡ p = omega arith in
    bool_turn false 0 p _ body _ (ap (λ n. bit_there n body) (sym here) ∙ bits 0 (omega arith)) (omega arith)
    (bools_back spec cells (p + 1) body e h.1 (λ i l. (let next : p + 1 + i ≡ p + suc i = omega arith in ap (λ n. bit_there n body) next) ∙ bits (suc i) (omega arith)) (omega arith))
bools_back spec (int32 n ∷ cells) p body e h bits inside = let P : ColumnKind → Type 0 = λ k. IsValueOf k (int32 n) in absurd (subst P e h.0)
bools_back spec (int64 n ∷ cells) p body e h bits inside = let P : ColumnKind → Type 0 = λ k. IsValueOf k (int64 n) in absurd (subst P e h.0)
bools_back spec (bytes xs ∷ cells) p body e h bits inside = let P : ColumnKind → Type 0 = λ k. IsValueOf k (bytes xs) in absurd (subst P e h.0)

-- ---- the values of every kind
bytewise_back : (spec : ColumnSpec) (pre : List ℕ) (cells : List Cell) → Bytewise spec.kind → plain_text spec.kind (values_text spec.kind cells) ≡ values_text spec.kind cells → AreCellsOf spec cells
    → map (λ at. cell_at spec.kind at (pre ++ plain_text spec.kind (values_text spec.kind cells)))
    (places spec.kind (defined (levels_of cells)) (place_of_byte spec.kind (length pre)) (pre ++ plain_text spec.kind (values_text spec.kind cells))) ≡ valued cells
bytewise_back spec pre cells by plain h = rw (plain, by.end (length pre)) (values_back spec pre cells (pre ++ values_text spec.kind cells) by h refl)

boolean_back : (spec : ColumnSpec) (pre : List ℕ) (cells : List Cell) → spec.kind ≡ Boolean → AreCellsOf spec cells
    → map (λ at. cell_at Boolean at (pre ++ bits_text (values_text Boolean cells)))
    (places Boolean (defined (levels_of cells)) (8 * length pre) (pre ++ bits_text (values_text Boolean cells))) ≡ valued cells
boolean_back spec pre cells e h =
    let bits = values_text Boolean cells in
    let long : length (pre ++ bits_text bits) ≡ length pre + groups_of (length bits) = length-append pre (bits_text bits) ∙ ap (λ n. length pre + n) (length-grouped (groups_of (length bits)) bits) in
    bools_back spec cells (8 * length pre) (pre ++ bits_text bits) e h (λ i l. bits_behind pre bits i l) (omega arith)

plain_back : (kind : ColumnKind) (spec : ColumnSpec) (pre : List ℕ) (cells : List Cell) → spec.kind ≡ kind → AreCellsOf spec cells
    → map (λ at. cell_at spec.kind at (pre ++ plain_text spec.kind (values_text spec.kind cells)))
    (places spec.kind (defined (levels_of cells)) (place_of_byte spec.kind (length pre)) (pre ++ plain_text spec.kind (values_text spec.kind cells))) ≡ valued cells
plain_back Boolean spec pre cells e h = rw e (boolean_back spec pre cells e h)
plain_back Int32 spec pre cells e h =
    bytewise_back spec pre cells (let by : Bytewise Int32 = record { next = λ p body. refl; end = λ n. refl; at = λ p body. refl } in rw e by) (rw e refl) h
plain_back Int64 spec pre cells e h =
    bytewise_back spec pre cells (let by : Bytewise Int64 = record { next = λ p body. refl; end = λ n. refl; at = λ p body. refl } in rw e by) (rw e refl) h
plain_back Int96 spec pre cells e h =
    bytewise_back spec pre cells (let by : Bytewise Int96 = record { next = λ p body. refl; end = λ n. refl; at = λ p body. refl } in rw e by) (rw e refl) h
plain_back Float spec pre cells e h =
    bytewise_back spec pre cells (let by : Bytewise Float = record { next = λ p body. refl; end = λ n. refl; at = λ p body. refl } in rw e by) (rw e refl) h
plain_back Double spec pre cells e h =
    bytewise_back spec pre cells (let by : Bytewise Double = record { next = λ p body. refl; end = λ n. refl; at = λ p body. refl } in rw e by) (rw e refl) h
plain_back ByteArray spec pre cells e h =
    bytewise_back spec pre cells (let by : Bytewise ByteArray = record { next = λ p body. refl; end = λ n. refl; at = λ p body. refl } in rw e by) (rw e refl) h
plain_back (Fixed m) spec pre cells e h =
    bytewise_back spec pre cells (let by : Bytewise (Fixed m) = record { next = λ p body. refl; end = λ n. refl; at = λ p body. refl } in rw e by) (rw e refl) h

-- ---- the page
length-valued : (cells : List Cell) → length (valued cells) ≡ defined (levels_of cells)
length-valued [] = refl
length-valued (null ∷ cells) = length-valued cells
length-valued (bool b ∷ cells) = ap suc (length-valued cells)
length-valued (int32 n ∷ cells) = ap suc (length-valued cells)
length-valued (int64 n ∷ cells) = ap suc (length-valued cells)
length-valued (bytes xs ∷ cells) = ap suc (length-valued cells)

values_read_back : (place : Place) (kind : ColumnKind) (entries n start : ℕ) (body : List ℕ) → length (places kind n (place_of_byte kind start) body) ≡ n
    → values_read place kind false entries n start body ≡ Ok (places kind n (place_of_byte kind start) body)
unfolding values_read all_there
values_read_back place kind entries n start body e = rw (eq_true (length (places kind n (place_of_byte kind start) body)) n e)

page_read_with : (place : Place) (spec : ColumnSpec) (head : DataHead) (entries cells : List Cell) (body : List ℕ) (start : ℕ) → cast_unsigned w32 head.num_values ≡ length cells → is_coded head.encoding ≡ false
    → levels_read place spec.optional (length cells) body ≡ Ok (levels_before start (levels_of cells))
    → map (λ at. cell_at spec.kind at body) (places spec.kind (defined (levels_of cells)) (place_of_byte spec.kind start) body) ≡ valued cells
    → page_read place spec head entries body ≡ Ok cells
unfolding index_read cells_of
page_read_with place spec head entries cells body start counted plain levels values =
    let found = places spec.kind (defined (levels_of cells)) (place_of_byte spec.kind start) body in
    let long : length found ≡ defined (levels_of cells) = sym (length-map found (λ at. cell_at spec.kind at body)) ∙ ap length values ∙ length-valued cells in
    rw (counted, levels, plain, values_read_back place spec.kind (length entries) (defined (levels_of cells)) start body long, values) (ap Ok (ranks_back [] cells))

page_with : (place : Place) (spec : ColumnSpec) (head : DataHead) (entries cells : List Cell) (body : List ℕ) (start : ℕ) → cast_unsigned w32 head.num_values ≡ length cells → is_coded head.encoding ≡ false
    → levels_read place spec.optional (length cells) body ≡ Ok (levels_before start (levels_of cells))
    → map (λ at. cell_at spec.kind at body) (places spec.kind (defined (levels_of cells)) (place_of_byte spec.kind start) body) ≡ valued cells
    → page place spec head entries body ≡ Ok cells
page_with place spec head entries cells body start counted plain levels values =
    page-read place spec head entries body ∙ page_read_with place spec head entries cells body start counted plain levels values

all_valued : (spec : ColumnSpec) (cells : List Cell) → spec.optional ≡ false → AreCellsOf spec cells → levels_of cells ≡ replicate (length cells) 1
all_valued spec [] e h = refl
all_valued spec (null ∷ cells) e h = absurd (let same : true ≡ false = sym h.0 ∙ e in cc)
all_valued spec (bool b ∷ cells) e h = ap (λ ls. 1 ∷ ls) (all_valued spec cells e h.1)
all_valued spec (int32 n ∷ cells) e h = ap (λ ls. 1 ∷ ls) (all_valued spec cells e h.1)
all_valued spec (int64 n ∷ cells) e h = ap (λ ls. 1 ∷ ls) (all_valued spec cells e h.1)
all_valued spec (bytes xs ∷ cells) e h = ap (λ ls. 1 ∷ ls) (all_valued spec cells e h.1)

required_levels : (place : Place) (cells : List Cell) (body : List ℕ) → levels_of cells ≡ replicate (length cells) 1 → levels_read place false (length cells) body ≡ Ok (levels_before 0 (levels_of cells))
unfolding levels_read
required_levels place cells body e = rw e refl

required_text : (spec : ColumnSpec) (levels values : List ℕ) → spec.optional ≡ false → page_of spec levels values ≡ plain_text spec.kind values
unfolding page_of
required_text spec levels values e = rw e

optional_text : (spec : ColumnSpec) (levels values : List ℕ) → spec.optional ≡ true → page_of spec levels values ≡ levels_text levels ++ plain_text spec.kind values
unfolding page_of
optional_text spec levels values e = rw e

page_back_by : (optional : Bool) (spec : ColumnSpec) (cells : List Cell) → spec.optional ≡ optional → AreCellsOf spec cells → length cells ≤ 16777216 → IsPageOf spec cells (page_text spec cells)
page_back_by false spec cells e h short = λ place head entries counted plain.
    let values = plain_text spec.kind (values_text spec.kind cells) in
    rw (required_text spec (levels_of cells) (values_text spec.kind cells) e)
    (page_with place spec head entries cells values 0 counted plain (rw e (required_levels place cells values (all_valued spec cells e h))) (plain_back spec.kind spec [] cells refl h))
page_back_by true spec cells e h short = λ place head entries counted plain.
    let levels = levels_of cells in
    let values = plain_text spec.kind (values_text spec.kind cells) in
    let same : length levels ≡ length cells = length-map cells level_of in
    let front : 4 + length (run_text levels) ≡ length (levels_text levels) = omega arith in
    let read : levels_read place true (length cells) (levels_text levels ++ values) ≡ Ok (levels_before (length (levels_text levels)) levels) =
    rw (← same, ← front) (levels_read_back place levels values (omega arith) (levels_small cells)) in
    rw (optional_text spec levels (values_text spec.kind cells) e)
    (page_with place spec head entries cells (levels_text levels ++ values) (length (levels_text levels)) counted plain (rw e read) (plain_back spec.kind spec (levels_text levels) cells refl h))

pub page_back : (spec : ColumnSpec) (cells : List Cell) → AreCellsOf spec cells → length cells ≤ 16777216 → IsPageOf spec cells (page_text spec cells)
page_back spec cells h short = page_back_by spec.optional spec cells refl h short
