-- The cells that the specification `page` defines by their numbers are the cells that a page's index finds.
use Rattle.std.proofs.Common.{◌≡◌, ℕ, zero, suc, ◌+◌, ◌-◌, ◌≤◌, ◌<◌, ◌==◌, nat_lt, Bool, true, false, if◌then◌else◌, List, [], ◌∷◌, ◌++◌, drop, map, length, Result, Ok, Err, inl, inr, refl, sym, ap, ◌∙◌, arith, append_assoc, length-append, length-drop}
use Rattle.std.specs.Int.{w32, cast_unsigned}
use Rattle.std.specs.List.{slice_index}
use Rattle.std.proofs.lemmas.List.{take_at}
use Rattle.std.proofs.lemmas.Bool.{cases_lt}
use Rattle.parquet_types.specs.declared.column.ColumnKind.{ColumnKind}
use Rattle.parquet_types.specs.declared.column.ColumnSpec.{ColumnSpec}
use Rattle.parquet_types.specs.declared.page_head.DataHead.{DataHead}
use Rattle.pme_base.specs.declared.place.Place.{Place}
use Rattle.pme_base.specs.declared.refusal.PagePart.TheVariants.{Levels}
use Rattle.pme_base.specs.declared.refusal.Refusal.{Refusal}
use Rattle.pme_base.specs.Steps.{◌>>=◌}
use Rattle.plain_pages.specs.Cells.{Cell}
use Rattle.plain_pages.specs.PlacesInside.{even}
use Rattle.plain_pages.specs.Pages.{bad_page, levels_size, values_start, levels, defined, values, cell_number, cells, is_coded, page}
use Rattle.plain_pages.specs.PageInside.{ranks_from, levels_before, levels_within, levels_read, values_read, index_read, value_at, cell_of_rank, cells_of, cells_by_index, page_read}

lt_true : (m n : ℕ) → m < n → nat_lt m n ≡ true
lt_true m n h = grind arith

lt_false : (m n : ℕ) → n ≤ m → nat_lt m n ≡ false
lt_false m n h = grind arith

lt_same : (m n : ℕ) → 4 ≤ m → nat_lt m (4 + n) ≡ nat_lt (m - 4) n
lt_same m n h = elim (cases_lt m (4 + n)) [
  | inl low ↦ rw (lt_true m (4 + n) low, lt_true (m - 4) n (omega arith))
  | inr high ↦ rw (lt_false m (4 + n) high, lt_false (m - 4) n (omega arith))
]

suc_not_0 : (l : ℕ) → (suc l == 0) ≡ false
suc_not_0 l = grind arith

-- ---- cells
at_end : (pre ls : List ℕ) (l : ℕ) → slice_index (pre ++ l ∷ ls) (length pre) ≡ l
at_end [] ls l = refl
at_end (p ∷ pre) ls l = at_end pre ls l

defined-append : (xs ys : List ℕ) → defined (xs ++ ys) ≡ defined xs + defined ys
defined-append [] ys = omega arith
defined-append (zero ∷ xs) ys = defined-append xs ys
defined-append (suc _ ∷ xs) ys = omega (arith, defined-append xs ys)

by_number_turn : (pre ls : List ℕ) (l k : ℕ) (vs : List Cell) → defined (pre ++ l ∷ []) ≡ k
    → map (cell_number ((pre ++ l ∷ []) ++ ls) vs) (even (length (pre ++ l ∷ [])) 1 (length ls)) ≡ map (cell_of_rank vs) (ranks_from (defined (pre ++ l ∷ [])) ls)
    → map (cell_number (pre ++ l ∷ ls) vs) (even (length pre + 1) 1 (length ls)) ≡ map (cell_of_rank vs) (ranks_from k ls)
by_number_turn pre ls l k vs e before =
    let sizes : length (pre ++ l ∷ []) ≡ length pre + 1 = length-append pre (l ∷ []) in
    rw (← sizes, ← append_assoc pre (l ∷ []) ls, ← e) before

-- the cells for levels that follow other levels
by_number : (pre ls : List ℕ) (vs : List Cell)
    → map (cell_number (pre ++ ls) vs) (even (length pre) 1 (length ls)) ≡ map (cell_of_rank vs) (ranks_from (defined pre) ls)
by_number pre [] vs = refl
by_number pre (zero ∷ ls) vs =
    let none : defined pre + 0 ≡ defined pre = omega arith in
    rw (at_end pre ls 0, by_number_turn pre ls 0 (defined pre) vs (defined-append pre (0 ∷ []) ∙ none) (by_number (pre ++ 0 ∷ []) ls vs))
by_number pre (suc l ∷ ls) vs =
    rw (at_end pre ls (suc l), suc_not_0 l, take_at pre (suc l ∷ ls) (length pre) refl, by_number_turn pre ls (suc l) (defined pre + 1) vs (defined-append pre (suc l ∷ [])) (by_number (pre ++ suc l ∷ []) ls vs))

cells-ranked : (ls : List ℕ) (vs : List Cell) → cells ls vs ≡ map (cell_of_rank vs) (ranks_from 0 ls)
cells-ranked ls vs = by_number [] ls vs

-- ---- levels
if_then : (short : Bool) (refusal : Refusal) (start : ℕ) (found : Result (List ℕ) Refusal)
    → (if short then Err refusal else (found >>= (λ ls. Ok (levels_before start ls)))) ≡ ((if short then Err refusal else found) >>= (λ ls. Ok (levels_before start ls)))
if_then true refusal start found = refl
if_then false refusal start found = refl

levels-read : (place : Place) (optional : Bool) (n : ℕ) (body : List ℕ)
    → levels_read place optional n body ≡ (levels place optional n body >>= (λ ls. Ok (levels_before (values_start optional body) ls)))
unfolding levels_read levels_within
levels-read place false n body = refl
levels-read place true n body = elim (cases_lt (length body) 4) [
  | inl low ↦ rw (lt_true (length body) 4 low, lt_true (length body) (4 + levels_size body) (omega arith))
  | inr high ↦
      let same : nat_lt (length body) (4 + levels_size body) ≡ nat_lt (length (drop 4 body)) (levels_size body) =
      lt_same (length body) (levels_size body) high ∙ ap (λ k. nat_lt k (levels_size body)) (sym (length-drop 4 body)) in
      rw (lt_false (length body) 4 high, same) (if_then (nat_lt (length (drop 4 body)) (levels_size body)) (bad_page place Levels 0) (4 + levels_size body) _)
]

-- ---- values
values-read : (place : Place) (kind : ColumnKind) (coded : Bool) (entries : List Cell) (n start : ℕ) (body : List ℕ)
    → values place kind coded entries n start body ≡ (values_read place kind coded (length entries) n start body >>= (λ found. Ok (map (value_at kind coded entries body) found)))
unfolding values_read
values-read place kind false entries n start body = refl
values-read place kind true entries n start body = refl

-- ---- pages
values_by : (kind : ColumnKind) (coded : Bool) (entries : List Cell) (body ones : List ℕ) (read : Result (List ℕ) Refusal)
    → ((read >>= (λ found. Ok (map (value_at kind coded entries body) found))) >>= (λ vs. Ok (cells ones vs)))
    ≡ cells_by_index entries body (read >>= (λ found. Ok (record { kind = kind; coded = coded; ranks = ranks_from 0 ones; places = found })))
unfolding cells_of
values_by kind coded entries body ones (Ok found) = ap Ok (cells-ranked ones (map (value_at kind coded entries body) found))
values_by kind coded entries body ones (Err refusal) = refl

levels_by : (place : Place) (kind : ColumnKind) (coded : Bool) (entries : List Cell) (start : ℕ) (body : List ℕ) (read : Result (List ℕ) Refusal)
    → (read >>= (λ ones. values place kind coded entries (defined ones) start body >>= (λ vs. Ok (cells ones vs))))
    ≡ cells_by_index entries body ((read >>= (λ ones. Ok (levels_before start ones))) >>= (λ levels.
    values_read place kind coded (length entries) levels.defined levels.start body >>= (λ found.
    Ok (record { kind = kind; coded = coded; ranks = levels.ranks; places = found }))))
levels_by place kind coded entries start body (Ok ones) =
    rw (values-read place kind coded entries (defined ones) start body) (values_by kind coded entries body ones (values_read place kind coded (length entries) (defined ones) start body))
levels_by place kind coded entries start body (Err refusal) = refl

-- the specification's cells are the cells that are read through the index
pub page-read : (place : Place) (spec : ColumnSpec) (head : DataHead) (entries : List Cell) (body : List ℕ)
    → page place spec head entries body ≡ page_read place spec head entries body
unfolding page index_read
page-read place spec head entries body =
    rw (levels-read place spec.optional (cast_unsigned w32 head.num_values) body)
    (levels_by place spec.kind (is_coded head.encoding) entries (values_start spec.optional body) body (levels place spec.optional (cast_unsigned w32 head.num_values) body))
