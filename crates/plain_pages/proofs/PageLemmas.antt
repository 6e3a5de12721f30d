-- Lemmas about levels that are all 1, the places of byte arrays and of values of a fixed size, and single values.
use Rattle.std.proofs.Common.{◌≡◌, ℕ, ℤ, zero, suc, ◌+◌, ◌*◌, ◌≤◌, nat_le, min, Bool, true, false, if◌then◌else◌, List, [], ◌∷◌, ◌++◌, take, drop, map, length, replicate, None, Some, refl, sym, ap, ◌∙◌, arith, append_assoc, length-drop}
use Rattle.std.specs.Int.{w64, cast_signed, from_le_bytes}
use Rattle.std.proofs.lemmas.List.{length-map}
use Rattle.parquet_types.specs.declared.column.ColumnKind.{ColumnKind}
use Rattle.parquet_types.specs.declared.column.ColumnKind.TheVariants.{Boolean, Int32, Int64, Int96, Float, Double, ByteArray, Fixed}
use Rattle.plain_pages.proofs.PlaceLists.{stepped-within}
use Rattle.plain_pages.specs.Cells.{Cell, int64}
use Rattle.plain_pages.specs.Plain.{cell_at, places, next_place, place_of_byte, fixed_size}
use Rattle.plain_pages.specs.PlacesInside.{even, stepped}
use Rattle.plain_pages.specs.declared.page_index.PageIndex.{PageIndex}
use Rattle.plain_pages.specs.PageInside.{ranks_from, cells_of, cell_of_rank, value_at}
use Rattle.plain_pages.specs.Pages.{defined}

le_true : (m n : ℕ) → m ≤ n → nat_le m n ≡ true
le_true m n h = grind arith

-- ---- levels
ranks_from-ones : (k n : ℕ) → ranks_from k (replicate n 1) ≡ map Some (even k 1 n)
ranks_from-ones k zero = refl
ranks_from-ones k (suc n) = ap (λ rs. Some k ∷ rs) (ranks_from-ones (k + 1) n)

defined-ones : (n : ℕ) → defined (replicate n 1) ≡ n
defined-ones zero = refl
defined-ones (suc n) = ap suc (defined-ones n)

pub ranks_of-required : (n : ℕ) → ranks_from 0 (replicate n 1) ≡ map Some (even 0 1 n)
ranks_of-required n = ranks_from-ones 0 n

pub defined-required : (n : ℕ) → defined (replicate n 1) ≡ n
defined-required n = defined-ones n

pub length-ranks_from : (k : ℕ) (levels : List ℕ) → length (ranks_from k levels) ≡ length levels
length-ranks_from k [] = refl
length-ranks_from k (zero ∷ levels) = ap suc (length-ranks_from k levels)
length-ranks_from k (suc _ ∷ levels) = ap suc (length-ranks_from (k + 1) levels)

-- ---- places
none_if : (b : Bool) (x : ℕ) → None ≡ (if b then Some x else None) → b ≡ false
none_if true x e = cc
none_if false x e = refl

some_if : (b : Bool) (x y : ℕ) → Some y ≡ (if b then Some x else None) → (b ≡ true) × (y ≡ x)
some_if true x y e = (refl, cc)
some_if false x y e = absurd (cc)

le_from_true : (m n : ℕ) → nat_le m n ≡ true → m ≤ n
le_from_true m n e = grind arith

pub arrays_none : (m p : ℕ) (body : List ℕ) → None ≡ (if nat_le (next_place ByteArray p body) (length body) then Some (next_place ByteArray p body) else None)
    → places ByteArray m p body ≡ []
arrays_none zero p body e = refl
arrays_none (suc m) p body e = rw (none_if _ (next_place ByteArray p body) e)

pub arrays_inside : (p next : ℕ) (body : List ℕ) → Some next ≡ (if nat_le (next_place ByteArray p body) (length body) then Some (next_place ByteArray p body) else None)
    → next ≤ length body
arrays_inside p next body e =
    let so = some_if _ (next_place ByteArray p body) next e in
    rw (so.1) (le_from_true (next_place ByteArray p body) (length body) so.0)

pub arrays_turn : (vs more : List ℕ) (m k p next : ℕ) (body : List ℕ) → m ≡ suc k → more ≡ vs ++ p ∷ []
    → Some next ≡ (if nat_le (next_place ByteArray p body) (length body) then Some (next_place ByteArray p body) else None)
    → vs ++ places ByteArray m p body ≡ more ++ places ByteArray k next body
arrays_turn vs more m k p next body e pushed found =
    let so = some_if _ (next_place ByteArray p body) next found in
    rw (e, pushed, so.0, so.1) (sym (append_assoc vs (p ∷ []) (places ByteArray k (next_place ByteArray p body) body)))

places_by : (kind : ColumnKind) (size fit n p : ℕ) (body : List ℕ) → ((q : ℕ) → next_place kind q body ≡ q + size) → place_of_byte kind (length body) ≡ fit
    → places kind n p body ≡ stepped size fit n p
places_by kind size fit zero p body next end = refl
places_by kind size fit (suc n) p body next end = rw (next p, end) (ap (λ ps. if nat_le (p + size) fit then p ∷ ps else []) (places_by kind size fit n (p + size) body next end))

pub places-stepped : (kind : ColumnKind) (size n p : ℕ) (body : List ℕ) → Some size ≡ fixed_size kind
    → places kind n p body ≡ stepped size (place_of_byte kind (length body)) n p
places-stepped Boolean size n p body e = let is : 1 ≡ size = cc in rw (← is) (places_by Boolean 1 _ n p body (λ q. refl) refl)
places-stepped Int32 size n p body e = let is : 4 ≡ size = cc in rw (← is) (places_by Int32 4 _ n p body (λ q. refl) refl)
places-stepped Int64 size n p body e = let is : 8 ≡ size = cc in rw (← is) (places_by Int64 8 _ n p body (λ q. refl) refl)
places-stepped Int96 size n p body e = let is : 12 ≡ size = cc in rw (← is) (places_by Int96 12 _ n p body (λ q. refl) refl)
places-stepped Float size n p body e = let is : 4 ≡ size = cc in rw (← is) (places_by Float 4 _ n p body (λ q. refl) refl)
places-stepped Double size n p body e = let is : 8 ≡ size = cc in rw (← is) (places_by Double 8 _ n p body (λ q. refl) refl)
places-stepped (Fixed m) size n p body e = let is : m ≡ size = cc in rw (← is) (places_by (Fixed m) m _ n p body (λ q. refl) refl)
places-stepped ByteArray size n p body e = absurd (cc)

-- for booleans the bytes after the first `start + count` bytes don't matter
pub bits_within : (kind : ColumnKind) (size count start bytes : ℕ) → kind ≡ Boolean → Some size ≡ fixed_size kind
    → stepped size (8 * min bytes (start + count)) count (8 * start) ≡ stepped size (place_of_byte kind bytes) count (place_of_byte kind start)
bits_within Boolean size count start bytes is e =
    let one : size ≡ 1 = cc in
    let fit : 8 * min bytes (start + count) ≡ min (8 * bytes) (8 * (start + count)) = omega arith in
    rw (one, fit) (stepped-within count 1 (8 * bytes) (8 * (start + count)) (8 * start) (omega arith))
bits_within _ size count start bytes is e = cc is

-- ---- one value
pub int64_there : (place : ℕ) (body bytes : List ℕ) (n : ℤ) → 8 ≤ length (drop place body) → bytes ≡ take 8 (drop place body)
    → n ≡ cast_signed w64 (from_le_bytes w64 bytes) → int64 n ≡ cell_at Int64 place body
int64_there place body bytes n there e value =
    let fits : place + 8 ≤ length body = omega (arith, length-drop place body) in
    rw (le_true (place + 8) (length body) fits) (ap int64 (value ∙ ap (λ bs. cast_signed w64 (from_le_bytes w64 bs)) e))

-- ---- cells
pub cells_of-length : (index : PageIndex) (entries : List Cell) (body : List ℕ) → length (cells_of index entries body) ≡ length index.ranks
unfolding cells_of
cells_of-length index entries body = length-map index.ranks (cell_of_rank (map (value_at index.kind index.coded entries body) index.places))

pub ruleset cell_counts = (cells_of-length)
