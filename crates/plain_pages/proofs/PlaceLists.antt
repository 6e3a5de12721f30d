-- Lemmas about evenly spaced places.
use Rattle.std.proofs.Common.{◌≡◌, ℕ, zero, suc, ◌+◌, ◌-◌, ◌*◌, ◌<◌, ◌≤◌, nat_le, true, false, min, ◌∷◌, map, length, None, Some, [], refl, ap, ◌∙◌, arith}
use Rattle.std.specs.Prelude.{if◌then◌else◌}
use Rattle.std.specs.List.{slice_get}
use Rattle.std.specs.Option.{option_map}
use Rattle.std.proofs.lemmas.List.{length-map}
use Rattle.std.proofs.lemmas.Option.{slice_get-map, slice_get_past}
use Rattle.plain_pages.specs.PlacesInside.{even, stepped}

le_true : (m n : ℕ) → m ≤ n → nat_le m n ≡ true
le_true m n h = grind arith

le_false : (m n : ℕ) → n < m → nat_le m n ≡ false
le_false m n h = grind arith

pub length-even : (first step n : ℕ) → length (even first step n) ≡ n
length-even first step zero = refl
length-even first step (suc n) = ap suc (length-even (first + step) step n)

pub slice_get-even : (first step n k : ℕ) → k < n → slice_get (even first step n) k ≡ Some (first + step * k)
slice_get-even first step zero k h = absurd (omega arith)
slice_get-even first step (suc n) zero h = let e : first ≡ first + step * 0 = omega arith in ap Some e
slice_get-even first step (suc n) (suc k) h =
    let e : first + step + step * k ≡ first + step * suc k = omega arith in
    slice_get-even (first + step) step n k (omega arith) ∙ ap Some e

pub slice_get-even_past : (first step n k : ℕ) → n ≤ k → slice_get (even first step n) k ≡ None
slice_get-even_past first step n k h = slice_get_past (even first step n) k (omega (arith, length-even first step n))

pub slice_get-every : (n k : ℕ) → k < n → slice_get (map Some (even 0 1 n)) k ≡ Some (Some k)
slice_get-every n k h =
    let e : 0 + 1 * k ≡ k = omega arith in
    slice_get-map Some (even 0 1 n) k ∙ ap (option_map Some) (slice_get-even 0 1 n k h ∙ ap Some e)

pub slice_get-every_past : (n k : ℕ) → n ≤ k → slice_get (map Some (even 0 1 n)) k ≡ None
slice_get-every_past n k h = slice_get-map Some (even 0 1 n) k ∙ ap (option_map Some) (slice_get-even_past 0 1 n k h)

pub length-every : (n : ℕ) → length (map Some (even 0 1 n)) ≡ n
length-every n = length-map (even 0 1 n) Some ∙ length-even 0 1 n

-- the places of values that end before `end` are the first `fit` evenly spaced places
pub stepped-even : (n size end place fit : ℕ) → place ≤ end → size * fit ≤ end - place → end - place < size * suc fit
    → stepped size end n place ≡ even place size (min n fit)
stepped-even zero size end place fit inside low high = let e : min 0 fit ≡ 0 = omega arith in rw e
stepped-even (suc n) size end place zero inside low high =
    let e : min (suc n) 0 ≡ 0 = omega arith in
    rw (le_false (place + size) end (omega arith), e)
stepped-even (suc n) size end place (suc fit) inside low high =
    let e : min (suc n) (suc fit) ≡ suc (min n fit) = omega arith in
    rw (le_true (place + size) end (omega arith), e)
    (ap (λ ps. place ∷ ps) (stepped-even n size end (place + size) fit (omega arith) (omega arith) (omega arith)))

pub stepped-same : (n end place : ℕ) → place ≤ end → stepped 0 end n place ≡ even place 0 n
stepped-same zero end place inside = refl
stepped-same (suc n) end place inside =
    let e : place + 0 ≡ place = omega arith in
    rw (e, le_true place end inside) (ap (λ ps. place ∷ ps) (stepped-same n end place inside))

-- limiting the end doesn't matter if all n values fit below the limit
pub stepped-within : (n size end limit place : ℕ) → place + size * n ≤ limit → stepped size (min end limit) n place ≡ stepped size end n place
stepped-within zero size end limit place h = refl
stepped-within (suc n) size end limit place h =
    let more : place + size + size * n ≤ limit = omega arith in
    let same : nat_le (place + size) (min end limit) ≡ nat_le (place + size) end = grind arith in
    rw same (ap (λ ps. if nat_le (place + size) end then place ∷ ps else []) (stepped-within n size end limit (place + size) more))
