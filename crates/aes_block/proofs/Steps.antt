-- An operation on a vector acts on each of its blocks.
use Rattle.std.proofs.Common.{◌≡◌, ℕ, zero, suc, ◌*◌, List, [], ◌∷◌, ◌<◌, get_or, map, take, drop, refl, sym, ap, ◌∙◌, bit_xor, w8, Fits}
use Rattle.std.proofs.lemmas.List.{take-map, drop-map}
use Rattle.std.proofs.Math.Facts.{Fits-of_lt}
use Rattle.std.proofs.lemmas.Nat.{xor_of_8}
use Rattle.std.proofs.lemmas.Simd.{Each1-weaker, chunk-fits}
use Rattle.std.specs.Simd.Lanes.{Each1, zip2}
use Rattle.aes_block.specs.Basis.{IsByte}
use Rattle.aes_block.specs.FourBlocks.{lane_block}

zip2-nil : (f : ℕ → ℕ → ℕ) (xs : List ℕ) → zip2 f xs [] ≡ []
zip2-nil f [] = refl
zip2-nil f (x ∷ xs) = refl

drop-zip2 : (f : ℕ → ℕ → ℕ) (n : ℕ) (xs ys : List ℕ) → drop n (zip2 f xs ys) ≡ zip2 f (drop n xs) (drop n ys)
drop-zip2 f zero xs ys = refl
drop-zip2 f (suc n) [] ys = refl
drop-zip2 f (suc n) (x ∷ xs) [] = sym (zip2-nil f (drop n xs))
drop-zip2 f (suc n) (x ∷ xs) (y ∷ ys) = drop-zip2 f n xs ys

take-zip2 : (f : ℕ → ℕ → ℕ) (n : ℕ) (xs ys : List ℕ) → take n (zip2 f xs ys) ≡ zip2 f (take n xs) (take n ys)
take-zip2 f zero xs ys = refl
take-zip2 f (suc n) [] ys = refl
take-zip2 f (suc n) (x ∷ xs) [] = refl
take-zip2 f (suc n) (x ∷ xs) (y ∷ ys) = ap (λ l. f x y ∷ l) (take-zip2 f n xs ys)

pub lane_block-zip2 : (f : ℕ → ℕ → ℕ) (xs ys : List ℕ) (b : ℕ) → lane_block (zip2 f xs ys) b ≡ zip2 f (lane_block xs b) (lane_block ys b)
lane_block-zip2 f xs ys b = ap (take 16) (drop-zip2 f (16 * b) xs ys) ∙ take-zip2 f 16 (drop (16 * b) xs) (drop (16 * b) ys)

pub lane_block-map : (f : ℕ → ℕ) (xs : List ℕ) (b : ℕ) → lane_block (map f xs) b ≡ map f (lane_block xs b)
lane_block-map f xs b = ap (take 16) (drop-map f (16 * b) xs) ∙ take-map f 16 (drop (16 * b) xs)

-- ---- bytes

pub bytes_of : (v : List ℕ) → Each1 (Fits w8) v → Each1 IsByte v
bytes_of v fits = Each1-weaker (Fits w8) IsByte (λ a f. f.fits) v fits

pub part_of_bytes : (i n : ℕ) (w : List ℕ) → ((k : ℕ) → get_or w k 0 < 256) → Each1 IsByte (take n (drop i w))
part_of_bytes i n w bytes = bytes_of _ (chunk-fits w8 i n w (λ k. Fits-of_lt (bytes k)))

pub sums_are_bytes : (xs ys : List ℕ) → Each1 IsByte xs → Each1 IsByte ys → Each1 IsByte (zip2 bit_xor xs ys)
sums_are_bytes [] ys bx by = tt
sums_are_bytes (x ∷ xs) [] bx by = tt
sums_are_bytes (x ∷ xs) (y ∷ ys) bx by = (xor_of_8 x y bx.0 by.0, sums_are_bytes xs ys bx.1 by.1)
