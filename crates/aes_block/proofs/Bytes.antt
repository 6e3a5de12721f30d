-- Bytewise maps over vectors, and tests over all 256 bytes.
use Rattle.std.proofs.Common.{◌≡◌, ℕ, ◌<◌, Bool, true, T, ◌||◌, eqb, leb, ltb, List, [], ◌∷◌, map, refl, sym, ap, subst, ◌∙◌, w8, Fits, eqb-true}
use Rattle.std.proofs.lemmas.Bool.{agree_below, agree_below_at}
use Rattle.std.proofs.lemmas.Simd.{map-map}
use Rattle.std.specs.Simd.Lanes.{Each1}
use Rattle.aes_block.specs.HalfBytes.{IsIndex}

-- a test that is true for every byte
abbrev pub of_all_bytes : (ℕ → Bool) → Bool
of_all_bytes p = agree_below p (λ _. true) 256

pub at_byte : (p : ℕ → Bool) (x : ℕ) → of_all_bytes p ≡ true → x < 256 → p x ≡ true
at_byte p x all lt = agree_below_at p (λ _. true) 256 x all lt

pub same_byte : (f g : ℕ → ℕ) (x : ℕ) → of_all_bytes (λ x. eqb (f x) (g x)) ≡ true → x < 256 → f x ≡ g x
same_byte f g x all lt = eqb-true _ _ (at_byte (λ x. eqb (f x) (g x)) x all lt)

pub maps_agree : (f g : ℕ → ℕ) (v : List ℕ) → of_all_bytes (λ x. eqb (f x) (g x)) ≡ true → Each1 (Fits w8) v → map f v ≡ map g v
maps_agree f g [] all fits = refl
maps_agree f g (x ∷ xs) all fits = λ i. same_byte f g x all fits.0.fits i ∷ maps_agree f g xs all fits.1 i

abbrev pub is_index : (ℕ → ℕ) → ℕ → Bool
is_index f x = leb 128 (f x) || ltb (f x) 16

all_indices : (f : ℕ → ℕ) (v : List ℕ) → of_all_bytes (is_index f) ≡ true → Each1 (Fits w8) v → Each1 IsIndex (map f v)
all_indices f [] all fits = tt
all_indices f (x ∷ xs) all fits = (subst T (sym (at_byte (is_index f) x all fits.0.fits)) tt, all_indices f xs all fits.1)

pub indices_of : (f : ℕ → ℕ) (v js : List ℕ) → js ≡ map f v → of_all_bytes (is_index f) ≡ true → Each1 (Fits w8) v → Each1 IsIndex js
indices_of f v js is all fits = subst (Each1 IsIndex) (sym is) (all_indices f v all fits)

-- a composition of two bytewise maps over v
pub mapped : (f g : ℕ → ℕ) (v js r : List ℕ) → r ≡ map f js → js ≡ map g v → r ≡ map (λ x. f (g x)) v
mapped f g v js r e is = e ∙ ap (map f) is ∙ map-map f g v
