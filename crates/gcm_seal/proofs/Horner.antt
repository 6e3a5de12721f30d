-- GHASH of a list with one more block at the end.
use Rattle.std.proofs.Common.{◌≡◌, ℕ, zero, suc, ◌+◌, ◌^◌, ◌<◌, bit_xor, List, [], ◌∷◌, ◌++◌, length, refl, sym, ap, ◌∙◌, arith, length-append}
use Rattle.std.specs.Int.Bits.{xor_assoc, xor_zero_r}
use Rattle.gcm_field.specs.Field.{field_mul, polynomial}
use Rattle.gcm_field.proofs.Algebra.{field_mul-xor, field_mul_lt, field_mul_assoc, one_mul}
use Rattle.gcm_seal.specs.Gcm.{power, ghash}

power_lt : (h k : ℕ) → h < 2 ^ 128 → power h k < 2 ^ 128
unfolding power
power_lt h zero small = omega arith
power_lt h (suc k) small = field_mul_lt (power h k) h small

power_one : (h : ℕ) → h < 2 ^ 128 → power h 1 ≡ h
unfolding power
power_one h small = one_mul h small

pub ghash-none : (h : ℕ) → ghash h [] ≡ 0
unfolding ghash
ghash-none h = refl

power_step : (p h k : ℕ) → h < 2 ^ 128 → field_mul p (power h (suc k)) ≡ field_mul (field_mul p (power h k)) h
unfolding power
power_step p h k small = sym (field_mul_assoc p (power h k) h (power_lt h k small) small)

-- Horner's rule
pub ghash_more : (h : ℕ) (xs : List (List ℕ)) (x : List ℕ) → h < 2 ^ 128 → ghash h (xs ++ x ∷ []) ≡ field_mul (bit_xor (ghash h xs) (polynomial x)) h
unfolding ghash
ghash_more h [] x small =
    xor_zero_r (field_mul (polynomial x) (power h 1)) ∙ ap (field_mul (polynomial x)) (power_one h small)
ghash_more h (y ∷ xs) x small =
    let n : length (xs ++ x ∷ []) ≡ suc (length xs) = length-append xs (x ∷ []) ∙ (let e : length xs + 1 ≡ suc (length xs) = omega arith in e) in
    let top = field_mul (polynomial y) (power h (suc (length xs))) in
    let first : field_mul (polynomial y) (power h (suc (length (xs ++ x ∷ [])))) ≡ field_mul top h =
    ap (λ m. field_mul (polynomial y) (power h (suc m))) n ∙ power_step (polynomial y) h (suc (length xs)) small in
    (λ i. bit_xor (first i) (ghash_more h xs x small i))
    ∙ sym (field_mul-xor top (bit_xor (ghash h xs) (polynomial x)) h)
    ∙ ap (λ s. field_mul s h) (sym (xor_assoc top (ghash h xs) (polynomial x)))
