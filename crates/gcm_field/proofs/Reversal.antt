-- Numbers of 128 bits in the bit order of a block, first bit highest, and the polynomials that they represent.
use Rattle.std.proofs.Common.{◌≡◌, ℕ, zero, suc, ◌+◌, ◌-◌, ◌*◌, ◌/◌, ◌%◌, ◌^◌, ◌<◌, bit_xor, refl, sym, ap, ◌∙◌, arith}
use Rattle.std.specs.Int.{bit_at}
use Rattle.std.proofs.lemmas.Nat.{xor_lt, shl-shr}
use Rattle.std.proofs.lemmas.Nat.Bits.{bit_at-lt, bit_at-suc, bit_at_lowest, bit_at_above, bit_at_xor, same_from_bits_below}
use Rattle.pme_terms.specs.Polynomials.{number_below}
use Rattle.pme_terms.proofs.Xors.{bit_times}
use Rattle.pme_terms.proofs.Numbers.{number_lt, bit_at-number_below}
use Rattle.gcm_field.specs.Field.{times_low, folded, reversed}
use Rattle.gcm_field.proofs.Folds.{xtimes}
use Rattle.gcm_field.proofs.Algebra.{low_bits}

pub reversed_lt : (n : ℕ) → reversed n < 2 ^ 128
unfolding reversed
reversed_lt n = number_lt (λ i. bit_at n (127 - i)) 128 (λ i. bit_at-lt n (127 - i))

pub bit_at-reversed : (n i : ℕ) → i < 128 → bit_at (reversed n) i ≡ bit_at n (127 - i)
unfolding reversed
bit_at-reversed n i h = bit_at-number_below (λ k. bit_at n (127 - k)) 128 i (λ k. bit_at-lt n (127 - k)) h

pub reversed-reversed : (n : ℕ) → n < 2 ^ 128 → reversed (reversed n) ≡ n
reversed-reversed n h = same_from_bits_below 128 (reversed (reversed n)) n (reversed_lt (reversed n)) h (λ i low.
    let e : 127 - (127 - i) ≡ i = omega arith in
    bit_at-reversed (reversed n) i low ∙ bit_at-reversed n (127 - i) (omega arith) ∙ ap (bit_at n) e)

pub reversed-xor : (a b : ℕ) → reversed (bit_xor a b) ≡ bit_xor (reversed a) (reversed b)
reversed-xor a b =
    same_from_bits_below 128 (reversed (bit_xor a b)) (bit_xor (reversed a) (reversed b)) (reversed_lt (bit_xor a b))
    (xor_lt 128 (reversed a) (reversed b) (reversed_lt a) (reversed_lt b))
    (λ i low. bit_at-reversed (bit_xor a b) i low ∙ bit_at_xor a b (127 - i)
    ∙ sym (bit_at_xor (reversed a) (reversed b) i ∙ (λ j. (bit_at-reversed a i low j + bit_at-reversed b i low j) % 2)))

half_bit : (v i : ℕ) → v < 2 ^ 128 → i < 128 → bit_at (v / 2) (127 - i) ≡ bit_at (reversed v * 2) i
half_bit v zero h low =
    sym (bit_at-suc v 127) ∙ bit_at_above v 128 128 h (omega arith)
    ∙ sym (bit_at_lowest (reversed v * 2) ∙ (let e : reversed v * 2 % 2 ≡ 0 = omega arith in e))
half_bit v (suc i) h low =
    let e : suc (127 - suc i) ≡ 127 - i = omega arith in
    sym (bit_at-suc v (127 - suc i)) ∙ ap (bit_at v) e ∙ sym (bit_at-reversed v i (omega arith))
    ∙ sym (bit_at-suc (reversed v * 2) i ∙ ap (λ d. bit_at d i) (shl-shr (reversed v) 1))

-- a right shift is a product with x, except for the bit that is shifted out
pub reversed-half : (v : ℕ) → v < 2 ^ 128 → reversed (v / 2) ≡ reversed v * 2 % 2 ^ 128
reversed-half v h =
    same_from_bits_below 128 (reversed (v / 2)) (reversed v * 2 % 2 ^ 128) (reversed_lt (v / 2)) (omega arith)
    (λ i low. bit_at-reversed (v / 2) i low ∙ half_bit v i h low ∙ sym (low_bits (reversed v * 2) 128 i low))

-- a block with first byte 0xe1 and zeros represents the modulus without x^128
last_folds : (t : ℕ) → t < 2 → reversed (t * (0xe1 * 2 ^ 120)) ≡ times_low t
unfolding reversed number_below times_low
last_folds t h = bit_times (λ t. reversed (t * (0xe1 * 2 ^ 120)) ≡ times_low t) t h refl refl

-- the product with x, in the bit order of a block
pub reversed_step : (v : ℕ) → v < 2 ^ 128 → reversed (bit_xor (v / 2) (v % 2 * (0xe1 * 2 ^ 120))) ≡ xtimes (reversed v)
unfolding folded
reversed_step v h =
    let t = v % 2 in
    let bit : t < 2 = omega arith in
    let small : reversed v < 2 ^ 128 = reversed_lt v in
    let same : t ≡ bit_at (reversed v) 127 = sym (bit_at-reversed v 127 (omega arith) ∙ bit_at_lowest v) in
    let top : t ≡ reversed v * 2 / 2 ^ 128 = omega (arith, same) in
    reversed-xor (v / 2) (t * (0xe1 * 2 ^ 120))
    ∙ (λ j. bit_xor (reversed-half v h j) ((last_folds t bit ∙ ap times_low top) j))
