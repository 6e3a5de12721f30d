-- The reduction step (`folded`) is linear, two steps reduce a product completely, and it commutes with doubling.
use Rattle.std.proofs.Common.{◌≡◌, ℕ, ◌+◌, ◌*◌, ◌/◌, ◌%◌, ◌^◌, ◌<◌, bit_xor, refl, sym, ap, ◌∙◌, arith}
use Rattle.std.specs.Int.Bits.{xor_assoc, xor_zero_r}
use Rattle.std.proofs.lemmas.Nat.{xor_comm, xor_lt, xor_shr, xor_mod, pow-add, shr_below}
use lib.Bits.{xor_shifted}
use Rattle.pme_terms.proofs.Xors.{xor_swap, xor_shl, bit_times}
use Rattle.gcm_field.specs.Field.{times_low, folded}

pub times_low-xor : (a b : ℕ) → times_low (bit_xor a b) ≡ bit_xor (times_low a) (times_low b)
unfolding times_low
times_low-xor a b =
    (λ i. bit_xor (bit_xor (bit_xor (bit_xor a b) (xor_shl a b 1 i)) (xor_shl a b 2 i)) (xor_shl a b 7 i))
    ∙ ap (λ s. bit_xor (bit_xor s (bit_xor (a * 4) (b * 4))) (bit_xor (a * 128) (b * 128))) (xor_swap a b (a * 2) (b * 2))
    ∙ ap (λ s. bit_xor s (bit_xor (a * 128) (b * 128))) (xor_swap (bit_xor a (a * 2)) (bit_xor b (b * 2)) (a * 4) (b * 4))
    ∙ xor_swap (bit_xor (bit_xor a (a * 2)) (a * 4)) (bit_xor (bit_xor b (b * 2)) (b * 4)) (a * 128) (b * 128)

pub times_low-double : (a : ℕ) → times_low (a * 2) ≡ times_low a * 2
unfolding times_low
times_low-double a =
    let f : a * 2 * 4 ≡ a * 4 * 2 = omega arith in
    let g : a * 2 * 128 ≡ a * 128 * 2 = omega arith in
    (λ i. bit_xor (bit_xor (bit_xor (a * 2) (a * 2 * 2)) (f i)) (g i))
    ∙ sym (xor_shl (bit_xor (bit_xor a (a * 2)) (a * 4)) (a * 128) 1
    ∙ ap (λ s. bit_xor s (a * 128 * 2)) (xor_shl (bit_xor a (a * 2)) (a * 4) 1 ∙ ap (λ s. bit_xor s (a * 4 * 2)) (xor_shl a (a * 2) 1)))

pub times_low_lt : (k a : ℕ) → a < 2 ^ k → times_low a < 2 ^ (k + 7)
unfolding times_low
times_low_lt k a h =
    let wide : 2 ^ k * 128 ≡ 2 ^ (k + 7) = sym (pow-add 2 k 7) in
    let one : a < 2 ^ (k + 7) = omega arith in
    let two : a * 2 < 2 ^ (k + 7) = omega arith in
    let four : a * 4 < 2 ^ (k + 7) = omega arith in
    let last : a * 128 < 2 ^ (k + 7) = omega arith in
    xor_lt (k + 7) _ _ (xor_lt (k + 7) _ _ (xor_lt (k + 7) _ _ one two) four) last

pub folded-xor : (a b : ℕ) → folded (bit_xor a b) ≡ bit_xor (folded a) (folded b)
unfolding folded
folded-xor a b =
    (λ i. bit_xor (xor_mod a b 128 i) ((ap times_low (xor_shr a b 128) ∙ times_low-xor (a / 2 ^ 128) (b / 2 ^ 128)) i))
    ∙ xor_swap (a % 2 ^ 128) (b % 2 ^ 128) (times_low (a / 2 ^ 128)) (times_low (b / 2 ^ 128))

pub folded_small : (p : ℕ) → p < 2 ^ 128 → folded p ≡ p
unfolding folded times_low
folded_small p h =
    let low : p % 2 ^ 128 ≡ p = omega arith in
    let high : p / 2 ^ 128 ≡ 0 = omega arith in
    ap (λ q. bit_xor (p % 2 ^ 128) (times_low q)) high ∙ xor_zero_r (p % 2 ^ 128) ∙ low

folded_of_300 : (p : ℕ) → p < 2 ^ 300 → folded p < 2 ^ 200
unfolding folded
folded_of_300 p h =
    let high : times_low (p / 2 ^ 128) < 2 ^ 179 = times_low_lt 172 (p / 2 ^ 128) (shr_below p 172 128 h) in
    let low : p % 2 ^ 128 < 2 ^ 128 = omega arith in
    xor_lt 200 (p % 2 ^ 128) (times_low (p / 2 ^ 128)) (omega arith) (omega arith)

folded_of_200 : (p : ℕ) → p < 2 ^ 200 → folded p < 2 ^ 128
unfolding folded
folded_of_200 p h =
    let high : times_low (p / 2 ^ 128) < 2 ^ 79 = times_low_lt 72 (p / 2 ^ 128) (shr_below p 72 128 h) in
    let low : p % 2 ^ 128 < 2 ^ 128 = omega arith in
    xor_lt 128 (p % 2 ^ 128) (times_low (p / 2 ^ 128)) (omega arith) (omega arith)

-- two reduction steps
abbrev pub reduced : ℕ → ℕ
reduced p = folded (folded p)

pub reduced-xor : (a b : ℕ) → reduced (bit_xor a b) ≡ bit_xor (reduced a) (reduced b)
reduced-xor a b = ap folded (folded-xor a b) ∙ folded-xor (folded a) (folded b)

pub reduced_small : (p : ℕ) → p < 2 ^ 128 → reduced p ≡ p
reduced_small p h = ap folded (folded_small p h) ∙ folded_small p h

pub reduced_lt : (p : ℕ) → p < 2 ^ 300 → reduced p < 2 ^ 128
reduced_lt p h = folded_of_200 (folded p) (folded_of_300 p h)

-- the product with x
abbrev pub xtimes : ℕ → ℕ
xtimes p = folded (p * 2)

pub xtimes-xor : (a b : ℕ) → xtimes (bit_xor a b) ≡ bit_xor (xtimes a) (xtimes b)
xtimes-xor a b = ap folded (xor_shl a b 1) ∙ folded-xor (a * 2) (b * 2)

-- x^128 reduces to the modulus without x^128
pub bit_folds : (t : ℕ) → t < 2 → folded (times_low t) ≡ folded (t * 2 ^ 128)
unfolding folded times_low
bit_folds t h = bit_times (λ t. folded (times_low t) ≡ folded (t * 2 ^ 128)) t h refl refl

-- doubling before or after a reduction step gives the same result after one more step
pub folded-double : (p : ℕ) → folded (folded (p * 2)) ≡ folded (folded p * 2)
unfolding folded
folded-double p =
    let h = p / 2 ^ 128 in
    let t = p / 2 ^ 127 % 2 in
    let m = p % 2 ^ 127 in
    let x = bit_xor (m * 2) (times_low h * 2) in
    let bit : t < 2 = omega arith in
    let low : p * 2 % 2 ^ 128 ≡ m * 2 = omega arith in
    let high : p * 2 / 2 ^ 128 ≡ h * 2 + t = omega arith in
    let parts : p % 2 ^ 128 * 2 ≡ t * 2 ^ 128 + m * 2 = omega arith in
    let small : m * 2 < 2 ^ 128 = omega arith in
    let before : folded (p * 2) ≡ bit_xor x (times_low t) =
    (λ i. bit_xor (low i) (times_low (high i)))
    ∙ ap (λ s. bit_xor (m * 2) s) (ap times_low (sym (xor_shifted h 1 t bit)) ∙ times_low-xor (h * 2) t ∙ ap (λ s. bit_xor s (times_low t)) (times_low-double h))
    ∙ sym (xor_assoc (m * 2) (times_low h * 2) (times_low t)) in
    let after : folded p * 2 ≡ bit_xor (t * 2 ^ 128) x =
    xor_shl (p % 2 ^ 128) (times_low h) 1
    ∙ ap (λ s. bit_xor s (times_low h * 2)) (parts ∙ sym (xor_shifted t 128 (m * 2) small))
    ∙ xor_assoc (t * 2 ^ 128) (m * 2) (times_low h * 2) in
    ap folded before ∙ folded-xor x (times_low t) ∙ ap (λ s. bit_xor (folded x) s) (bit_folds t bit)
    ∙ xor_comm (folded x) (folded (t * 2 ^ 128)) ∙ sym (ap folded after ∙ folded-xor (t * 2 ^ 128) x)

pub reduced-double : (p : ℕ) → p < 2 ^ 299 → reduced (p * 2) ≡ xtimes (reduced p)
reduced-double p h =
    let small : reduced (p * 2) < 2 ^ 128 = reduced_lt (p * 2) (omega arith) in
    sym (sym (folded-double (folded p)) ∙ ap folded (sym (folded-double p)) ∙ folded_small (reduced (p * 2)) small)
