-- Products of polynomials over bits.
use Rattle.std.proofs.Common.{◌≡◌, ℕ, zero, suc, ◌+◌, ◌*◌, ◌^◌, ◌<◌, bit_xor, refl, sym, ap, ◌∙◌, arith, add-zero}
use Rattle.std.specs.Int.{bit_at}
use Rattle.std.specs.Int.Bits.{xor_zero_r}
use Rattle.std.proofs.lemmas.Nat.{xor_lt, pow_below, pow_pos, shl_below, shl-shr}
use Rattle.std.proofs.lemmas.Nat.Bits.{bit_at-lt, bit_at-suc, bit_at_above, bit_at_lowest, bit_at-pow_other, bit_at-pow_same, bit_at-zero}
use Rattle.pme_terms.specs.Polynomials.{product_below}
use Rattle.pme_terms.proofs.Xors.{xor_swap, xor_shl, bit_at-xor_times, bit_times, times_xor, pow-suc}

pub product-none : (a b : ℕ) → product_below a b 0 ≡ 0
unfolding product_below
product-none a b = refl

pub product-more : (a b n : ℕ) → product_below a b (suc n) ≡ bit_xor (product_below a b n) (bit_at a n * (b * 2 ^ n))
unfolding product_below
product-more a b n = refl

pub product-xor_left : (a b c n : ℕ) → product_below (bit_xor a b) c n ≡ bit_xor (product_below a c n) (product_below b c n)
unfolding product_below
product-xor_left a b c zero = refl
product-xor_left a b c (suc n) =
    (λ i. bit_xor (product-xor_left a b c n i) (bit_at-xor_times a b (c * 2 ^ n) n i))
    ∙ xor_swap (product_below a c n) (product_below b c n) (bit_at a n * (c * 2 ^ n)) (bit_at b n * (c * 2 ^ n))

pub product-xor_right : (a b c n : ℕ) → product_below a (bit_xor b c) n ≡ bit_xor (product_below a b n) (product_below a c n)
unfolding product_below
product-xor_right a b c zero = refl
product-xor_right a b c (suc n) =
    (λ i. bit_xor (product-xor_right a b c n i) (bit_at a n * xor_shl b c n i))
    ∙ ap (λ s. bit_xor (bit_xor (product_below a b n) (product_below a c n)) s) (times_xor (bit_at a n) (b * 2 ^ n) (c * 2 ^ n) (bit_at-lt a n))
    ∙ xor_swap (product_below a b n) (product_below a c n) (bit_at a n * (b * 2 ^ n)) (bit_at a n * (c * 2 ^ n))

-- only the bits of the first factor count
pub product-same : (a d b n : ℕ) → ((i : ℕ) → i < n → bit_at a i ≡ bit_at d i) → product_below a b n ≡ product_below d b n
unfolding product_below
product-same a d b zero same = refl
product-same a d b (suc n) same =
    λ i. bit_xor (product-same a d b n (λ k h. same k (omega arith)) i) (same n (omega arith) i * (b * 2 ^ n))

-- bits above the first factor's highest add nothing
pub product_short : (a b k n : ℕ) → a < 2 ^ k → product_below a b (k + n) ≡ product_below a b k
product_short a b k zero h = ap (product_below a b) (add-zero k)
product_short a b k (suc n) h =
    let e : k + suc n ≡ suc (k + n) = omega arith in
    let none : bit_at a (k + n) ≡ 0 = bit_at_above a k (k + n) h (omega arith) in
    let gone : 0 * (b * 2 ^ (k + n)) ≡ 0 = omega arith in
    ap (product_below a b) e ∙ product-more a b (k + n)
    ∙ ap (λ p. bit_xor (product_below a b (k + n)) (p * (b * 2 ^ (k + n)))) none
    ∙ ap (λ p. bit_xor (product_below a b (k + n)) p) gone
    ∙ xor_zero_r (product_below a b (k + n))
    ∙ product_short a b k n h

double_bit : (a n : ℕ) → bit_at (a * 2) (suc n) ≡ bit_at a n
double_bit a n = bit_at-suc (a * 2) n ∙ ap (λ d. bit_at d n) (shl-shr a 1)

double_lowest : (a : ℕ) → bit_at (a * 2) 0 ≡ 0
double_lowest a = bit_at_lowest (a * 2) ∙ omega arith

-- the product with x a
pub product-double : (a b n : ℕ) → product_below (a * 2) b (suc n) ≡ product_below a b n * 2
product-double a b zero =
    product-more (a * 2) b 0
    ∙ (λ i. bit_xor (product-none (a * 2) b i) (double_lowest a i * (b * 2 ^ 0)))
    ∙ ap (λ s. bit_xor 0 s) (let e : 0 * (b * 2 ^ 0) ≡ 0 = omega arith in e)
    ∙ ap (λ s. s * 2) (sym (product-none a b))
product-double a b (suc n) =
    let step : bit_at a n * (b * 2 ^ suc n) ≡ bit_at a n * (b * 2 ^ n) * 2 = doubled (bit_at a n) b n in
    product-more (a * 2) b (suc n)
    ∙ (λ i. bit_xor (product-double a b n i) (double_bit a n i * (b * 2 ^ suc n)))
    ∙ ap (λ s. bit_xor (product_below a b n * 2) s) step
    ∙ sym (xor_shl (product_below a b n) (bit_at a n * (b * 2 ^ n)) 1)
    ∙ ap (λ s. s * 2) (sym (product-more a b n))
  where
    doubled : (p b n : ℕ) → p * (b * 2 ^ suc n) ≡ p * (b * 2 ^ n) * 2
    doubled p b n = rw (pow-suc n) (omega arith)

pub product_lt : (a b m n : ℕ) → b < 2 ^ m → product_below a b n < 2 ^ (m + n)
product_lt a b m zero h = let e = product-none a b in rw (product-none a b) (pow_pos (m + 0))
product_lt a b m (suc n) h =
    let e : m + suc n ≡ suc (m + n) = omega arith in
    let wider : 2 ^ (m + n) < 2 ^ suc (m + n) = pow_below (m + n) (suc (m + n)) (omega arith) in
    let before : product_below a b n < 2 ^ (m + n) = product_lt a b m n h in
    let shifted : b * 2 ^ n < 2 ^ (m + n) = shl_below b m n h in
    let term : bit_at a n * (b * 2 ^ n) < 2 ^ (m + n) =
    bit_times (λ p. p * (b * 2 ^ n) < 2 ^ (m + n)) (bit_at a n) (bit_at-lt a n) (omega (arith, pow_pos (m + n))) (omega arith) in
    let sum : bit_xor (product_below a b n) (bit_at a n * (b * 2 ^ n)) < 2 ^ (m + n) = xor_lt (m + n) _ _ before term in
    rw (e, product-more a b n) (omega arith)

-- a power of x as the first factor
pub product-pow : (n b k : ℕ) → product_below (2 ^ n) b (suc n + k) ≡ b * 2 ^ n
product-pow n b k =
    let below : product_below (2 ^ n) b n ≡ 0 =
    product-same (2 ^ n) 0 b n (λ i h. bit_at-pow_other n i (omega arith) ∙ sym (bit_at-zero i))
    ∙ ap (product_below 0 b) (let e : n ≡ 0 + n = omega arith in e) ∙ product_short 0 b 0 n (omega arith) ∙ product-none 0 b in
    let one : 1 * (b * 2 ^ n) ≡ b * 2 ^ n = omega arith in
    product_short (2 ^ n) b (suc n) k (pow_below n (suc n) (omega arith))
    ∙ product-more (2 ^ n) b n ∙ (λ i. bit_xor (below i) (bit_at-pow_same n i * (b * 2 ^ n))) ∙ one
