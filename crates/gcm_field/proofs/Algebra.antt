-- The product of the field is linear in its first factor, has the unit 1, and is associative.
use Rattle.std.proofs.Common.{◌≡◌, ℕ, zero, suc, ◌+◌, ◌*◌, ◌/◌, ◌%◌, ◌^◌, ◌<◌, bit_xor, refl, sym, ap, ◌∙◌, arith}
use Rattle.std.specs.Int.{bit_at}
use Rattle.std.specs.Int.Bits.{xor_zero_r}
use Rattle.std.proofs.lemmas.Nat.{xor_lt, shl_below, pow_below, shr_split}
use Rattle.std.proofs.lemmas.Nat.Bits.{bit_at-lt, bit_at_cat_low}
use Rattle.pme_terms.specs.Polynomials.{product_below}
use Rattle.pme_terms.proofs.Xors.{bit_times, pow-suc}
use Rattle.pme_terms.proofs.Products.{product-none, product-more, product-xor_left, product-same, product_short, product-double, product_lt}
use Rattle.gcm_field.specs.Field.{times_low, folded, field_mul}
use Rattle.gcm_field.proofs.Folds.{reduced, reduced-xor, reduced_small, reduced_lt, reduced-double, xtimes, folded_small, times_low_lt}

pub field_mul-xor : (a b c : ℕ) → field_mul (bit_xor a b) c ≡ bit_xor (field_mul a c) (field_mul b c)
unfolding field_mul
field_mul-xor a b c = ap reduced (product-xor_left a b c 128) ∙ reduced-xor (product_below a c 128) (product_below b c 128)

pub field_mul_lt : (a b : ℕ) → b < 2 ^ 128 → field_mul a b < 2 ^ 128
unfolding field_mul
field_mul_lt a b h =
    let wide : product_below a b 128 < 2 ^ 256 = product_lt a b 128 128 h in
    reduced_lt (product_below a b 128) (omega arith)

scaled : (p c : ℕ) → p < 2 → reduced (p * c) ≡ p * reduced c
scaled p c h =
    bit_times (λ p. reduced (p * c) ≡ p * reduced c) p h
    (let e : 0 * c ≡ 0 = omega arith in let f : 0 * reduced c ≡ 0 = omega arith in rw (e, f) (reduced_small 0 (omega arith)))
    (let e : 1 * c ≡ c = omega arith in let f : 1 * reduced c ≡ reduced c = omega arith in rw (e, f) refl)

-- the product with one more coefficient of the first factor
pub sum_more : (a b n : ℕ) → reduced (product_below a b (suc n)) ≡ bit_xor (reduced (product_below a b n)) (bit_at a n * reduced (b * 2 ^ n))
sum_more a b n =
    ap reduced (product-more a b n) ∙ reduced-xor (product_below a b n) (bit_at a n * (b * 2 ^ n))
    ∙ ap (λ s. bit_xor (reduced (product_below a b n)) s) (scaled (bit_at a n) (b * 2 ^ n) (bit_at-lt a n))

pub field_mul-none : (c : ℕ) → field_mul 0 c ≡ 0
unfolding field_mul
field_mul-none c = ap reduced (product_short 0 c 0 128 (omega arith) ∙ product-none 0 c) ∙ reduced_small 0 (omega arith)

field_mul-scaled : (p a c : ℕ) → p < 2 → field_mul (p * a) c ≡ p * field_mul a c
field_mul-scaled p a c h =
    bit_times (λ p. field_mul (p * a) c ≡ p * field_mul a c) p h
    (let e : 0 * a ≡ 0 = omega arith in let f : 0 * field_mul a c ≡ 0 = omega arith in rw (e, f) (field_mul-none c))
    (let e : 1 * a ≡ a = omega arith in let f : 1 * field_mul a c ≡ field_mul a c = omega arith in rw (e, f) refl)

eight : (c : ℕ) → product_below 0x87 c 8 ≡ times_low c
unfolding product_below times_low
eight c =
    let e0 : 1 * (c * 1) ≡ c = omega arith in
    let e1 : 1 * (c * 2) ≡ c * 2 = omega arith in
    let e2 : 1 * (c * 4) ≡ c * 4 = omega arith in
    let e3 : 0 * (c * 8) ≡ 0 = omega arith in
    let e4 : 0 * (c * 16) ≡ 0 = omega arith in
    let e5 : 0 * (c * 32) ≡ 0 = omega arith in
    let e6 : 0 * (c * 64) ≡ 0 = omega arith in
    let e7 : 1 * (c * 128) ≡ c * 128 = omega arith in
    let s = bit_xor (bit_xor c (c * 2)) (c * 4) in
    let gone : bit_xor (bit_xor (bit_xor (bit_xor s 0) 0) 0) 0 ≡ s = xor_zero_r _ ∙ xor_zero_r _ ∙ xor_zero_r _ ∙ xor_zero_r s in
    (λ i. bit_xor (bit_xor (bit_xor (bit_xor (bit_xor (bit_xor (bit_xor (e0 i) (e1 i)) (e2 i)) (e3 i)) (e4 i)) (e5 i)) (e6 i)) (e7 i))
    ∙ ap (λ r. bit_xor r (c * 128)) gone

-- the product with x^7 + x^2 + x + 1
low_product : (c : ℕ) → product_below 0x87 c 128 ≡ times_low c
low_product c = product_short 0x87 c 8 120 (omega arith) ∙ eight c

low_lt : (c : ℕ) → c < 2 ^ 128 → folded (times_low c) < 2 ^ 128
unfolding folded
low_lt c h =
    let wide : times_low c < 2 ^ 135 = times_low_lt 128 c h in
    let high : times_low (times_low c / 2 ^ 128) < 2 ^ 14 = times_low_lt 7 (times_low c / 2 ^ 128) (omega arith) in
    xor_lt 128 (times_low c % 2 ^ 128) (times_low (times_low c / 2 ^ 128)) (omega arith) (omega arith)

shifted : (c : ℕ) → folded (c * 2 ^ 128) ≡ times_low c
unfolding folded
shifted c =
    let low : c * 2 ^ 128 % 2 ^ 128 ≡ 0 = omega arith in
    let high : c * 2 ^ 128 / 2 ^ 128 ≡ c = omega arith in
    λ i. bit_xor (low i) (times_low (high i))

folded_low : (c : ℕ) → c < 2 ^ 128 → reduced (times_low c) ≡ reduced (c * 2 ^ 128)
folded_low c h =
    let small : folded (times_low c) < 2 ^ 128 = low_lt c h in
    folded_small (folded (times_low c)) small ∙ sym (ap folded (shifted c))

-- the coefficient that the product with x moves to x^128
over : (t c : ℕ) → t < 2 → c < 2 ^ 128 → reduced (product_below (times_low t) c 128) ≡ t * reduced (c * 2 ^ 128)
unfolding times_low
over t c h small =
    bit_times (λ t. reduced (product_below (times_low t) c 128) ≡ t * reduced (c * 2 ^ 128)) t h
    (let e : 0 * reduced (c * 2 ^ 128) ≡ 0 = omega arith in
    ap reduced (product_short 0 c 0 128 (omega arith) ∙ product-none 0 c) ∙ reduced_small 0 (omega arith) ∙ sym e)
    (let e : 1 * reduced (c * 2 ^ 128) ≡ reduced (c * 2 ^ 128) = omega arith in
    ap reduced (low_product c) ∙ folded_low c small ∙ sym e)

pub low_bits : (n k i : ℕ) → i < k → bit_at (n % 2 ^ k) i ≡ bit_at n i
low_bits n k i h = sym (bit_at_cat_low (n / 2 ^ k) k (n % 2 ^ k) i h) ∙ ap (λ m. bit_at m i) (shr_split n k)

pub xtimes_mul : (a c : ℕ) → a < 2 ^ 128 → c < 2 ^ 128 → field_mul (xtimes a) c ≡ xtimes (field_mul a c)
unfolding field_mul folded
xtimes_mul a c ha hc =
    let t = a * 2 / 2 ^ 128 in
    let bit : t < 2 = omega arith in
    let top : t ≡ bit_at (a * 2) 128 = omega arith in
    let wide : product_below a c 128 < 2 ^ 256 = product_lt a c 128 128 hc in
    ap reduced (product-xor_left (a * 2 % 2 ^ 128) (times_low t) c 128)
    ∙ reduced-xor (product_below (a * 2 % 2 ^ 128) c 128) (product_below (times_low t) c 128)
    ∙ (λ i. bit_xor (reduced (product-same (a * 2 % 2 ^ 128) (a * 2) c 128 (low_bits (a * 2) 128) i)) (over t c bit hc i))
    ∙ ap (λ p. bit_xor (reduced (product_below (a * 2) c 128)) (p * reduced (c * 2 ^ 128))) top
    ∙ sym (sum_more (a * 2) c 128)
    ∙ ap reduced (product-double a c 128)
    ∙ reduced-double (product_below a c 128) (omega arith)

shift_lt : (b n : ℕ) → b < 2 ^ 128 → n < 129 → b * 2 ^ n < 2 ^ 300
shift_lt b n hb hn =
    let wide : b * 2 ^ n < 2 ^ (128 + n) = shl_below b 128 n hb in
    let bound : 2 ^ (128 + n) < 2 ^ 299 = pow_below (128 + n) 299 (omega arith) in
    omega arith

pub reduced-suc : (b n : ℕ) → b < 2 ^ 128 → n < 128 → reduced (b * 2 ^ suc n) ≡ xtimes (reduced (b * 2 ^ n))
reduced-suc b n hb hn =
    let wide : b * 2 ^ n < 2 ^ (128 + n) = shl_below b 128 n hb in
    let bound : 2 ^ (128 + n) < 2 ^ 299 = pow_below (128 + n) 299 (omega arith) in
    let e : b * 2 ^ suc n ≡ b * 2 ^ n * 2 = rw (pow-suc n) (omega arith) in
    ap reduced e ∙ reduced-double (b * 2 ^ n) (omega arith)

-- the product of a factor with x^n
shifted_mul : (b c n : ℕ) → b < 2 ^ 128 → c < 2 ^ 128 → n < 129 → field_mul (reduced (b * 2 ^ n)) c ≡ reduced (field_mul b c * 2 ^ n)
shifted_mul b c zero hb hc hn =
    let e : b * 2 ^ 0 ≡ b = omega arith in
    let f : field_mul b c * 2 ^ 0 ≡ field_mul b c = omega arith in
    let small : field_mul b c < 2 ^ 128 = field_mul_lt b c hc in
    ap (λ d. field_mul d c) (ap reduced e ∙ reduced_small b hb) ∙ sym (ap reduced f ∙ reduced_small (field_mul b c) small)
shifted_mul b c (suc n) hb hc hn =
    let product : field_mul b c < 2 ^ 128 = field_mul_lt b c hc in
    let small : reduced (b * 2 ^ n) < 2 ^ 128 = reduced_lt (b * 2 ^ n) (shift_lt b n hb (omega arith)) in
    ap (λ d. field_mul d c) (reduced-suc b n hb (omega arith))
    ∙ xtimes_mul (reduced (b * 2 ^ n)) c small hc
    ∙ ap xtimes (shifted_mul b c n hb hc (omega arith))
    ∙ sym (reduced-suc (field_mul b c) n product (omega arith))

-- induction over the coefficients of a below x^n
assoc_below : (a b c n : ℕ) → b < 2 ^ 128 → c < 2 ^ 128 → n < 129 → field_mul (reduced (product_below a b n)) c ≡ reduced (product_below a (field_mul b c) n)
assoc_below a b c zero hb hc hn =
    ap (λ d. field_mul d c) (ap reduced (product-none a b) ∙ reduced_small 0 (omega arith)) ∙ field_mul-none c
    ∙ sym (ap reduced (product-none a (field_mul b c)) ∙ reduced_small 0 (omega arith))
assoc_below a b c (suc n) hb hc hn =
    let term = reduced (b * 2 ^ n) in
    ap (λ d. field_mul d c) (sum_more a b n)
    ∙ field_mul-xor (reduced (product_below a b n)) (bit_at a n * term) c
    ∙ (λ i. bit_xor (assoc_below a b c n hb hc (omega arith) i) ((field_mul-scaled (bit_at a n) term c (bit_at-lt a n) ∙ ap (λ d. bit_at a n * d) (shifted_mul b c n hb hc (omega arith))) i))
    ∙ sym (sum_more a (field_mul b c) n)

pub field_mul_assoc : (a b c : ℕ) → b < 2 ^ 128 → c < 2 ^ 128 → field_mul (field_mul a b) c ≡ field_mul a (field_mul b c)
unfolding field_mul
field_mul_assoc a b c hb hc = assoc_below a b c 128 hb hc (omega arith)

only : (c : ℕ) → product_below 1 c 1 ≡ c
unfolding product_below
only c = let e : 1 * (c * 1) ≡ c = omega arith in e

pub one_mul : (c : ℕ) → c < 2 ^ 128 → field_mul 1 c ≡ c
unfolding field_mul
one_mul c h = ap reduced (product_short 1 c 1 127 (omega arith) ∙ only c) ∙ reduced_small c h
