-- Lemmas about the products in a hash key's table.
use Rattle.std.proofs.Common.{◌≡◌, ℕ, suc, ◌+◌, ◌-◌, ◌*◌, ◌/◌, ◌%◌, ◌^◌, ◌<◌, bit_xor, [], ◌∷◌, get_or, refl, sym, ap, ◌∙◌, arith, inl, inr}
use Rattle.std.specs.Int.{bit_at}
use Rattle.std.proofs.lemmas.Bool.{cases_eq}
use Rattle.std.proofs.lemmas.List.FromFn.{get_or-map-range_with_len}
use Rattle.std.proofs.lemmas.Nat.{pow_below, pow-add, shr-shr}
use Rattle.std.proofs.lemmas.Nat.Bits.{bit_at-pow_same, bit_at-pow_other, same_from_bits_below}
use lib.Bits.{xor_shifted}
use Rattle.pme_terms.specs.Polynomials.{product_below, number_below}
use Rattle.pme_terms.proofs.Xors.{xor_shl}
use Rattle.pme_terms.proofs.Products.{product-pow}
use Rattle.gcm_field.specs.Field.{folded, field_mul, reversed}
use Rattle.gcm_field.specs.Table.{multiple, table_row, table_of}
use Rattle.gcm_field.proofs.Folds.{reduced, xtimes}
use Rattle.gcm_field.proofs.Algebra.{field_mul-xor, field_mul-none, reduced-suc}
use Rattle.gcm_field.proofs.Reversal.{reversed_lt, bit_at-reversed, reversed-reversed, reversed-xor}

pub multiple-xor : (h a b : ℕ) → multiple h (bit_xor a b) ≡ bit_xor (multiple h a) (multiple h b)
unfolding multiple
multiple-xor h a b =
    ap (λ p. reversed (field_mul p h)) (reversed-xor a b)
    ∙ ap reversed (field_mul-xor (reversed a) (reversed b) h)
    ∙ reversed-xor (field_mul (reversed a) h) (field_mul (reversed b) h)

pub reversed-none : reversed 0 ≡ 0
unfolding reversed number_below
reversed-none = refl

pub multiple-none : (h : ℕ) → multiple h 0 ≡ 0
unfolding multiple
multiple-none h = ap (λ p. reversed (field_mul p h)) reversed-none ∙ ap reversed (field_mul-none h) ∙ reversed-none

-- in the bit order of a block, the first bit is the coefficient of x^0
pub reversed-pow : (n : ℕ) → n < 128 → reversed (2 ^ (127 - n)) ≡ 2 ^ n
reversed-pow n h =
    same_from_bits_below 128 (reversed (2 ^ (127 - n))) (2 ^ n) (reversed_lt (2 ^ (127 - n))) (pow_below n 128 h)
    (λ i low. bit_at-reversed (2 ^ (127 - n)) i low ∙ elim (cases_eq i n) [
      | inl same ↦
          let e : 127 - i ≡ 127 - n = omega arith in
          ap (bit_at (2 ^ (127 - n))) e ∙ bit_at-pow_same (127 - n) ∙ sym (ap (bit_at (2 ^ n)) same ∙ bit_at-pow_same n)
      | inr other ↦
          bit_at-pow_other (127 - n) (127 - i) (λ e. other (omega arith)) ∙ sym (bit_at-pow_other n i other)
    ])

-- the product with a power of x
pub multiple_single : (h n : ℕ) → n < 128 → multiple h (2 ^ (127 - n)) ≡ reversed (reduced (h * 2 ^ n))
unfolding multiple field_mul
multiple_single h n small =
    let e : 128 ≡ suc n + (127 - n) = omega arith in
    ap (λ p. reversed (field_mul p h)) (reversed-pow n small)
    ∙ ap (λ m. reversed (reduced (product_below (2 ^ n) h m))) e
    ∙ ap (λ p. reversed (reduced p)) (product-pow n h (127 - n))

-- the invariant of the repeated products with x in `fill_table`
abbrev pub IsPower : ℕ → ℕ → ℕ → Type 0
IsPower h n v = (v < 2 ^ 128) × (reversed v ≡ reduced (h * 2 ^ n))

pub power_next : (h n v w : ℕ) → h < 2 ^ 128 → n < 128 → IsPower h n v → w < 2 ^ 128 → reversed w ≡ folded (reversed v * 2) → IsPower h (suc n) w
power_next h n v w small low p fits e = (fits, e ∙ ap xtimes p.1 ∙ sym (reduced-suc h n small low))

single_at : (h n v s d : ℕ) → n < 128 → IsPower h n v → d * 2 ^ s ≡ 2 ^ (127 - n) → v ≡ multiple h (d * 2 ^ s)
single_at h n v s d low p e =
    sym (reversed-reversed v p.0) ∙ ap reversed p.1 ∙ sym (ap (multiple h) e ∙ multiple_single h n low)

-- the product with a half byte is the XOR of the products with its bits
sum_of : (h s a b : ℕ) → bit_xor (multiple h (a * 2 ^ s)) (multiple h (b * 2 ^ s)) ≡ multiple h (bit_xor a b * 2 ^ s)
sum_of h s a b = sym (ap (multiple h) (xor_shl a b s) ∙ multiple-xor h (a * 2 ^ s) (b * 2 ^ s))

pub row_is : (h k a b c d : ℕ) → k < 32 → IsPower h (4 * k) a → IsPower h (suc (4 * k)) b → IsPower h (suc (suc (4 * k))) c → IsPower h (suc (suc (suc (4 * k)))) d
    → 0 ∷ d ∷ c ∷ bit_xor c d ∷ b ∷ bit_xor b d ∷ bit_xor b c ∷ bit_xor b (bit_xor c d)
    ∷ a ∷ bit_xor a d ∷ bit_xor a c ∷ bit_xor a (bit_xor c d)
    ∷ bit_xor a b ∷ bit_xor (bit_xor a b) d ∷ bit_xor (bit_xor a b) c ∷ bit_xor (bit_xor a b) (bit_xor c d) ∷ []
    ≡ table_row h k
unfolding table_row
row_is h k a b c d low pa pb pc pd =
    let s = 124 - 4 * k in
    let f : ℕ → ℕ = λ v. multiple h (v * 2 ^ s) in
    let p8 : 8 * 2 ^ s ≡ 2 ^ (127 - 4 * k) = scaled s 3 (127 - 4 * k) (omega arith) in
    let p4 : 4 * 2 ^ s ≡ 2 ^ (127 - suc (4 * k)) = scaled s 2 (127 - suc (4 * k)) (omega arith) in
    let p2 : 2 * 2 ^ s ≡ 2 ^ (127 - suc (suc (4 * k))) = scaled s 1 (127 - suc (suc (4 * k))) (omega arith) in
    let p1 : 1 * 2 ^ s ≡ 2 ^ (127 - suc (suc (suc (4 * k)))) = scaled s 0 (127 - suc (suc (suc (4 * k)))) (omega arith) in
    let e0 : 0 ≡ f 0 = sym (ap (multiple h) (let z : 0 * 2 ^ s ≡ 0 = omega arith in z) ∙ multiple-none h) in
    let e8 : a ≡ f 8 = single_at h (4 * k) a s 8 (omega arith) pa p8 in
    let e4 : b ≡ f 4 = single_at h (suc (4 * k)) b s 4 (omega arith) pb p4 in
    let e2 : c ≡ f 2 = single_at h (suc (suc (4 * k))) c s 2 (omega arith) pc p2 in
    let e1 : d ≡ f 1 = single_at h (suc (suc (suc (4 * k)))) d s 1 (omega arith) pd p1 in
    let e3 : bit_xor c d ≡ f 3 = (λ i. bit_xor (e2 i) (e1 i)) ∙ sum_of h s 2 1 in
    let e12 : bit_xor a b ≡ f 12 = (λ i. bit_xor (e8 i) (e4 i)) ∙ sum_of h s 8 4 in
    let e5 : bit_xor b d ≡ f 5 = (λ i. bit_xor (e4 i) (e1 i)) ∙ sum_of h s 4 1 in
    let e6 : bit_xor b c ≡ f 6 = (λ i. bit_xor (e4 i) (e2 i)) ∙ sum_of h s 4 2 in
    let e7 : bit_xor b (bit_xor c d) ≡ f 7 = (λ i. bit_xor (e4 i) (e3 i)) ∙ sum_of h s 4 3 in
    let e9 : bit_xor a d ≡ f 9 = (λ i. bit_xor (e8 i) (e1 i)) ∙ sum_of h s 8 1 in
    let e10 : bit_xor a c ≡ f 10 = (λ i. bit_xor (e8 i) (e2 i)) ∙ sum_of h s 8 2 in
    let e11 : bit_xor a (bit_xor c d) ≡ f 11 = (λ i. bit_xor (e8 i) (e3 i)) ∙ sum_of h s 8 3 in
    let e13 : bit_xor (bit_xor a b) d ≡ f 13 = (λ i. bit_xor (e12 i) (e1 i)) ∙ sum_of h s 12 1 in
    let e14 : bit_xor (bit_xor a b) c ≡ f 14 = (λ i. bit_xor (e12 i) (e2 i)) ∙ sum_of h s 12 2 in
    let e15 : bit_xor (bit_xor a b) (bit_xor c d) ≡ f 15 = (λ i. bit_xor (e12 i) (e3 i)) ∙ sum_of h s 12 3 in
    λ i. e0 i ∷ e1 i ∷ e2 i ∷ e3 i ∷ e4 i ∷ e5 i ∷ e6 i ∷ e7 i ∷ e8 i ∷ e9 i ∷ e10 i ∷ e11 i ∷ e12 i ∷ e13 i ∷ e14 i ∷ e15 i ∷ []
  where
    scaled : (s j t : ℕ) → t ≡ s + j → 2 ^ j * 2 ^ s ≡ 2 ^ t
    scaled s j t e = let f : 2 ^ s * 2 ^ j ≡ 2 ^ j * 2 ^ s = omega arith in sym (ap (λ m. 2 ^ m) e ∙ pow-add 2 s j ∙ f)

pub table_at : (h k v : ℕ) → k < 32 → v < 16 → get_or (get_or (table_of h) k []) v 0 ≡ multiple h (v * 2 ^ (124 - 4 * k))
unfolding table_of table_row
table_at h k v hk hv =
    ap (λ row. get_or row v 0) (get_or-map-range_with_len (table_row h) 0 32 k k [] hk (omega arith))
    ∙ get_or-map-range_with_len (λ d. multiple h (d * 2 ^ (124 - 4 * k))) 0 16 v v 0 hv (omega arith)

-- the two look-ups for one byte of x, whose lowest bit is bit s
pub next_byte : (h x s : ℕ)
    → bit_xor (multiple h (x / 2 ^ (8 + s) * 2 ^ (8 + s))) (bit_xor (multiple h (x / 2 ^ s % 256 / 16 * 2 ^ (4 + s))) (multiple h (x / 2 ^ s % 256 % 16 * 2 ^ s)))
    ≡ multiple h (x / 2 ^ s * 2 ^ s)
next_byte h x s =
    let y = x / 2 ^ s in
    let byte = y % 256 in
    let p : 2 ^ (8 + s) ≡ 256 * 2 ^ s = pow-add 2 8 s in
    let q : 2 ^ (4 + s) ≡ 16 * 2 ^ s = pow-add 2 4 s in
    let high : x / 2 ^ (8 + s) ≡ y / 256 = ap (λ m. x / 2 ^ m) (let e : 8 + s ≡ s + 8 = omega arith in e) ∙ sym (shr-shr x s 8) in
    let front : x / 2 ^ (8 + s) * 2 ^ (8 + s) ≡ y / 256 * 256 * 2 ^ s = (λ i. high i * p i) ∙ (let e : y / 256 * (256 * 2 ^ s) ≡ y / 256 * 256 * 2 ^ s = omega arith in e) in
    let first : byte / 16 * 2 ^ (4 + s) ≡ byte / 16 * 16 * 2 ^ s = ap (λ m. byte / 16 * m) q ∙ (let e : byte / 16 * (16 * 2 ^ s) ≡ byte / 16 * 16 * 2 ^ s = omega arith in e) in
    let small : byte < 2 ^ 8 = omega arith in
    let low : byte % 16 < 2 ^ 4 = omega arith in
    let parts : bit_xor (y / 256 * 256) (bit_xor (byte / 16 * 16) (byte % 16)) ≡ y =
    ap (λ b. bit_xor (y / 256 * 256) b) (xor_shifted (byte / 16) 4 (byte % 16) low ∙ (let e : byte / 16 * 16 + byte % 16 ≡ byte = omega arith in e))
    ∙ xor_shifted (y / 256) 8 byte small ∙ (let e : y / 256 * 256 + y % 256 ≡ y = omega arith in e) in
    (λ i. bit_xor (multiple h (front i)) (bit_xor (multiple h (first i)) (multiple h (byte % 16 * 2 ^ s))))
    ∙ ap (λ m. bit_xor (multiple h (y / 256 * 256 * 2 ^ s)) m) (sum_of h s (byte / 16 * 16) (byte % 16))
    ∙ sum_of h s (y / 256 * 256) (bit_xor (byte / 16 * 16) (byte % 16))
    ∙ ap (λ m. multiple h (m * 2 ^ s)) parts
