-- Numbers made of bits.
use Rattle.std.proofs.Common.{◌≡◌, ℕ, zero, suc, ◌+◌, ◌-◌, ◌*◌, ◌%◌, ◌^◌, ◌<◌, ◌≤◌, inl, inr, refl, ap, ◌∙◌, arith}
use Rattle.std.proofs.lemmas.Bool.{cases_lt}
use Rattle.std.specs.Int.{bit_at}
use Rattle.std.proofs.lemmas.Nat.{pow_pos}
use Rattle.std.proofs.lemmas.Nat.Bits.{bit_at_cat_low, bit_at_cat_high, bit_at_lowest}
use Rattle.pme_terms.specs.Polynomials.{number_below}
use Rattle.pme_terms.proofs.Xors.{pow-suc, bit_times}

pub number-none : (f : ℕ → ℕ) → number_below f 0 ≡ 0
unfolding number_below
number-none f = refl

pub number-more : (f : ℕ → ℕ) (n : ℕ) → number_below f (suc n) ≡ f n * 2 ^ n + number_below f n
unfolding number_below
number-more f n = let e : number_below f n + f n * 2 ^ n ≡ f n * 2 ^ n + number_below f n = omega arith in e

pub number_lt : (f : ℕ → ℕ) (n : ℕ) → ((i : ℕ) → f i < 2) → number_below f n < 2 ^ n
number_lt f zero bits = rw (number-none f) (pow_pos 0)
number_lt f (suc n) bits =
    let before : number_below f n < 2 ^ n = number_lt f n bits in
    let term : f n * 2 ^ n ≤ 2 ^ n = bit_times (λ p. p * 2 ^ n ≤ 2 ^ n) (f n) (bits n) (omega arith) (omega arith) in
    rw (number-more f n, pow-suc n) (omega arith)

last_or_before : (f : ℕ → ℕ) (n i : ℕ) → f n < 2 → number_below f n < 2 ^ n → i < suc n → (i < n → bit_at (number_below f n) i ≡ f i)
    → bit_at (f n * 2 ^ n + number_below f n) i ≡ f i
last_or_before f n i bit small h before = elim (cases_lt i n) [
  | inl low ↦ bit_at_cat_low (f n) n (number_below f n) i low ∙ before low
  | inr high ↦
      let top : n ≡ i = omega arith in
      let none : i - n ≡ 0 = omega arith in
      let same : f n % 2 ≡ f n = omega arith in
      bit_at_cat_high (f n) n (number_below f n) i small (omega arith) ∙ ap (bit_at (f n)) none ∙ bit_at_lowest (f n) ∙ same ∙ ap f top
]

-- the number's bits are those that it was made of
pub bit_at-number_below : (f : ℕ → ℕ) (n i : ℕ) → ((k : ℕ) → f k < 2) → i < n → bit_at (number_below f n) i ≡ f i
bit_at-number_below f zero i bits h = absurd (omega arith)
bit_at-number_below f (suc n) i bits h =
    ap (λ m. bit_at m i) (number-more f n)
    ∙ last_or_before f n i (bits n) (number_lt f n bits) h (λ low. bit_at-number_below f n i bits low)
