-- Sums of polynomials over bits, which are exclusive ors: their order, their shifts, and multiples of them by a bit.
use Rattle.std.proofs.Common.{◌≡◌, ℕ, zero, suc, ◌+◌, ◌*◌, ◌%◌, ◌^◌, ◌<◌, bit_xor, refl, sym, ap, ◌∙◌, arith, add-zero, add-one}
use Rattle.std.specs.Int.{bit_at}
use Rattle.std.specs.Int.Bits.{xor_assoc, xor_self, xor_zero_r}
use Rattle.std.proofs.lemmas.Nat.{xor_comm, xor_block, pow_pos, pow-add}
use Rattle.std.proofs.lemmas.Nat.Bits.{bit_at_xor, bit_at-lt}

pub pow-suc : (n : ℕ) → 2 ^ suc n ≡ 2 ^ n * 2
pow-suc n = ap (λ m. 2 ^ m) (sym (add-one n)) ∙ pow-add 2 n 1

pub xor_left_comm : (a b c : ℕ) → bit_xor a (bit_xor b c) ≡ bit_xor b (bit_xor a c)
xor_left_comm a b c = sym (xor_assoc a b c) ∙ ap (λ s. bit_xor s c) (xor_comm a b) ∙ xor_assoc b a c

pub xor_swap : (a b c d : ℕ) → bit_xor (bit_xor a b) (bit_xor c d) ≡ bit_xor (bit_xor a c) (bit_xor b d)
xor_swap a b c d =
    xor_assoc a b (bit_xor c d) ∙ ap (λ s. bit_xor a s) (xor_left_comm b c d) ∙ sym (xor_assoc a c (bit_xor b d))

-- what is added twice is gone
pub xor_twice : (a b : ℕ) → bit_xor (bit_xor a b) b ≡ a
xor_twice a b = xor_assoc a b b ∙ ap (λ s. bit_xor a s) (xor_self b) ∙ xor_zero_r a

pub xor_shl : (a b k : ℕ) → bit_xor a b * 2 ^ k ≡ bit_xor (a * 2 ^ k) (b * 2 ^ k)
xor_shl a b k =
    let e : bit_xor (a * 2 ^ k + 0) (b * 2 ^ k + 0) ≡ bit_xor a b * 2 ^ k + 0 = xor_block k a b 0 0 (pow_pos k) (pow_pos k) in
    sym (rw (add-zero, add-zero, add-zero) at e)

-- a bit is 0 or 1
pub bit_times : (P : ℕ → Type 0) (p : ℕ) → p < 2 → P 0 → P 1 → P p
bit_times P zero h none one = none
bit_times P (suc zero) h none one = one
bit_times P (suc (suc p)) h none one = absurd (omega arith)

pub bit_sum_times : (p q c : ℕ) → p < 2 → q < 2 → (p + q) % 2 * c ≡ bit_xor (p * c) (q * c)
bit_sum_times p q c hp hq =
    bit_times (λ p. (p + q) % 2 * c ≡ bit_xor (p * c) (q * c)) p hp
    (bit_times (λ q. (0 + q) % 2 * c ≡ bit_xor (0 * c) (q * c)) q hq (none c) (right c))
    (bit_times (λ q. (1 + q) % 2 * c ≡ bit_xor (1 * c) (q * c)) q hq (left c) (both c))
  where
    none : (c : ℕ) → 0 * c ≡ bit_xor (0 * c) (0 * c)
    none c = sym (xor_self (0 * c) ∙ omega arith)

    right : (c : ℕ) → 1 * c ≡ bit_xor (0 * c) (1 * c)
    right c = let e : 0 * c ≡ 0 = omega arith in rw e refl

    left : (c : ℕ) → 1 * c ≡ bit_xor (1 * c) (0 * c)
    left c = let e : 0 * c ≡ 0 = omega arith in rw e (sym (xor_zero_r (1 * c)))

    both : (c : ℕ) → 0 * c ≡ bit_xor (1 * c) (1 * c)
    both c = sym (xor_self (1 * c) ∙ omega arith)

pub bit_at-xor_times : (a b c n : ℕ) → bit_at (bit_xor a b) n * c ≡ bit_xor (bit_at a n * c) (bit_at b n * c)
bit_at-xor_times a b c n =
    ap (λ p. p * c) (bit_at_xor a b n) ∙ bit_sum_times (bit_at a n) (bit_at b n) c (bit_at-lt a n) (bit_at-lt b n)

-- a bit times a sum
pub times_xor : (p a b : ℕ) → p < 2 → p * bit_xor a b ≡ bit_xor (p * a) (p * b)
times_xor p a b h =
    bit_times (λ p. p * bit_xor a b ≡ bit_xor (p * a) (p * b)) p h
    (let e : 0 * a ≡ 0 = omega arith in let f : 0 * b ≡ 0 = omega arith in let g : 0 * bit_xor a b ≡ 0 = omega arith in rw (e, f, g) refl)
    (let e : 1 * a ≡ a = omega arith in let f : 1 * b ≡ b = omega arith in let g : 1 * bit_xor a b ≡ bit_xor a b = omega arith in rw (e, f, g) refl)
