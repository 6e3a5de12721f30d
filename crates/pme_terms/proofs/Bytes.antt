-- Bytes of a number, highest first.
use Rattle.std.proofs.Common.{◌≡◌, ℕ, zero, suc, ◌+◌, ◌-◌, ◌*◌, ◌/◌, ◌%◌, ◌^◌, ◌<◌, length, get_or, refl, sym, ap, ◌∙◌, arith, add-one}
use Rattle.std.specs.Int.{byte_at, bytes_high_first}
use Rattle.std.proofs.lemmas.Nat.{pow-add}

pub length-bytes_high_first : (k n : ℕ) → length (bytes_high_first k n) ≡ k
length-bytes_high_first zero n = refl
length-bytes_high_first (suc k) n = ap suc (length-bytes_high_first k n)

pub get_or-bytes_high_first : (k n i : ℕ) → i < k → get_or (bytes_high_first k n) i 0 ≡ byte_at (k - 1 - i) n
get_or-bytes_high_first zero n i h = absurd (omega arith)
get_or-bytes_high_first (suc k) n zero h = let e : suc k - 1 - 0 ≡ k = omega arith in ap (λ j. byte_at j n) (sym e)
get_or-bytes_high_first (suc k) n (suc i) h =
    let e : k - 1 - i ≡ suc k - 1 - suc i = omega arith in
    get_or-bytes_high_first k n i (omega arith) ∙ ap (λ j. byte_at j n) e

pow_of_256 : (j : ℕ) → 256 ^ j ≡ 2 ^ (8 * j)
pow_of_256 zero = refl
pow_of_256 (suc j) =
    let e : 8 * suc j ≡ 8 * j + 8 = omega arith in
    let f : 256 ^ (j + 1) ≡ 256 ^ j * 256 = pow-add 256 j 1 in
    ap (λ m. 256 ^ m) (sym (add-one j)) ∙ f ∙ ap (λ p. p * 256) (pow_of_256 j) ∙ sym (ap (λ m. 2 ^ m) e ∙ pow-add 2 (8 * j) 8)

pub byte_at-shr : (j n : ℕ) → byte_at j n ≡ n / 2 ^ (8 * j) % 256
byte_at-shr zero n = let e : n / 2 ^ 0 ≡ n = omega arith in ap (λ m. m % 256) (sym e)
byte_at-shr (suc j) n = ap (λ p. n / p % 256) (pow_of_256 (suc j))
