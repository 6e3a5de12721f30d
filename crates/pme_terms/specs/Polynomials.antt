-- Polynomials over bits as numbers: bit i is the coefficient of x^i, and the sum of two is their exclusive or.
-- A field is such polynomials with a modulus; AES has x^8 + x^4 + x^3 + x + 1 (FIPS 197, 4.2), GCM has
-- x^128 + x^7 + x^2 + x + 1 (SP 800-38D, 6.3).
use Rattle.std.specs.Prelude.{ℕ, zero, suc, ◌+◌, ◌*◌, ◌^◌, bit_xor}
use Rattle.std.specs.Int.{bit_at}

-- the product of two polynomials, over the coefficients of a below x^n
unfoldable pub product_below : ℕ → ℕ → ℕ → ℕ
product_below a b zero = 0
product_below a b (suc n) = bit_xor (product_below a b n) (bit_at a n * (b * 2 ^ n))

-- the number whose bits 0 to n - 1 are f 0 to f (n - 1)
unfoldable pub number_below : (ℕ → ℕ) → ℕ → ℕ
number_below f zero = 0
number_below f (suc n) = number_below f n + f n * 2 ^ n
