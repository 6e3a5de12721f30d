-- The field of AES (FIPS 197, section 4). Its elements are bytes: polynomials over bits of degree below 8, modulo
-- x^8 + x^4 + x^3 + x + 1. Addition is `bit_xor`.
use Rattle.std.specs.Prelude.{ℕ, zero, suc, ◌+◌, ◌/◌, ◌%◌, bit_xor, ◌==◌, if◌then◌else◌}
use Rattle.std.specs.Int.{bit_at}
use Rattle.pme_terms.specs.Polynomials.{product_below, number_below}

-- one reduction step for a polynomial of degree below 16: x^8 is replaced by x^4 + x^3 + x + 1
unfoldable pub folded : ℕ → ℕ
folded p = bit_xor (p % 256) (product_below (p / 256) 0x1b 8)

-- the product of two bytes (4.2): the first reduction step gives a degree below 12, the second one a degree below 8
unfoldable pub field_mul : ℕ → ℕ → ℕ
field_mul a b = folded (folded (product_below a b 8))

-- a byte below n whose product with a is 1, or 0 if there is none
unfoldable pub inverse_below : ℕ → ℕ → ℕ
inverse_below a zero = 0
inverse_below a (suc n) = let rest = inverse_below a n in if field_mul a n == 1 then n else rest

-- the multiplicative inverse (4.4), and 0 for 0
unfoldable pub inverse : ℕ → ℕ
inverse a = inverse_below a 256

-- bit i of the affine map of the S-box, whose constant is 0x63 (5.1.1)
unfoldable pub affine_bit : ℕ → ℕ → ℕ
affine_bit b i =
    (bit_at b i + bit_at b ((i + 4) % 8) + bit_at b ((i + 5) % 8) + bit_at b ((i + 6) % 8) + bit_at b ((i + 7) % 8) + bit_at 0x63 i) % 2

-- the S-box (5.1.1): the inverse, then the affine map
unfoldable pub sbox : ℕ → ℕ
sbox a = let b = inverse a in number_below (affine_bit b) 8
