-- The field of GHASH (SP 800-38D, section 6.3): polynomials over bits modulo x^128 + x^7 + x^2 + x + 1, and the blocks of 16
-- bytes that represent them.
use Rattle.std.specs.Prelude.{ℕ, ◌-◌, ◌*◌, ◌/◌, ◌%◌, ◌^◌, bit_xor, List}
use Rattle.std.specs.Int.{bit_at, w128, from_be_bytes, to_be_bytes}
use Rattle.pme_terms.specs.Polynomials.{product_below, number_below}

-- the product of h with x^7 + x^2 + x + 1
unfoldable pub times_low : ℕ → ℕ
times_low h = bit_xor (bit_xor (bit_xor h (h * 2)) (h * 4)) (h * 128)

-- one reduction step: each x^128 in p is replaced by x^7 + x^2 + x + 1
unfoldable pub folded : ℕ → ℕ
folded p = bit_xor (p % 2 ^ 128) (times_low (p / 2 ^ 128))

-- the product in the field: the product of the polynomials has degree 254 at most, so that two reduction steps suffice
unfoldable pub field_mul : ℕ → ℕ → ℕ
field_mul a b = folded (folded (product_below a b 128))

-- the 128 bits of n in reverse order
unfoldable pub reversed : ℕ → ℕ
reversed n = number_below (λ i. bit_at n (127 - i)) 128

-- the polynomial that a block represents: its first bit is the coefficient of x^0
abbrev pub polynomial : List ℕ → ℕ
polynomial block = reversed (from_be_bytes w128 block)

-- the block that represents p
abbrev pub block_of : ℕ → List ℕ
block_of p = to_be_bytes w128 (reversed p)

-- the product of two blocks
abbrev pub prod : List ℕ → List ℕ → List ℕ
prod x y = block_of (field_mul (polynomial x) (polynomial y))
