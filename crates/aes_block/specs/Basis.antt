-- The basis in which the S-box is computed by look-ups of half bytes, and the values of these look-ups.
use Rattle.std.specs.Prelude.{◌≡◌, ℕ, ◌/◌, ◌%◌, ◌<◌, bit_xor, List, map}
use Rattle.std.specs.Simd.Lanes.{Each1}
use Rattle.aes_block.specs.HalfBytes.{found}
use Rattle.aes_block.specs.declared.substitution.TheConstants.{BASIS_LOW, BASIS_HIGH, INVERSE, INVERSE_SCALED, AFFINE_LOW, AFFINE_HIGH, ONCE_LOW, ONCE_HIGH, TWICE_LOW, TWICE_HIGH}

-- a byte in the other basis
abbrev pub basis : ℕ → ℕ
basis x = bit_xor (found BASIS_LOW (x % 16)) (found BASIS_HIGH (x / 16))

-- the inverse of the low half, multiplied by a constant
abbrev pub scaled : ℕ → ℕ
scaled p = found INVERSE_SCALED (p % 16)

-- the two indices by which the inverse of a byte over the other basis is looked up: half bytes, or at least 128 for infinity
abbrev pub high_index : ℕ → ℕ
high_index p = bit_xor (found INVERSE (bit_xor (found INVERSE (p / 16)) (scaled p))) (bit_xor (p / 16) (p % 16))

abbrev pub low_index : ℕ → ℕ
low_index p = bit_xor (found INVERSE (bit_xor (found INVERSE (bit_xor (p / 16) (p % 16))) (scaled p))) (p / 16)

-- the affine map of the inverse without its constant: over the standard basis, and over the other basis multiplied by 1 and
-- by 2
abbrev pub affine : ℕ → ℕ
affine p = bit_xor (found AFFINE_HIGH (high_index p)) (found AFFINE_LOW (low_index p))

abbrev pub affine_once : ℕ → ℕ
affine_once p = bit_xor (found ONCE_HIGH (high_index p)) (found ONCE_LOW (low_index p))

abbrev pub affine_twice : ℕ → ℕ
affine_twice p = bit_xor (found TWICE_HIGH (high_index p)) (found TWICE_LOW (low_index p))

-- a byte of a round key, XORed with the constant of the affine map, over the other basis
abbrev pub inner_key : ℕ → ℕ
inner_key k = basis (bit_xor k 0x63)

abbrev pub IsByte : ℕ → Type 0
IsByte x = x < 256

-- v is the state s over the other basis
abbrev pub IsState : List ℕ → List ℕ → Type 0
IsState v s = (v ≡ map basis s) × Each1 IsByte s

-- v is the round key k in the form that rounds over the other basis use
abbrev pub IsKey : List ℕ → List ℕ → Type 0
IsKey v k = (v ≡ map inner_key k) × Each1 IsByte k
