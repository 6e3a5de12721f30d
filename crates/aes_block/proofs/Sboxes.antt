-- The S-box by look-ups of half bytes equals the standard S-box, checked for every byte.
use Rattle.std.proofs.Common.{◌≡◌, ℕ, true, refl, bit_xor, eqb}
use Rattle.aes_block.specs.Basis.{basis, affine}
use Rattle.aes_block.specs.Field.{field_mul, folded, sbox, inverse, inverse_below, affine_bit}
use Rattle.pme_terms.specs.Polynomials.{product_below, number_below}
use Rattle.aes_block.proofs.Bytes.{of_all_bytes}

abbrev pub substituted : ℕ → ℕ
substituted x = bit_xor (affine (basis x)) 0x63

pub is_sbox : of_all_bytes (λ x. eqb (substituted x) (sbox x)) ≡ true
unfolding sbox field_mul folded inverse inverse_below affine_bit product_below number_below
is_sbox = refl
