-- The checker computes the cipher on the example vectors.
use Rattle.std.proofs.Common.{refl}
use Rattle.aes_block.specs.Aes.{aes, cipher, state_after, schedule, schedule_after, power_of_x}
use Rattle.aes_block.specs.Field.{field_mul, folded, sbox, inverse, inverse_below, affine_bit}
use Rattle.pme_terms.specs.Polynomials.{product_below, number_below}
use Rattle.aes_block.proofs.standard_vectors.Goals as goal

pub returns-clause-aes_128 : goal.returns-clause-aes_128
unfolding aes cipher state_after schedule schedule_after power_of_x field_mul folded sbox inverse inverse_below affine_bit product_below number_below
returns-clause-aes_128 c = refl

pub returns-clause-aes_192 : goal.returns-clause-aes_192
unfolding aes cipher state_after schedule schedule_after power_of_x field_mul folded sbox inverse inverse_below affine_bit product_below number_below
returns-clause-aes_192 c = refl

pub returns-clause-aes_256 : goal.returns-clause-aes_256
unfolding aes cipher state_after schedule schedule_after power_of_x field_mul folded sbox inverse inverse_below affine_bit product_below number_below
returns-clause-aes_256 c = refl
