use Rattle.std.proofs.Common.{map, arith, ◌∙◌, bit_and}
use Rattle.std.proofs.lemmas.Nat.{and_mask}
use Rattle.std.proofs.lemmas.Simd.{zip2_splat}
use Rattle.aes_block.proofs.substitution.low_half.Goals as goal

pub returns : goal.returns
returns c = zip2_splat bit_and c.args.v 64 15 (omega arith) ∙ (λ i. map (λ x. and_mask x 4 i) c.args.v)
