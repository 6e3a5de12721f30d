use Rattle.std.proofs.Common.{bit_xor}
use Rattle.std.proofs.lemmas.Simd.{zip2_of_maps}
use Rattle.aes_block.specs.Basis.{high_index, low_index}
use Rattle.aes_block.specs.HalfBytes.{found}
use Rattle.aes_block.specs.declared.substitution.TheConstants.{AFFINE_LOW, AFFINE_HIGH}
use Rattle.aes_block.proofs.Bytes.{mapped}
use Rattle.aes_block.proofs.substitution.sub_bytes_over_basis.Goals as goal

pub returns : goal.returns
returns c =
    let highs = mapped (found AFFINE_HIGH) high_index c.args.pairs _ _ c.look_up.ensures c.inverse.ensures.high in
    let lows = mapped (found AFFINE_LOW) low_index c.args.pairs _ _ c.look_up-2.ensures c.inverse.ensures.low in
    zip2_of_maps bit_xor (λ x. found AFFINE_HIGH (high_index x)) (λ x. found AFFINE_LOW (low_index x)) c.args.pairs highs lows
