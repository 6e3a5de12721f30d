use Rattle.std.proofs.Common.{◌/◌, ◌%◌, refl, bit_xor}
use Rattle.std.proofs.lemmas.Simd.{zip2_of_maps}
use Rattle.aes_block.specs.HalfBytes.{found}
use Rattle.aes_block.specs.declared.substitution.TheConstants.{BASIS_LOW, BASIS_HIGH}
use Rattle.aes_block.proofs.Bytes.{indices_of, mapped}
use Rattle.aes_block.proofs.substitution.over_basis.Goals as goal

pub look_up-requires : goal.look_up-requires
look_up-requires c = indices_of (λ x. x % 16) c.args.v _ c.low_half.ensures refl c.fits-v.1

pub look_up-requires-2 : goal.look_up-requires-2
look_up-requires-2 c = indices_of (λ x. x / 16) c.args.v _ c.high_half.ensures refl c.fits-v.1

pub returns : goal.returns
returns c =
    let lows = mapped (found BASIS_LOW) (λ x. x % 16) c.args.v _ _ c.look_up.ensures c.low_half.ensures in
    let highs = mapped (found BASIS_HIGH) (λ x. x / 16) c.args.v _ _ c.look_up-2.ensures c.high_half.ensures in
    zip2_of_maps bit_xor (λ x. found BASIS_LOW (x % 16)) (λ x. found BASIS_HIGH (x / 16)) c.args.v lows highs
