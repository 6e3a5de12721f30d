use Rattle.std.proofs.Common.{◌≡◌, length, ◌∙◌, arith, bit_xor}
use Rattle.std.proofs.lemmas.Simd.{zip2_of_maps, splat_is_map}
use Rattle.aes_block.specs.Basis.{basis, affine}
use Rattle.aes_block.specs.Field.{sbox}
use Rattle.aes_block.proofs.Bytes.{mapped, maps_agree}
use Rattle.aes_block.proofs.Sboxes.{substituted, is_sbox}
use Rattle.aes_block.proofs.substitution.sub_bytes.Goals as goal

pub returns : goal.returns
returns c =
    let is = mapped affine basis c.args.v _ _ c.sub_bytes_over_basis.ensures c.over_basis.ensures in
    let long : length c.args.v ≡ 64 = omega arith in
    zip2_of_maps bit_xor (λ x. affine (basis x)) (λ _. 0x63) c.args.v is (splat_is_map c.args.v 64 0x63 long)
    ∙ maps_agree substituted sbox c.args.v is_sbox c.fits-v.1
