use Rattle.aes_block.proofs.Blocks.{look_up_ok, looked_up}
use Rattle.std.proofs.Common.{◌≡◌, length, ◌∙◌, ap, arith, w8}
use Rattle.std.proofs.lemmas.Simd.{swz_l}
use Rattle.aes_block.proofs.lanes.look_up.Goals as goal

pub swizzle : goal.swizzle
swizzle c = look_up_ok c.args.indices (omega arith) c.requires

pub returns : goal.returns
returns c =
    let wide : length c.args.table ≡ 16 = omega arith in
    ap (λ t. swz_l w8 16 t 0 c.args.indices) c.spread.ensures ∙ looked_up c.args.table c.args.indices wide (omega arith) c.requires
