use Rattle.aes_block.proofs.Blocks.{reordered_ok, reordered_is}
use Rattle.std.proofs.Common.{◌≡◌, length, ◌∙◌, ap, arith, w8}
use Rattle.std.proofs.lemmas.Simd.{swz_l}
use Rattle.aes_block.specs.FourBlocks.{lane_block}
use Rattle.aes_block.proofs.lanes.permute_bytes.Goals as goal

pub swizzle : goal.swizzle
swizzle c = rw c.spread.ensures (let wide : length c.args.order ≡ 16 = omega arith in reordered_ok c.args.order wide c.requires)

pub returns : goal.returns
returns c b lt =
    let wide : length c.args.order ≡ 16 = omega arith in
    ap (λ t. lane_block (swz_l w8 16 c.args.blocks 0 t) b) c.spread.ensures ∙ reordered_is c.args.blocks c.args.order b (omega arith) wide c.requires lt
