use Rattle.std.proofs.Common.{◌≡◌, length, ap, ◌∙◌, arith}
use Rattle.std.proofs.lemmas.Simd.{pick_l_left, pick_l-range_with_len}
use Rattle.std.specs.List.{range_with_len}
use Rattle.aes_block.specs.Aes.{aes}
use Rattle.aes_block.specs.FourBlocks.{lane_block}
use Rattle.aes_block.proofs.Blocks.{lane_block-four_times}
use Rattle.aes_block.proofs.key.AesKey.encrypt_block.Goals as goal

pub returns : goal.returns
returns c =
    let v = c.encrypt_four-blocks.result in
    let long : length v ≡ 64 = omega arith in
    let sixteen : length c.args.block ≡ 16 = omega arith in
    pick_l_left 0 v v 64 (range_with_len 0 16) long tt
    ∙ pick_l-range_with_len 0 v 0 16 (omega arith)
    ∙ c.encrypt_four-blocks.ensures 0 (omega arith)
    ∙ ap (λ blocks. aes c.args.self.now (lane_block blocks 0)) c.spread.ensures
    ∙ ap (aes c.args.self.now) (lane_block-four_times c.args.block 0 sixteen (omega arith))
