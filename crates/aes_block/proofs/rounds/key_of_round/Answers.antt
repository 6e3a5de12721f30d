use Rattle.std.proofs.Common.{◌≡◌, ◌-◌, ◌*◌, length, drop, ap, ◌∙◌, arith}
use Rattle.std.proofs.lemmas.List.{take-take}
use Rattle.std.proofs.lemmas.Simd.{length-chunk}
use Rattle.aes_block.specs.Aes.{round_key}
use Rattle.aes_block.specs.FourBlocks.{lane_block, four_times}
use Rattle.aes_block.proofs.Blocks.{lane_block-four_times}
use Rattle.aes_block.proofs.rounds.key_of_round.Goals as goal

pub returns : goal.returns
returns c b lt =
    let w = c.args.round_keys.now in
    let at = 16 * c.args.r in
    let sixteen : length (round_key w c.args.r) ≡ 16 = length-chunk at 16 w (omega arith) in
    let part = take-take 16 (240 - at) (drop at w) (omega arith) in
    ap (λ v. lane_block v b) c.spread.ensures ∙ ap (λ k. lane_block (four_times k) b) part ∙ lane_block-four_times (round_key w c.args.r) b sixteen lt
