use Rattle.std.proofs.Common.{◌≡◌, map, length, get_or, sym, ap, subst, ◌∙◌, arith, bit_xor}
use Rattle.std.proofs.lemmas.List.{length-map}
use Rattle.std.specs.Simd.Lanes.{zip2}
use Rattle.aes_block.specs.Aes.{round}
use Rattle.aes_block.specs.Basis.{basis, affine_once, affine_twice, inner_key, IsState}
use Rattle.aes_block.specs.FourBlocks.{lane_block}
use Rattle.aes_block.specs.declared.rounds.TheConstants.{ROWS, ROWS_TURNED, ROWS_TURNED_TWICE, ROWS_TURNED_THRICE}
use Rattle.aes_block.proofs.Blocks.{length-lane_block}
use Rattle.aes_block.proofs.Columns.{round_over, round_over_is}
use Rattle.aes_block.proofs.Steps.{lane_block-zip2, lane_block-map}
use Rattle.aes_block.proofs.rounds.round.Goals as goal

pub returns : goal.returns
returns c b s k lt hs hk =
    let v = lane_block c.args.state b in
    let key = lane_block c.args.key b in
    let both = c.sub_bytes_and_double.ensures in
    let once = ap (λ l. lane_block l b) both.once ∙ lane_block-map affine_once c.args.state b in
    let twice = ap (λ l. lane_block l b) both.twice ∙ lane_block-map affine_twice c.args.state b in
    let sums = lane_block-zip2 bit_xor _ _ b ∙ (λ i. zip2 bit_xor (once i) (twice i)) in
    let first = c.permute_bytes.ensures b lt ∙ ap (λ l. map (λ k. get_or l k 0) ROWS) twice in
    let second = c.permute_bytes-2.ensures b lt ∙ ap (λ l. map (λ k. get_or l k 0) ROWS_TURNED) sums in
    let third = c.permute_bytes-3.ensures b lt ∙ ap (λ l. map (λ k. get_or l k 0) ROWS_TURNED_TWICE) once in
    let fourth = c.permute_bytes-4.ensures b lt ∙ ap (λ l. map (λ k. get_or l k 0) ROWS_TURNED_THRICE) once in
    let is = lane_block-zip2 bit_xor _ c.args.key b
    ∙ ap (λ l. zip2 bit_xor l key) (lane_block-zip2 bit_xor _ _ b ∙ (λ i. zip2 bit_xor (lane_block-zip2 bit_xor c.permute_bytes.result c.permute_bytes-2.result b i) (lane_block-zip2 bit_xor c.permute_bytes-3.result c.permute_bytes-4.result b i)))
    ∙ (λ i. zip2 bit_xor (zip2 bit_xor (zip2 bit_xor (first i) (second i)) (zip2 bit_xor (third i) (fourth i))) key)
    ∙ (λ i. round_over (hs.0 i) (hk.0 i)) in
    let ls : length s ≡ 16 = sym (length-map s basis) ∙ ap length (sym hs.0) ∙ length-lane_block c.args.state b (omega arith) lt in
    let lk : length k ≡ 16 = sym (length-map k inner_key) ∙ ap length (sym hk.0) ∙ length-lane_block c.args.key b (omega arith) lt in
    subst (λ l. IsState l (round s k)) (sym is) (round_over_is s k ls lk hs.1 hk.1)
