use Rattle.std.proofs.Common.{◌≡◌, ◌+◌, ◌*◌, map, length, get_or, sym, ap, subst, ◌∙◌, arith, add-one, bit_xor, w8, Fits}
use Rattle.std.proofs.lemmas.List.{length-map}
use Rattle.std.proofs.lemmas.Simd.{Each1-chunk, length-chunk, zip2_splat}
use Rattle.std.specs.Simd.Lanes.{zip2}
use Rattle.aes_block.specs.Aes.{round, final_round, round_key, state_after, cipher}
use Rattle.aes_block.specs.Basis.{basis, affine, inner_key, IsState}
use Rattle.aes_block.specs.FourBlocks.{lane_block}
use Rattle.aes_block.specs.declared.rounds.TheConstants.{ROWS}
use Rattle.aes_block.proofs.Blocks.{length-lane_block}
use Rattle.aes_block.proofs.Columns.{last_is}
use Rattle.aes_block.proofs.Steps.{lane_block-zip2, lane_block-map, bytes_of, part_of_bytes, sums_are_bytes}
use Rattle.aes_block.proofs.rounds.encrypt.Goals as goal

pub loop-r-init : goal.loop-r-init
unfolding state_after
loop-r-init c b lt =
    let block = lane_block c.args.blocks b in
    let key = round_key c.args.round_keys.now 0 in
    let is = ap (λ l. lane_block l b) c.over_basis-state.ensures
    ∙ lane_block-map basis _ b
    ∙ ap (map basis) (lane_block-zip2 bit_xor c.args.blocks c.key_of_round.result b ∙ ap (zip2 bit_xor block) (c.key_of_round.ensures b lt)) in
    let block_bytes = bytes_of block (Each1-chunk (Fits w8) (16 * b) 16 c.args.blocks c.fits-blocks.1) in
    let key_bytes = part_of_bytes (16 * 0) 16 c.args.round_keys.now c.fits-round_keys in
    (is, sums_are_bytes block key block_bytes key_bytes)

pub loop-r-preserved : goal.loop-r-preserved
unfolding state_after
loop-r-preserved c b lt =
    let w = c.args.round_keys.now in
    let r = c.loop-r.r in
    let s = state_after w (lane_block c.args.blocks b) r in
    let key = round_key w (r + 1) in
    let key_is = c.key_of_round-in-loop-r.ensures b lt ∙ ap (λ w. round_key w (r + 1)) c.requires.inner ∙ lane_block-map inner_key w (r + 1) in
    let key_bytes = part_of_bytes (16 * (r + 1)) 16 w c.fits-round_keys in
    let next = c.round-state.ensures b s key lt (c.loop-r.invariant b lt) (key_is, key_bytes) in
    let same : round s key ≡ state_after w (lane_block c.args.blocks b) (r + 1) =
    ap (λ n. round s (round_key w n)) (add-one r) ∙ ap (state_after w (lane_block c.args.blocks b)) (sym (add-one r)) in
    subst (IsState (lane_block c.round-state.result b)) same next

pub returns : goal.returns
unfolding cipher
returns c b lt =
    let w = c.args.round_keys.now in
    let n = c.args.n in
    let s = state_after w (lane_block c.args.blocks b) c.loop-r.r in
    let ended : c.loop-r.r ≡ n = omega arith in
    let state = c.loop-r.invariant b lt in
    let long : length s ≡ 16 = sym (length-map s basis) ∙ ap length (sym state.0) ∙ length-lane_block c.loop-r.state b (omega arith) lt in
    let wide : length (round_key w (n + 1)) ≡ 16 = length-chunk (16 * (n + 1)) 16 w (omega arith) in
    let substituted = ap (λ l. lane_block l b) c.sub_bytes_over_basis.ensures ∙ lane_block-map affine c.loop-r.state b ∙ ap (map affine) state.0 in
    let shifted = c.permute_bytes.ensures b lt ∙ ap (λ l. map (λ k. get_or l k 0) ROWS) substituted in
    let vector : length c.key_of_round-2.result ≡ 64 = omega arith in
    let key = ap (λ l. lane_block l b) (zip2_splat bit_xor c.key_of_round-2.result 64 0x63 vector)
    ∙ lane_block-map (λ x. bit_xor x 0x63) c.key_of_round-2.result b
    ∙ ap (map (λ x. bit_xor x 0x63)) (c.key_of_round-2.ensures b lt) in
    lane_block-zip2 bit_xor c.permute_bytes.result _ b
    ∙ (λ i. zip2 bit_xor (shifted i) (key i))
    ∙ last_is s (round_key w (n + 1)) long wide state.1
    ∙ (λ i. final_round (state_after w (lane_block c.args.blocks b) (ended i)) (round_key w (add-one n i)))
