use borrow.Rule.Slice.PartMut.{put_mid}
use Rattle.std.proofs.Common.{◌≡◌, ℕ, ◌+◌, ◌-◌, ◌*◌, ◌≤◌, List, map, length, take, drop, refl, sym, ap, ◌∙◌, ◌++◌, arith, bit_xor}
use Rattle.std.proofs.lemmas.List.{length-map, map-append, length-append, length-take-le, length-drop}
use Rattle.std.proofs.lemmas.Simd.{map-map, length-chunk, pick_l_left, pick_l-range_with_len, zip2_splat}
use Rattle.std.proofs.lemmas.Slice.{take-put_mid}
use Rattle.std.proofs.Math.Seq.{take-add, take-length}
use Rattle.std.specs.List.{range_with_len}
use Rattle.aes_block.specs.Aes.{round_key}
use Rattle.aes_block.specs.Basis.{basis, inner_key}
use Rattle.aes_block.specs.FourBlocks.{lane_block}
use Rattle.aes_block.proofs.Steps.{lane_block-map}
use Rattle.aes_block.proofs.rounds.inner_keys.Goals as goal

length-put_mid : (a k : ℕ) (xs ys : List ℕ) → length xs ≡ 240 → length ys ≡ k → a + k ≤ 240 → length (put_mid a k xs ys) ≡ 240
length-put_mid a k xs ys long wide room =
    let rest = drop k (drop a xs) in
    omega (arith, length-append (take a xs) (ys ++ rest), length-append ys rest, length-take-le a xs (omega arith), length-drop k (drop a xs), length-drop a xs)

pub loop-r-init : goal.loop-r-init
loop-r-init c = (omega arith, refl)

pub loop-r-preserved : goal.loop-r-preserved
loop-r-preserved c =
    let w = c.args.round_keys.now in
    let r = c.loop-r.r in
    let keys = c.loop-r.keys in
    let plain = c.key_of_round.result in
    let v = c.over_basis-key.result in
    let new = c.copy_from_slice.new.self in
    let long : length plain ≡ 64 = omega arith in
    let wide : length v ≡ 64 = omega arith in
    let is = ap (λ l. lane_block l 0) (c.over_basis-key.ensures ∙ ap (map basis) (zip2_splat bit_xor plain 64 0x63 long) ∙ map-map basis (λ x. bit_xor x 0x63) plain)
    ∙ lane_block-map inner_key plain 0
    ∙ ap (map inner_key) (c.key_of_round.ensures 0 (omega arith)) in
    let written : new ≡ map inner_key (round_key w r) =
    c.copy_from_slice.ensures.after ∙ pick_l_left 0 v v 64 (range_with_len 0 16) wide tt ∙ pick_l-range_with_len 0 v 0 16 (omega arith) ∙ is in
    let four : length new ≡ 16 = ap length written ∙ length-map (round_key w r) inner_key ∙ length-chunk (16 * r) 16 w (omega arith) in
    let next : 16 * (r + 1) ≡ 16 * r + 16 = omega arith in
    let done = take-put_mid (16 * r) (16 * r + 16 - 16 * r) keys new (16 * (r + 1)) (omega arith) (omega arith)
    ∙ (λ i. c.loop-r.invariant.1 i ++ written i)
    ∙ sym (map-append inner_key (take (16 * r) w) (round_key w r))
    ∙ ap (map inner_key) (sym (take-add (16 * r) 16 w) ∙ ap (λ n. take n w) (sym next)) in
    (length-put_mid (16 * r) (16 * r + 16 - 16 * r) keys new c.loop-r.invariant.0 (omega arith) (omega arith), done)

pub returns : goal.returns
returns c =
    let w = c.args.round_keys.now in
    let keys = c.loop-r.keys in
    let long = c.loop-r.invariant.0 in
    let all : 16 * c.loop-r.r ≡ length keys = omega arith in
    let same : 16 * c.loop-r.r ≡ length w = omega arith in
    sym (take-length keys) ∙ ap (λ n. take n keys) (sym all) ∙ c.loop-r.invariant.1 ∙ ap (λ n. map inner_key (take n w)) same ∙ ap (map inner_key) (take-length w)
