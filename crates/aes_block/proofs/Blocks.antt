-- Lemmas about the four blocks of a vector.
use Rattle.std.proofs.Common.{◌≡◌, ℕ, zero, suc, ◌+◌, ◌-◌, ◌*◌, ◌/◌, ◌%◌, ◌<◌, Bool, true, false, cond, T, ◌&&◌, ◌||◌, leb, ltb, List, [], ◌∷◌, ◌++◌, map, length, get_or, refl, sym, ap, ◌∙◌, arith, w8, ltb-true}
use Rattle.std.proofs.lemmas.List.{ext_get_or, get_or-map, length-map, get_or_append_left, get_or-append_right, length-append}
use Rattle.std.proofs.lemmas.Simd.{Each1-get_or, Each1-from_get_or, SwzOk-from_Each1, SwzOk-from_below, SwzOk, swz_l, length-swz_l, get_or-swz_l, get_or-swz_l_below, pick_l_left, pick_l_whole, get_or-chunk, length-chunk}
use Rattle.std.specs.List.{range_with_len}
use Rattle.std.specs.Simd.Lanes.{Each1, pick_l, all_below}
use Rattle.aes_block.specs.FourBlocks.{lane_block, four_times}
use Rattle.aes_block.specs.HalfBytes.{IsIndex, found}

-- ---- four copies of a block

pub length-four_times : (t : List ℕ) → length t ≡ 16 → length (four_times t) ≡ 64
length-four_times t long = omega (arith, length-append t (t ++ (t ++ t)), length-append t (t ++ t), length-append t t)

at_front : (t xs : List ℕ) (j : ℕ) → length t ≡ 16 → j < 16 → get_or (t ++ xs) (16 * 0 + j) 0 ≡ get_or t j 0
at_front t xs j long lt = ap (λ k. get_or (t ++ xs) k 0) (let e : 16 * 0 + j ≡ j = omega arith in e) ∙ get_or_append_left t xs 0 j (omega arith)

past_front : (t xs : List ℕ) (q j : ℕ) → length t ≡ 16 → get_or (t ++ xs) (16 * suc q + j) 0 ≡ get_or xs (16 * q + j) 0
past_front t xs q j long =
    get_or-append_right t xs 16 (16 * suc q + j) 0 long (omega arith) ∙ ap (λ k. get_or xs k 0) (let e : 16 * suc q + j - 16 ≡ 16 * q + j = omega arith in e)

pub four_times_at : (t : List ℕ) (q j : ℕ) → length t ≡ 16 → q < 4 → j < 16 → get_or (four_times t) (16 * q + j) 0 ≡ get_or t j 0
four_times_at t zero j long lt small = at_front t _ j long small
four_times_at t (suc zero) j long lt small = past_front t _ 0 j long ∙ at_front t _ j long small
four_times_at t (suc (suc zero)) j long lt small = past_front t _ 1 j long ∙ past_front t _ 0 j long ∙ at_front t _ j long small
four_times_at t (suc (suc (suc zero))) j long lt small =
    past_front t _ 2 j long ∙ past_front t _ 1 j long ∙ past_front t _ 0 j long ∙ ap (λ k. get_or t k 0) (let e : 16 * 0 + j ≡ j = omega arith in e)
four_times_at t (suc (suc (suc (suc q)))) j long lt small = absurd (omega arith)

abbrev pub positions : List ℕ
positions = four_times (range_with_len 0 16)

pub spread_is : (t : List ℕ) → length t ≡ 16 → pick_l 0 (t ++ t) positions ≡ four_times t
spread_is t long = pick_l_left 0 t t 16 positions long tt ∙ ap four_times (pick_l_whole 0 t 16 long)

-- ---- look-ups

index_ok : (j : ℕ) → IsIndex j → T (leb 128 j || (ltb j 16 && true)) × ((leb 128 j ≡ false) → j < 16)
index_ok j h = go (leb 128 j) (ltb j 16) refl refl h
  where
    go : (a b : Bool) → leb 128 j ≡ a → ltb j 16 ≡ b → T (a || b) → T (a || (b && true)) × ((a ≡ false) → j < 16)
    go true b e f h = (tt, λ q. absurd (cc))
    go false true e f h = (tt, λ q. ltb-true _ _ f)
    go false false e f h = absurd h

pub look_up_ok : (js : List ℕ) → length js ≡ 64 → Each1 IsIndex js → SwzOk w8 16 64 0 js
look_up_ok js long indices = SwzOk-from_Each1 w8 16 4 64 0 js refl (omega arith) indices

pub looked_up : (t js : List ℕ) → length t ≡ 16 → length js ≡ 64 → Each1 IsIndex js → swz_l w8 16 (four_times t) 0 js ≡ map (found t) js
looked_up t js wide long indices = ext_get_or 0 _ _ (length-swz_l w8 16 (four_times t) 0 js ∙ sym (length-map js (found t))) (λ m h.
    let lt : m < length js = omega (arith, length-swz_l w8 16 (four_times t) 0 js) in
    get_or-swz_l w8 16 (four_times t) 0 js m lt ∙ one m (get_or js m 0) (omega arith) (Each1-get_or IsIndex js m 0 lt indices) ∙ sym (get_or-map (found t) js m 0 0 lt))
  where
    one : (m j : ℕ) → m < 64 → IsIndex j → cond (leb 128 j) 0 (get_or (four_times t) (16 * ((0 + m) / 16) + j) 0) ≡ found t j
    one m j lt index = go (leb 128 j) refl
      where
        go : (b : Bool) → leb 128 j ≡ b → cond b 0 (get_or (four_times t) (16 * ((0 + m) / 16) + j) 0) ≡ cond b 0 (get_or t j 0)
        go true e = refl
        go false e = four_times_at t ((0 + m) / 16) j wide (omega arith) ((index_ok j index).1 e)

-- ---- blocks

both_hold : (k n : ℕ) (r : Bool) → T (ltb k n && r) → (k < n) × T r
both_hold k n r h = go (ltb k n) refl h
  where
    go : (b : Bool) → ltb k n ≡ b → T (b && r) → (k < n) × T r
    go true e h = (ltb-true _ _ e, h)
    go false e h = absurd h

pub below_at : (n : ℕ) (ks : List ℕ) (i : ℕ) → T (all_below n ks) → i < length ks → get_or ks i 0 < n
below_at n [] i h lt = absurd (omega arith)
below_at n (k ∷ ks) zero h lt = (both_hold k n (all_below n ks) h).0
below_at n (k ∷ ks) (suc i) h lt = below_at n ks i (both_hold k n (all_below n ks) h).1 (omega arith)

pub length-lane_block : (v : List ℕ) (b : ℕ) → length v ≡ 64 → b < 4 → length (lane_block v b) ≡ 16
length-lane_block v b long lt = length-chunk (16 * b) 16 v (omega arith)

pub lane_block_at : (v : List ℕ) (b i : ℕ) → i < 16 → get_or (lane_block v b) i 0 ≡ get_or v (16 * b + i) 0
lane_block_at v b i lt = get_or-chunk (16 * b) 16 v i 0 lt

pub lane_block-four_times : (t : List ℕ) (b : ℕ) → length t ≡ 16 → b < 4 → lane_block (four_times t) b ≡ t
lane_block-four_times t b long lt = ext_get_or 0 _ _ (length-lane_block (four_times t) b (length-four_times t long) lt ∙ sym long) (λ i h.
    let small : i < 16 = omega (arith, length-lane_block (four_times t) b (length-four_times t long) lt) in
    lane_block_at (four_times t) b i small ∙ four_times_at t b i long lt small)

pub reordered_ok : (order : List ℕ) → length order ≡ 16 → T (all_below 16 order) → SwzOk w8 16 64 0 (four_times order)
reordered_ok order wide below = SwzOk-from_below w8 16 4 64 0 (four_times order) refl (omega (arith, length-four_times order wide)) (Each1-from_get_or (λ j. j < 16) (four_times order) 0 (λ i h.
    let whole : 16 * (i / 16) + i % 16 ≡ i = omega arith in
    let at = four_times_at order (i / 16) (i % 16) wide (omega (arith, length-four_times order wide)) (omega arith) in
    let is : get_or (four_times order) i 0 ≡ get_or order (i % 16) 0 = ap (λ k. get_or (four_times order) k 0) (sym whole) ∙ at in
    let small : get_or order (i % 16) 0 < 16 = below_at 16 order (i % 16) below (omega arith) in
    omega arith))

pub reordered_is : (v order : List ℕ) (b : ℕ) → length v ≡ 64 → length order ≡ 16 → T (all_below 16 order) → b < 4
    → lane_block (swz_l w8 16 v 0 (four_times order)) b ≡ map (λ k. get_or (lane_block v b) k 0) order
reordered_is v order b long wide below lt =
    let s = swz_l w8 16 v 0 (four_times order) in
    let sixteen : length (lane_block s b) ≡ 16 = length-lane_block s b (length-swz_l w8 16 v 0 (four_times order) ∙ length-four_times order wide) lt in
    ext_get_or 0 _ _ (sixteen ∙ sym (length-map order _ ∙ wide)) (λ i h.
    let small : i < 16 = omega arith in
    let is = four_times_at order b i wide lt small in
    let place : get_or order i 0 < 16 = below_at 16 order i below (omega arith) in
    let block : 16 * ((0 + (16 * b + i)) / 16) + get_or order i 0 ≡ 16 * b + get_or order i 0 = omega arith in
    lane_block_at s b i small
    ∙ get_or-swz_l_below w8 16 v 0 (four_times order) (16 * b + i) (omega (arith, length-four_times order wide)) (omega arith)
    ∙ ap (λ k. get_or v (16 * ((0 + (16 * b + i)) / 16) + k) 0) is
    ∙ ap (λ k. get_or v k 0) block
    ∙ sym (lane_block_at v b (get_or order i 0) place)
    ∙ sym (get_or-map (λ k. get_or (lane_block v b) k 0) order i 0 0 (omega arith)))
