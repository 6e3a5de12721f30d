-- Lemmas about the key schedule, word by word.
use Rattle.std.proofs.Common.{◌≡◌, inl, inr, ℕ, zero, suc, ◌+◌, ◌-◌, ◌*◌, ◌/◌, ◌%◌, ◌<◌, ◌≤◌, ◌&&◌, ◌==◌, nat_lt, if◌then◌else◌, List, [], ◌∷◌, ◌++◌, map, length, get_or, take, drop, refl, sym, ap, ◌∙◌, arith, bit_xor}
use Rattle.std.specs.Int.Bits.{xor_zero_r}
use Rattle.std.specs.List.{range_with_len}
use Rattle.std.proofs.lemmas.List.FromFn.{get_or-map-range_with_len}
use Rattle.std.proofs.lemmas.Simd.{pick_l_whole}
use Rattle.std.proofs.lemmas.List.{take-take, drop-take, take-append-le}
use Rattle.std.proofs.Math.Seq.{take-length}
use Rattle.std.proofs.lemmas.Slice.{take-put_mid}
use borrow.Rule.Slice.PartMut.{put_mid}
use Rattle.std.specs.Simd.Lanes.{zip2}
use Rattle.aes_block.specs.Aes.{IsKeyLength, xor_bytes, sub_bytes, round, final_round, state_after, cipher, power_of_x, rot_word, round_constant, schedule_term, next_word, schedule_after}
use Rattle.aes_block.specs.Field.{field_mul, folded, sbox}
use Rattle.aes_block.specs.declared.expansion.TheConstants.{ROUND_CONSTANTS}
use Rattle.pme_terms.specs.Polynomials.{product_below}

-- the sizes that belong to a key of n bytes
pub record Words (n : ℕ) : Type 0 where
  pub whole : 4 * (n / 4) ≡ n
  pub at_least : 4 ≤ n / 4
  pub at_most : n / 4 ≤ 8

pub words_of : (n : ℕ) → IsKeyLength n → Words n
words_of n h = elim h [
  | inl e ↦ record { whole = omega arith; at_least = omega arith; at_most = omega arith }
  | inr r ↦ elim r [
    | inl e ↦ record { whole = omega arith; at_least = omega arith; at_most = omega arith }
    | inr e ↦ record { whole = omega arith; at_least = omega arith; at_most = omega arith }
  ]
]

-- ---- slices of the first m bytes

pub part-take : (k a m : ℕ) (w : List ℕ) → a + k ≤ m → take k (drop a (take m w)) ≡ take k (drop a w)
part-take k a m w le =
    let parts : m ≡ a + (m - a) = omega arith in
    ap (λ n. take k (drop a (take n w))) parts ∙ ap (take k) (drop-take a (m - a) w) ∙ take-take k (m - a) (drop a w) (omega arith)

next_word-take : (nk i : ℕ) (w : List ℕ) → 0 < nk → nk ≤ i → next_word nk (take (4 * i) w) i ≡ next_word nk w i
next_word-take nk i w positive le =
    let before = part-take 4 (4 * (i - nk)) (4 * i) w (omega arith) in
    let previous = part-take 4 (4 * (i - 1)) (4 * i) w (omega arith) in
    λ j. zip2 bit_xor (before j) (schedule_term nk i (previous j))

pub one_more : (key w new : List ℕ) (nk i k : ℕ) → 0 < nk → nk ≤ i → 4 * i ≤ length w → length new ≡ 4
    → take (4 * i) w ≡ schedule_after key nk (i - nk) → new ≡ next_word nk w i → take (4 * (i + 1)) (put_mid (4 * i) k w new) ≡ schedule_after key nk (i + 1 - nk)
unfolding schedule_after
one_more key w new nk i k positive le room four done is =
    let here : nk + (i - nk) ≡ i = omega arith in
    let after : suc (i - nk) ≡ i + 1 - nk = omega arith in
    take-put_mid (4 * i) k w new (4 * (i + 1)) (omega arith) room
    ∙ (λ j. done j ++ (is ∙ sym (next_word-take nk i w positive le) ∙ (λ j. next_word nk (done j) (sym here j))) j)
    ∙ ap (schedule_after key nk) after

pub begun : (key bytes rest : List ℕ) (nk : ℕ) → key ≡ bytes → 4 * nk ≡ length bytes
    → (take (length bytes) (key ++ rest) ≡ bytes) × (take (4 * nk) (key ++ rest) ≡ schedule_after bytes nk (nk - nk))
unfolding schedule_after
begun key bytes rest nk same whole =
    let front = ap (λ k. take (length bytes) (k ++ rest)) same ∙ take-append-le (length bytes) bytes rest (omega arith) ∙ take-length bytes in
    let none : 0 ≡ nk - nk = omega arith in
    (front, ap (λ n. take n (key ++ rest)) whole ∙ front ∙ ap (schedule_after bytes nk) none)

-- ---- the term with a round constant

constants_are : map power_of_x (range_with_len 0 10) ≡ ROUND_CONSTANTS
unfolding power_of_x field_mul folded product_below
constants_are = refl

constant_at : (k : ℕ) → k < 10 → get_or ROUND_CONSTANTS k 0 ≡ power_of_x k
constant_at k lt = ap (λ l. get_or l k 0) (sym constants_are) ∙ get_or-map-range_with_len power_of_x 0 10 k k 0 lt (omega arith)

pub first_term : (nk i : ℕ) (previous s : List ℕ) → length previous ≡ 4 → i % nk ≡ 0 → 0 < i / nk → i / nk ≤ 10
    → s ≡ map sbox (get_or previous 1 0 ∷ get_or previous 2 0 ∷ get_or previous 3 0 ∷ get_or previous 0 0 ∷ [])
    → bit_xor (get_or s 0 0) (get_or ROUND_CONSTANTS (i / nk - 1) 0) ∷ get_or s 1 0 ∷ get_or s 2 0 ∷ get_or s 3 0 ∷ [] ≡ schedule_term nk i previous
first_term nk i previous s four start positive few is =
    let constant = constant_at (i / nk - 1) (omega arith) in
    let listed = sym (pick_l_whole 0 previous 4 four) in
    let added = λ (n : ℕ). sym (xor_zero_r n) in
    let term = λ (r : ℕ) (p : List ℕ).
    if r == 0 then xor_bytes (sub_bytes (rot_word p)) (round_constant (i / nk)) else (if nat_lt 6 nk && (i % nk == 4) then sub_bytes p else p) in
    (λ j. bit_xor (get_or (is j) 0 0) (constant j) ∷ added (get_or (is j) 1 0) j ∷ added (get_or (is j) 2 0) j ∷ added (get_or (is j) 3 0) j ∷ [])
    ∙ (λ j. term (sym start j) (sym listed j))

-- ---- the cipher uses only the round keys of the schedule

state_after-take : (w block : List ℕ) (m r : ℕ) → 16 * r + 16 ≤ m → state_after (take m w) block r ≡ state_after w block r
unfolding state_after
state_after-take w block m zero le = ap (zip2 bit_xor block) (part-take 16 (16 * 0) m w (omega arith))
state_after-take w block m (suc r) le = λ i. round (state_after-take w block m r (omega arith) i) (part-take 16 (16 * suc r) m w le i)

pub cipher-take : (w block : List ℕ) (m n : ℕ) → 16 * n + 32 ≤ m → cipher (take m w) n block ≡ cipher w n block
unfolding cipher
cipher-take w block m n le = λ i. final_round (state_after-take w block m n (omega arith) i) (part-take 16 (16 * suc n) m w (omega arith) i)
