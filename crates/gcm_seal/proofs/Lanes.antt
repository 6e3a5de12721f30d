-- Lemmas about four blocks in a vector of 64 bytes, and the keystream that they give.
use Rattle.std.proofs.Common.{◌≡◌, ℕ, zero, suc, ◌+◌, ◌-◌, ◌*◌, ◌/◌, ◌%◌, ◌^◌, ◌<◌, ◌≤◌, bit_xor, List, [], ◌∷◌, ◌++◌, map, length, drop, get_or, refl, sym, ap, ◌∙◌, arith, add-zero, inl, inr}
use Rattle.std.specs.Int.{w32, to_be_bytes}
use Rattle.std.specs.List.{range_with_len}
use Rattle.std.proofs.Math.ListN.{get_or-append}
use Rattle.std.proofs.lemmas.Bool.{cases_lt}
use Rattle.std.proofs.lemmas.List.{get_or-take, get_or-drop, length-take, length-drop}
use Rattle.std.proofs.lemmas.List.FromFn.{fill_by_all}
use Rattle.aes_block.specs.Aes.{aes}
use Rattle.aes_block.specs.FourBlocks.{lane_block}
use Rattle.gcm_seal.specs.Gcm.{counter_block, keystream_byte}
use Rattle.gcm_seal.proofs.Texts.{range_same}

-- a list of n items is the list of its items by index
pub listed : (n : ℕ) (xs : List ℕ) → length xs ≡ n → xs ≡ map (λ k. get_or xs k 0) (range_with_len 0 n)
listed n xs e = fill_by_all (λ k. get_or xs k 0) xs n 0 e (λ k h. refl)

pub lane_at : (v : List ℕ) (b r : ℕ) → r < 16 → get_or (lane_block v b) r 0 ≡ get_or v (16 * b + r) 0
lane_at v b r h = get_or-take 16 (drop (16 * b) v) r 0 h ∙ get_or-drop (16 * b) v r 0

-- byte j of a vector is in block j / 16
pub byte_in_lane : (v : List ℕ) (j : ℕ) → get_or v j 0 ≡ get_or (lane_block v (j / 16)) (j % 16) 0
byte_in_lane v j =
    let e : j ≡ 16 * (j / 16) + j % 16 = omega arith in
    ap (λ k. get_or v k 0) e ∙ sym (lane_at v (j / 16) (j % 16) (omega arith))

length-lane : (v : List ℕ) (b : ℕ) → length v ≡ 64 → b < 4 → length (lane_block v b) ≡ 16
length-lane v b e h = length-take 16 (drop (16 * b) v) ∙ (let d = length-drop (16 * b) v in omega arith)

-- the block that is extracted from a vector
pub lane_taken : (v : List ℕ) (b : ℕ) → length v ≡ 64 → b < 4 → map (λ k. get_or (v ++ v) (16 * b + k) 0) (range_with_len 0 16) ≡ lane_block v b
lane_taken v b e h =
    range_same (λ k. get_or (v ++ v) (16 * b + k) 0) (λ k. get_or (lane_block v b) k 0) 16 0
    (λ k low. get_or-append v v 0 (16 * b + k) (omega arith) ∙ sym (lane_at v b k low))
    ∙ sym (listed 16 (lane_block v b) (length-lane v b e h))

abbrev pub spread : List ℕ → List ℕ → List ℕ
spread nonce c = map (λ k. get_or nonce k 0) (range_with_len 0 12) ++ map (λ k. get_or c k 0) (range_with_len 0 4)

pub joined : (nonce c : List ℕ) → length nonce ≡ 12 → length c ≡ 4 → spread nonce c ≡ nonce ++ c
joined nonce c en ec = λ i. sym (listed 12 nonce en) i ++ sym (listed 4 c ec) i

-- four counter blocks, one after another
pub counters : (nonce a b c d : List ℕ) (from i : ℕ) → length nonce ≡ 12
    → a ≡ to_be_bytes w32 from → b ≡ to_be_bytes w32 (from + 1) → c ≡ to_be_bytes w32 (from + 2) → d ≡ to_be_bytes w32 (from + 3) → i < 4
    → lane_block (spread nonce a ++ (spread nonce b ++ (spread nonce c ++ spread nonce d))) i ≡ counter_block nonce (from + i)
counters nonce a b c d from zero en ea eb ec ed h =
    joined nonce a en (ap length ea) ∙ ap (λ x. nonce ++ x) (ea ∙ ap (to_be_bytes w32) (sym (add-zero from)))
counters nonce a b c d from (suc zero) en ea eb ec ed h = joined nonce b en (ap length eb) ∙ ap (λ x. nonce ++ x) eb
counters nonce a b c d from (suc (suc zero)) en ea eb ec ed h = joined nonce c en (ap length ec) ∙ ap (λ x. nonce ++ x) ec
counters nonce a b c d from (suc (suc (suc zero))) en ea eb ec ed h = joined nonce d en (ap length ed) ∙ ap (λ x. nonce ++ x) ed
counters nonce a b c d from (suc (suc (suc (suc i)))) en ea eb ec ed h = absurd (omega arith)

keystream_later : (key nonce : List ℕ) (c i j : ℕ) → keystream_byte key nonce (c + 4 * i) j ≡ keystream_byte key nonce c (64 * i + j)
keystream_later key nonce c i j =
    let block : c + 4 * i + j / 16 ≡ c + (64 * i + j) / 16 = omega arith in
    let place : j % 16 ≡ (64 * i + j) % 16 = omega arith in
    λ k. keystream_part key nonce (block k) (place k)
  where
    keystream_part : List ℕ → List ℕ → ℕ → ℕ → ℕ
    keystream_part key nonce block place = get_or (aes key (counter_block nonce block)) place 0

-- one step of the loop: four more blocks, or fewer at the end
pub added : (key nonce : List ℕ) (from i count : ℕ) (old before after stream : List ℕ) → count ≤ 64
    → ((k : ℕ) → k < 64 * i → get_or before k 0 ≡ bit_xor (get_or old k 0) (keystream_byte key nonce from k))
    → ((k : ℕ) → 64 * i ≤ k → get_or before k 0 ≡ get_or old k 0)
    → ((j : ℕ) → j < 64 → get_or stream j 0 ≡ keystream_byte key nonce (from + 4 * i) j)
    → ((k : ℕ) → k < 64 * i → get_or after k 0 ≡ get_or before k 0)
    → ((j : ℕ) → j < count → get_or after (64 * i + j) 0 ≡ bit_xor (get_or before (64 * i + j) 0) (get_or stream j 0))
    → (k : ℕ) → k < 64 * i + count → get_or after k 0 ≡ bit_xor (get_or old k 0) (keystream_byte key nonce from k)
added key nonce from i count old before after stream few done rest ks kept put k h = elim (cases_lt k (64 * i)) [
  | inl low ↦ kept k low ∙ done k low
  | inr high ↦
      let j = k - 64 * i in
      let e : 64 * i + j ≡ k = omega arith in
      let within : j < count = omega arith in
      let small : j < 64 = omega arith in
      let above : 64 * i ≤ 64 * i + j = omega arith in
      ap (λ n. get_or after n 0) (sym e) ∙ put j within
      ∙ (λ n. bit_xor (rest (64 * i + j) above n) ((ks j small ∙ keystream_later key nonce from i j) n))
      ∙ ap (λ n. bit_xor (get_or old n 0) (keystream_byte key nonce from n)) e
]

-- a counter has four bytes
pub wrapped : (n : ℕ) → to_be_bytes w32 (n % 2 ^ 32) ≡ to_be_bytes w32 n
wrapped n =
    let b3 : n % 2 ^ 32 / 2 ^ 24 % 256 ≡ n / 2 ^ 24 % 256 = omega arith in
    let b2 : n % 2 ^ 32 / 2 ^ 16 % 256 ≡ n / 2 ^ 16 % 256 = omega arith in
    let b1 : n % 2 ^ 32 / 2 ^ 8 % 256 ≡ n / 2 ^ 8 % 256 = omega arith in
    let b0 : n % 2 ^ 32 % 256 ≡ n % 256 = omega arith in
    λ i. b3 i ∷ b2 i ∷ b1 i ∷ b0 i ∷ []
