-- Lemmas about texts in blocks, and about counter mode.
use Rattle.std.proofs.Common.{◌≡◌, ℕ, zero, suc, ◌+◌, ◌*◌, ◌/◌, ◌%◌, ◌<◌, ◌≤◌, bit_xor, List, [], ◌∷◌, ◌++◌, map, length, get_or, refl, sym, ap, ◌∙◌, arith, length-append, append_assoc, add-one, add-zero}
use Rattle.std.specs.List.{range_with_len}
use Rattle.std.proofs.Math.ListN.{get_or-append}
use Rattle.std.proofs.lemmas.List.{get_or-append-add, append-nil}
use Rattle.std.proofs.lemmas.List.FromFn.{length-map-range_with_len, get_or-map-range_with_len, fill_by_all, map-range_with_len_more}
use Rattle.pme_terms.proofs.Xors.{xor_twice}
use Rattle.aes_block.specs.Aes.{aes}
use Rattle.gcm_seal.specs.Gcm.{block_at, blocks_of, gctr, counter_block, keystream_byte, tag_of}

pub length-gctr : (key nonce : List ℕ) (c : ℕ) (text : List ℕ) → length (gctr key nonce c text) ≡ length text
unfolding gctr
length-gctr key nonce c text = length-map-range_with_len (λ i. bit_xor (get_or text i 0) (keystream_byte key nonce c i)) 0 (length text)

pub length-tag_of : (key nonce aad text : List ℕ) → length (tag_of key nonce aad text) ≡ 16
unfolding tag_of
length-tag_of key nonce aad text = length-gctr key nonce 1 _

-- a map over a range that is cut in two
pub range_cut : {X : Type 0} (f : ℕ → X) (n m : ℕ) → map f (range_with_len 0 (n + m)) ≡ map f (range_with_len 0 n) ++ map (λ i. f (n + i)) (range_with_len 0 m)
range_cut f n zero = ap (λ k. map f (range_with_len 0 k)) (add-zero n) ∙ sym (append-nil (map f (range_with_len 0 n)))
range_cut f n (suc m) =
    let e : n + suc m ≡ n + m + 1 = omega arith in
    let front = map f (range_with_len 0 n) in
    let back = map (λ i. f (n + i)) (range_with_len 0 m) in
    ap (λ k. map f (range_with_len 0 k)) e
    ∙ map-range_with_len_more f 0 (n + m) (n + m) (omega arith)
    ∙ ap (λ l. l ++ f (n + m) ∷ []) (range_cut f n m)
    ∙ append_assoc front back (f (n + m) ∷ [])
    ∙ ap (λ l. front ++ l) (sym (ap (λ k. map (λ i. f (n + i)) (range_with_len 0 k)) (sym (add-one m)) ∙ map-range_with_len_more (λ i. f (n + i)) 0 m m (omega arith)))

-- two functions that agree below n give the same list
pub range_same : {X : Type 0} (f g : ℕ → X) (n : ℕ) (d : X) → ((i : ℕ) → i < n → f i ≡ g i) → map f (range_with_len 0 n) ≡ map g (range_with_len 0 n)
range_same f g n d same =
    fill_by_all g (map f (range_with_len 0 n)) n d (length-map-range_with_len f 0 n)
    (λ k h. get_or-map-range_with_len f 0 n k k d h (omega arith) ∙ same k h)

front_block : (front back : List ℕ) (n i : ℕ) → length front ≡ 16 * n → i < n → block_at (front ++ back) i ≡ block_at front i
front_block front back n i e h =
    range_same (λ j. get_or (front ++ back) (16 * i + j) 0) (λ j. get_or front (16 * i + j) 0) 16 0
    (λ j low. get_or-append front back 0 (16 * i + j) (omega arith))

back_block : (front back : List ℕ) (n i : ℕ) → length front ≡ 16 * n → block_at (front ++ back) (n + i) ≡ block_at back i
back_block front back n i e =
    range_same (λ j. get_or (front ++ back) (16 * (n + i) + j) 0) (λ j. get_or back (16 * i + j) 0) 16 0
    (λ j low. let place : 16 * (n + i) + j ≡ length front + (16 * i + j) = omega arith in
    ap (λ k. get_or (front ++ back) k 0) place ∙ get_or-append-add front back (16 * i + j) 0)

-- the blocks of a text that is cut between two blocks
pub blocks-append : (front back : List ℕ) (n : ℕ) → length front ≡ 16 * n → blocks_of (front ++ back) ≡ blocks_of front ++ blocks_of back
unfolding blocks_of
blocks-append front back n e =
    let m = (length back + 15) / 16 in
    let whole = length-append front back in
    let count : (length (front ++ back) + 15) / 16 ≡ n + m = omega arith in
    let first : n ≡ (length front + 15) / 16 = omega arith in
    let f = block_at (front ++ back) in
    ap (λ k. map f (range_with_len 0 k)) count ∙ range_cut f n m
    ∙ (λ i. range_same f (block_at front) n [] (λ k h. front_block front back n k e h) i
    ++ range_same (λ k. f (n + k)) (block_at back) m [] (λ k h. back_block front back n k e) i)
    ∙ ap (λ k. map (block_at front) (range_with_len 0 k) ++ map (block_at back) (range_with_len 0 m)) first

pub blocks-none : blocks_of [] ≡ []
unfolding blocks_of
blocks-none = refl

-- a text of at most one block, padded with zeros
pub blocks-one : (text block : List ℕ) → 0 < length text → length text ≤ 16 → length block ≡ 16
    → ((j : ℕ) → j < 16 → get_or block j 0 ≡ get_or text j 0) → blocks_of text ≡ block ∷ []
unfolding blocks_of
blocks-one text block some few whole same =
    let one : (length text + 15) / 16 ≡ 1 = omega arith in
    ap (λ k. map (block_at text) (range_with_len 0 k)) one
    ∙ ap (λ b. b ∷ []) (sym (fill_by_all (λ j. get_or text (16 * 0 + j) 0) block 16 0 whole
    (λ j h. same j h ∙ ap (λ k. get_or text k 0) (let e : j ≡ 16 * 0 + j = omega arith in e))))

-- counter mode, byte by byte
pub gctr_is : (key nonce : List ℕ) (c : ℕ) (text done : List ℕ) → length done ≡ length text
    → ((k : ℕ) → k < length text → get_or done k 0 ≡ bit_xor (get_or text k 0) (keystream_byte key nonce c k)) → done ≡ gctr key nonce c text
unfolding gctr
gctr_is key nonce c text done whole each = fill_by_all (λ k. bit_xor (get_or text k 0) (keystream_byte key nonce c k)) done (length text) 0 whole each

pub get_or-gctr : (key nonce : List ℕ) (c : ℕ) (text : List ℕ) (k : ℕ) → k < length text → get_or (gctr key nonce c text) k 0 ≡ bit_xor (get_or text k 0) (keystream_byte key nonce c k)
unfolding gctr
get_or-gctr key nonce c text k h =
    get_or-map-range_with_len (λ i. bit_xor (get_or text i 0) (keystream_byte key nonce c i)) 0 (length text) k k 0 h (omega arith)

-- counter mode is its own inverse
pub gctr_twice : (key nonce : List ℕ) (c : ℕ) (text : List ℕ) → gctr key nonce c (gctr key nonce c text) ≡ text
gctr_twice key nonce c text =
    let once = gctr key nonce c text in
    let same : length once ≡ length text = length-gctr key nonce c text in
    sym (gctr_is key nonce c once text (sym same) (λ k h.
    let within : k < length text = omega arith in
    sym (ap (λ b. bit_xor b (keystream_byte key nonce c k)) (get_or-gctr key nonce c text k within) ∙ xor_twice (get_or text k 0) (keystream_byte key nonce c k))))

keystream_moved : (key nonce : List ℕ) (c n at k : ℕ) → at ≡ 16 * n → keystream_byte key nonce c (at + k) ≡ keystream_byte key nonce (c + n) k
keystream_moved key nonce c n at k e =
    let block : c + (at + k) / 16 ≡ c + n + k / 16 = omega arith in
    let place : (at + k) % 16 ≡ k % 16 = omega arith in
    λ j. get_or (aes key (counter_block nonce (block j))) (place j) 0

-- counter mode of a text that is cut between two blocks
pub gctr-append : (key nonce : List ℕ) (c n : ℕ) (front back : List ℕ) → length front ≡ 16 * n
    → gctr key nonce c (front ++ back) ≡ gctr key nonce c front ++ gctr key nonce (c + n) back
unfolding gctr
gctr-append key nonce c n front back e =
    let f : ℕ → ℕ = λ i. bit_xor (get_or (front ++ back) i 0) (keystream_byte key nonce c i) in
    ap (λ k. map f (range_with_len 0 k)) (length-append front back)
    ∙ range_cut f (length front) (length back)
    ∙ (λ i.
    range_same f (λ k. bit_xor (get_or front k 0) (keystream_byte key nonce c k)) (length front) 0
    (λ k h. ap (λ b. bit_xor b (keystream_byte key nonce c k)) (get_or-append front back 0 k h)) i
    ++ range_same (λ k. f (length front + k)) (λ k. bit_xor (get_or back k 0) (keystream_byte key nonce (c + n) k)) (length back) 0
    (λ k h. λ j. bit_xor (get_or-append-add front back k 0 j) (keystream_moved key nonce c n (length front) k e j)) i)
