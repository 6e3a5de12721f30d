-- Lemmas about hashing a text piece by piece.
use Rattle.std.proofs.Common.{◌≡◌, ℕ, ◌+◌, ◌-◌, ◌*◌, ◌^◌, ◌<◌, ◌≤◌, bit_xor, List, [], ◌∷◌, ◌++◌, map, length, take, drop, get_or, replicate, refl, sym, ap, ◌∙◌, arith, append_assoc, length-append, inl, inr}
use Rattle.std.specs.Int.{w128, from_be_bytes, to_be_bytes}
use Rattle.std.specs.List.{range_with_len}
use Rattle.std.proofs.Math.ListN.{get_or-append}
use Rattle.std.proofs.Math.Seq.{take-add}
use Rattle.std.proofs.lemmas.Bool.{cases_lt}
use Rattle.std.proofs.lemmas.List.{get_or-replicate, get_or-take, get_or-append-add, get_or_past, length-take-le, length-drop, take-append-drop}
use Rattle.std.proofs.lemmas.List.FromFn.{fill_by_all}
use Rattle.gcm_field.specs.Field.{field_mul, polynomial, reversed}
use Rattle.gcm_field.proofs.Reversal.{reversed-xor, reversed-reversed}
use Rattle.gcm_seal.specs.Gcm.{blocks_of, ghash, gctr, lengths_block, hashed_blocks, hash_key, tag_of}
use Rattle.gcm_seal.specs.Hashing.{Hashed, IsHashOf}
use Rattle.gcm_seal.proofs.Horner.{ghash_more}
use Rattle.gcm_seal.proofs.Texts.{blocks-append, blocks-one}

-- two lists with the same items are equal
pub same_items : (xs ys : List ℕ) (n : ℕ) → length xs ≡ n → length ys ≡ n → ((k : ℕ) → k < n → get_or xs k 0 ≡ get_or ys k 0) → xs ≡ ys
same_items xs ys n ex ey same =
    fill_by_all (λ k. get_or ys k 0) xs n 0 ex same ∙ sym (fill_by_all (λ k. get_or ys k 0) ys n 0 ey (λ k h. refl))

-- GHASH of one more block
pub block_absorbed : (h hash next : ℕ) (ys : List (List ℕ)) (block : List ℕ) → h < 2 ^ 128 → reversed hash ≡ ghash h ys
    → reversed next ≡ field_mul (reversed (bit_xor hash (from_be_bytes w128 block))) h → reversed next ≡ ghash h (ys ++ block ∷ [])
block_absorbed h hash next ys block small before e =
    e ∙ ap (λ p. field_mul p h) (reversed-xor hash (from_be_bytes w128 block) ∙ ap (λ p. bit_xor p (polynomial block)) before)
    ∙ sym (ghash_more h ys block small)

-- the next whole block of a text
pub next_whole : (text block : List ℕ) (i : ℕ) → 16 * (i + 1) ≤ length text → block ≡ take 16 (drop (16 * i) text)
    → blocks_of (take (16 * (i + 1)) text) ≡ blocks_of (take (16 * i) text) ++ block ∷ []
next_whole text block i within e =
    let before : length (take (16 * i) text) ≡ 16 * i = length-take-le (16 * i) text (omega arith) in
    let whole : length block ≡ 16 = ap length e ∙ length-take-le 16 (drop (16 * i) text) (let d = length-drop (16 * i) text in omega arith) in
    let place : 16 * (i + 1) ≡ 16 * i + 16 = omega arith in
    ap (λ k. blocks_of (take k text)) place
    ∙ ap blocks_of (take-add (16 * i) 16 text ∙ ap (λ b. take (16 * i) text ++ b) (sym e))
    ∙ blocks-append (take (16 * i) text) block i before
    ∙ ap (λ b. blocks_of (take (16 * i) text) ++ b) (blocks-one block block (omega arith) (omega arith) whole (λ j h. refl))

-- the bytes after the last whole block
pub last_part : (text rest block : List ℕ) (i : ℕ) → 16 * i ≤ length text → rest ≡ drop (16 * i) text → 0 < length rest → length rest ≤ 16 → length block ≡ 16
    → ((j : ℕ) → j < 16 → get_or block j 0 ≡ get_or rest j 0) → blocks_of text ≡ blocks_of (take (16 * i) text) ++ block ∷ []
last_part text rest block i within e some few whole same =
    let before : length (take (16 * i) text) ≡ 16 * i = length-take-le (16 * i) text within in
    ap blocks_of (sym (take-append-drop (16 * i) text) ∙ ap (λ b. take (16 * i) text ++ b) (sym e))
    ∙ blocks-append (take (16 * i) text) rest i before
    ∙ ap (λ b. blocks_of (take (16 * i) text) ++ b) (blocks-one rest block some few whole same)

-- bytes that are copied after others
pub put_after : (old new bytes : List ℕ) (at : ℕ) → length old ≡ 16 → length new ≡ 16 → at + length bytes ≤ 16
    → ((k : ℕ) → k < at → get_or new k 0 ≡ get_or old k 0) → ((j : ℕ) → j < length bytes → get_or new (at + j) 0 ≡ get_or bytes j 0)
    → take (at + length bytes) new ≡ take at old ++ bytes
put_after old new bytes at eo en fits before inside =
    let n = at + length bytes in
    let front : length (take at old) ≡ at = length-take-le at old (omega arith) in
    same_items (take n new) (take at old ++ bytes) n (length-take-le n new (omega arith)) (length-append (take at old) bytes ∙ (let e : length (take at old) + length bytes ≡ n = omega arith in e))
    (λ k h. get_or-take n new k 0 h ∙ elim (cases_lt k at) [
      | inl low ↦
          before k low ∙ sym (get_or-append (take at old) bytes 0 k (omega arith) ∙ get_or-take at old k 0 low)
      | inr high ↦
          let j = k - at in
          let e : at + j ≡ k = omega arith in
          let f : length (take at old) + j ≡ k = omega arith in
          ap (λ m. get_or new m 0) (sym e) ∙ inside j (omega arith)
          ∙ sym (ap (λ m. get_or (take at old ++ bytes) m 0) (sym f) ∙ get_or-append-add (take at old) bytes j 0)
    ])

-- bytes that are copied into a zero block
pub padded : (new bytes : List ℕ) → length bytes ≤ 16 → ((j : ℕ) → j < length bytes → get_or new (0 + j) 0 ≡ get_or bytes j 0)
    → ((k : ℕ) → 0 + length bytes ≤ k → get_or new k 0 ≡ get_or (replicate 16 0) k 0) → (j : ℕ) → j < 16 → get_or new j 0 ≡ get_or bytes j 0
padded new bytes few inside after j h = elim (cases_lt j (length bytes)) [
  | inl low ↦ let e : j ≡ 0 + j = omega arith in ap (λ k. get_or new k 0) e ∙ inside j low
  | inr high ↦ after j (omega arith) ∙ get_or-replicate 16 j 0 0 h ∙ sym (get_or_past bytes j 0 high)
]

-- the step of the hash for a list of blocks
abbrev pub Absorbs : ℕ → ℕ → ℕ → List ℕ → Type 0
Absorbs h before after text = (xs : List (List ℕ)) → reversed before ≡ ghash h xs → reversed after ≡ ghash h (xs ++ blocks_of text)

-- a piece that doesn't complete a block
pub short_piece : (v : Hashed) (rest bytes key nonce aad text : List ℕ) → rest ≡ v.rest ++ bytes → IsHashOf v key nonce aad text
    → IsHashOf (record v { rest = rest; length = v.length + length bytes }) key nonce aad (text ++ bytes)
short_piece v rest bytes key nonce aad text e r =
    record {
      subkey = r.subkey;
      masked = r.masked;
      aad_length = r.aad_length;
      text_length = ap (λ n. n + length bytes) r.text_length ∙ sym (length-append text bytes);
      front = r.front;
      count = r.count;
      whole = r.whole;
      cut = ap (λ t. t ++ bytes) r.cut ∙ append_assoc r.front v.rest bytes ∙ ap (λ t. r.front ++ t) (sym e);
      summed = r.summed;
    }

-- a piece that completes the partial block and may bring further whole blocks
pub long_piece : (v : Hashed) (block head whole tail rest bytes key nonce aad text : List ℕ) (m middle sum : ℕ)
    → block ≡ v.rest ++ head → length block ≡ 16 → length whole ≡ 16 * m → rest ≡ tail → bytes ≡ head ++ (whole ++ tail)
    → Absorbs (polynomial v.key) v.sum middle block → Absorbs (polynomial v.key) middle sum whole → IsHashOf v key nonce aad text
    → IsHashOf (record v { sum = sum; rest = rest; length = v.length + length bytes }) key nonce aad (text ++ bytes)
long_piece v block head whole tail rest bytes key nonce aad text m middle sum e long many er cut first second r =
    let h = polynomial v.key in
    let front = r.front ++ (block ++ whole) in
    let both : length (block ++ whole) ≡ 16 * (m + 1) = length-append block whole ∙ (let f : length block + length whole ≡ 16 * (m + 1) = omega arith in f) in
    let split : blocks_of front ≡ blocks_of r.front ++ (blocks_of block ++ blocks_of whole) =
    blocks-append r.front (block ++ whole) r.count r.whole ∙ ap (λ b. blocks_of r.front ++ b) (blocks-append block whole 1 long) in
    let after : reversed sum ≡ ghash h (((blocks_of aad ++ blocks_of r.front) ++ blocks_of block) ++ blocks_of whole) =
    second ((blocks_of aad ++ blocks_of r.front) ++ blocks_of block) (first (blocks_of aad ++ blocks_of r.front) r.summed) in
    let order : ((blocks_of aad ++ blocks_of r.front) ++ blocks_of block) ++ blocks_of whole ≡ blocks_of aad ++ blocks_of front =
    append_assoc (blocks_of aad ++ blocks_of r.front) (blocks_of block) (blocks_of whole)
    ∙ append_assoc (blocks_of aad) (blocks_of r.front) (blocks_of block ++ blocks_of whole)
    ∙ ap (λ b. blocks_of aad ++ b) (sym split) in
    let joined : text ++ bytes ≡ front ++ rest =
    (λ i. r.cut i ++ cut i)
    ∙ append_assoc r.front v.rest (head ++ (whole ++ tail))
    ∙ ap (λ t. r.front ++ t) (sym (append_assoc v.rest head (whole ++ tail)) ∙ ap (λ t. t ++ (whole ++ tail)) (sym e) ∙ sym (append_assoc block whole tail))
    ∙ sym (append_assoc r.front (block ++ whole) tail) ∙ ap (λ t. front ++ t) (sym er) in
    record {
      subkey = r.subkey;
      masked = r.masked;
      aad_length = r.aad_length;
      text_length = ap (λ n. n + length bytes) r.text_length ∙ sym (length-append text bytes);
      front = front;
      count = r.count + (m + 1);
      whole = length-append r.front (block ++ whole) ∙ (let w = r.whole in let f : length r.front + length (block ++ whole) ≡ 16 * (r.count + (m + 1)) = omega arith in f);
      cut = joined;
      summed = after ∙ ap (ghash h) order;
    }

-- the final step: the partial block, the lengths, and the mask
pub tagged : (v : Hashed) (lengths key nonce aad text tag : List ℕ) (middle sum : ℕ) → sum < 2 ^ 128
    → Absorbs (polynomial v.key) v.sum middle v.rest → Absorbs (polynomial v.key) middle sum lengths → lengths ≡ lengths_block v.aad_length v.length
    → tag ≡ map (λ i. bit_xor (get_or (to_be_bytes w128 sum) i 0) (get_or v.mask i 0)) (range_with_len 0 16)
    → IsHashOf v key nonce aad text → tag ≡ tag_of key nonce aad text
unfolding tag_of gctr
tagged v lengths key nonce aad text tag middle sum small first second el et r =
    let h = polynomial v.key in
    let last : blocks_of lengths ≡ lengths_block (length aad) (length text) ∷ [] =
    ap blocks_of el ∙ blocks-one (lengths_block v.aad_length v.length) (lengths_block v.aad_length v.length) (omega arith) (omega arith) refl (λ j k. refl)
    ∙ (λ i. lengths_block (r.aad_length i) (r.text_length i) ∷ []) in
    let whole_text : blocks_of r.front ++ blocks_of v.rest ≡ blocks_of text =
    sym (blocks-append r.front v.rest r.count r.whole) ∙ ap blocks_of (sym r.cut) in
    let order : ((blocks_of aad ++ blocks_of r.front) ++ blocks_of v.rest) ++ blocks_of lengths ≡ hashed_blocks aad text =
    append_assoc (blocks_of aad ++ blocks_of r.front) (blocks_of v.rest) (blocks_of lengths)
    ∙ append_assoc (blocks_of aad) (blocks_of r.front) (blocks_of v.rest ++ blocks_of lengths)
    ∙ ap (λ b. blocks_of aad ++ b) (sym (append_assoc (blocks_of r.front) (blocks_of v.rest) (blocks_of lengths)) ∙ (λ i. whole_text i ++ last i)) in
    let hashed : reversed sum ≡ ghash (polynomial (hash_key key)) (hashed_blocks aad text) =
    second ((blocks_of aad ++ blocks_of r.front) ++ blocks_of v.rest) (first (blocks_of aad ++ blocks_of r.front) r.summed)
    ∙ (λ i. ghash (polynomial (r.subkey i)) (order i)) in
    let number : sum ≡ reversed (ghash (polynomial (hash_key key)) (hashed_blocks aad text)) = sym (reversed-reversed sum small) ∙ ap reversed hashed in
    et ∙ (λ j. map (λ i. bit_xor (get_or (to_be_bytes w128 (number j)) i 0) (get_or (r.masked j) i 0)) (range_with_len 0 16))
