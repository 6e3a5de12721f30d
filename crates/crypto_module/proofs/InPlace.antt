-- Lemmas about the buffer after a GCM module has been decrypted in place.
use Rattle.std.proofs.Common.{◌≡◌, ◌≢◌, ℕ, ◌+◌, ◌-◌, ◌≤◌, Bool, true, false, List, length, take, drop, sym, ap, ◌∙◌, subst, arith, Result, Ok, Err, IsOk, IsErr}
use Rattle.std.proofs.lemmas.List.{take-take, drop-take, length-take-le, length-drop}
use Rattle.std.proofs.lemmas.Slice.{between-put_mid, take-put_mid_below, drop-put_mid}
use Rattle.std.proofs.lemmas.Slice.Eq.{bytes_eq-Decides}
use Rattle.std.specs.Int.{w32, to_le_bytes}
use Rattle.std.specs.Str.{bytes_eq}
use borrow.Rule.Slice.PartMut.{put_mid}
use Rattle.pme_base.specs.declared.place.Place.{Place}
use Rattle.pme_base.specs.declared.refusal.Cause.TheVariants.{BadTag}
use Rattle.pme_base.specs.declared.refusal.Detail.TheVariants.{Tags}
use Rattle.pme_base.specs.declared.refusal.Refusal.{Refusal}
use Rattle.pme_base.specs.Refusals.{refusal_at}
use Rattle.pme_base.specs.Steps.{◌>>=◌}
use Rattle.gcm_seal.specs.Gcm.{gctr, tag_of}
use Rattle.gcm_seal.proofs.Texts.{length-gctr}
use Rattle.crypto_module.specs.Frames.{gcm_size}
use Rattle.crypto_module.specs.Modules.{IsGcm, HoldsGcm, nonce_of, cipher_of, stored_of}
use Rattle.crypto_module.specs.Opening.{unsealed_whole, opened, IsOpened}
use Rattle.crypto_module.proofs.Sizes.{IsSized, sized_is}
use Rattle.pme_base.proofs.Chain.{when_true, when_false}
use Rattle.crypto_module.proofs.Sealed.{front_sealed, holds, opened_if_held}

-- the ciphertext of the module at the front of the bytes
pub cipher_part : (size : ℕ) (bytes : List ℕ) → 32 ≤ size → size ≤ length bytes → take (size - 16 - 16) (drop 16 bytes) ≡ cipher_of (take size bytes)
cipher_part size bytes least inside =
    let whole : size ≡ 16 + (size - 16) = omega arith in
    let long : length (take size bytes) ≡ size = length-take-le size bytes inside in
    let behind : drop 16 (take size bytes) ≡ take (size - 16) (drop 16 bytes) = ap (λ k. drop 16 (take k bytes)) whole ∙ drop-take 16 (size - 16) bytes in
    let count : length (take size bytes) - 32 ≡ size - 16 - 16 = omega arith in
    sym (ap (λ k. take k (drop 16 (take size bytes))) count ∙ ap (take (size - 16 - 16)) behind
    ∙ take-take (size - 16 - 16) (size - 16) (drop 16 bytes) (omega arith))

-- the nonce of the module at the front of the bytes
pub nonce_part : (size : ℕ) (bytes : List ℕ) → 16 ≤ size → nonce_of (take size bytes) ≡ nonce_of bytes
nonce_part size bytes least =
    let whole : size ≡ 4 + (size - 4) = omega arith in
    ap (λ k. take 12 (drop 4 (take k bytes))) whole ∙ ap (take 12) (drop-take 4 (size - 4) bytes)
    ∙ take-take 12 (size - 4) (drop 4 bytes) (omega arith)

pub opened_ok : (key aad : List ℕ) (place : Place) (at limit : ℕ) (fill : Bool) (bytes : List ℕ) (size : ℕ) → gcm_size place at limit fill bytes ≡ Ok size
    → tag_of key (nonce_of (take size bytes)) aad (cipher_of (take size bytes)) ≡ stored_of (take size bytes)
    → opened key aad place at limit fill bytes ≡ Ok (gctr key (nonce_of (take size bytes)) 2 (cipher_of (take size bytes)))
opened_ok key aad place at limit fill bytes size framed tag_is =
    let m = take size bytes in
    let tag = tag_of key (nonce_of m) aad (cipher_of m) in
    ap (λ r. r >>= (λ size. unsealed_whole key aad place at (take size bytes))) framed
    ∙ when_true (bytes_eq tag (stored_of m)) (Ok (gctr key (nonce_of m) 2 (cipher_of m))) _ ((bytes_eq-Decides tag (stored_of m)).1 tag_is)

pub opened_bad : (key aad : List ℕ) (place : Place) (at limit : ℕ) (fill : Bool) (bytes : List ℕ) (size : ℕ) → gcm_size place at limit fill bytes ≡ Ok size
    → tag_of key (nonce_of (take size bytes)) aad (cipher_of (take size bytes)) ≢ stored_of (take size bytes)
    → opened key aad place at limit fill bytes
    ≡ Err (refusal_at BadTag place at (Tags (tag_of key (nonce_of (take size bytes)) aad (cipher_of (take size bytes))) (stored_of (take size bytes))))
opened_bad key aad place at limit fill bytes size framed differ =
    let m = take size bytes in
    let tag = tag_of key (nonce_of m) aad (cipher_of m) in
    ap (λ r. r >>= (λ size. unsealed_whole key aad place at (take size bytes))) framed
    ∙ when_false (bytes_eq tag (stored_of m)) _ _ (λ e. differ ((bytes_eq-Decides tag (stored_of m)).0 e))

-- the plaintext in the buffer after the call
pub text_part : (size : ℕ) (bytes buffer : List ℕ) → 32 ≤ size → size ≤ length bytes → length buffer ≡ size - 16 - 16
    → take (size - 32) (drop 16 (put_mid 16 (size - 16 - 16) bytes buffer)) ≡ buffer
text_part size bytes buffer least inside long =
    let count : size - 32 ≡ size - 16 - 16 = omega arith in
    ap (λ k. take k (drop 16 (put_mid 16 (size - 16 - 16) bytes buffer))) count
    ∙ between-put_mid 16 (size - 16 - 16) bytes buffer (size - 16) (omega arith) long

-- if the call fails, the bytes hold no module
pub none_held : (key aad : List ℕ) (place : Place) (at limit : ℕ) (fill : Bool) (bytes : List ℕ) (refusal : Refusal) → limit ≤ 268435456
    → opened key aad place at limit fill bytes ≡ Err refusal → (plain : List ℕ) → HoldsGcm fill key aad plain limit bytes → false ≡ true
none_held key aad place at limit fill bytes refusal small e plain held =
    let opens = opened_if_held key aad plain place at limit fill bytes small held in
    cc

-- the nonce, the ciphertext and the tag that the code reads from the buffer
same_tag : (key aad : List ℕ) (bytes : List ℕ) (size : ℕ) (nonce : List ℕ) → 32 ≤ size → size ≤ length bytes → nonce ≡ nonce_of (take size bytes)
    → tag_of key nonce aad (take (size - 16 - 16) (drop 16 bytes)) ≡ tag_of key (nonce_of (take size bytes)) aad (cipher_of (take size bytes))
same_tag key aad bytes size nonce least inside nonce_is = λ i. tag_of key (nonce_is i) aad (cipher_part size bytes least inside i)

text_left : (key bytes : List ℕ) (size : ℕ) (nonce buffer : List ℕ) → 32 ≤ size → size ≤ length bytes → nonce ≡ nonce_of (take size bytes)
    → buffer ≡ gctr key nonce 2 (take (size - 16 - 16) (drop 16 bytes))
    → (length buffer ≡ size - 16 - 16)
    × (take (size - 32) (drop 16 (put_mid 16 (size - 16 - 16) bytes buffer)) ≡ gctr key (nonce_of (take size bytes)) 2 (cipher_of (take size bytes)))
text_left key bytes size nonce buffer least inside nonce_is text_is =
    let there : size - 16 - 16 ≤ length (drop 16 bytes) = simp length-drop (omega arith) in
    let long : length buffer ≡ size - 16 - 16 = ap length text_is ∙ length-gctr key nonce 2 _ ∙ length-take-le (size - 16 - 16) (drop 16 bytes) there in
    (long, text_part size bytes buffer least inside long ∙ text_is ∙ (λ i. gctr key (nonce_is i) 2 (cipher_part size bytes least inside i)))

pub left_open : (key aad : List ℕ) (limit : ℕ) (fill : Bool) (bytes : List ℕ) (size : ℕ) (nonce tag buffer : List ℕ) → to_le_bytes w32 (size - 4) ≡ take 4 bytes
    → IsSized limit fill bytes size → nonce ≡ nonce_of (take size bytes) → tag ≡ stored_of (take size bytes)
    → tag_of key nonce aad (take (size - 16 - 16) (drop 16 bytes)) ≡ tag → buffer ≡ gctr key nonce 2 (take (size - 16 - 16) (drop 16 bytes))
    → IsOpened key aad limit fill bytes (put_mid 16 (size - 16 - 16) bytes buffer) (record { length = size - 32; consumed = size; nonce = nonce; tag = tag })
left_open key aad limit fill bytes size nonce tag buffer field sized nonce_is stored_is tag_is text_is =
    let least : 32 ≤ size = sized.least in
    let inside : size ≤ length bytes = sized.inside in
    let (long, text) = text_left key bytes size nonce buffer least inside nonce_is text_is in
    let tags = sym (same_tag key aad bytes size nonce least inside nonce_is) ∙ tag_is ∙ stored_is in
    let front = subst (λ (p : List ℕ). IsGcm key aad p limit (take size bytes)) (sym text) (front_sealed key aad limit fill bytes size field sized tags) in
    record {
      module_at_front = front;
      held = holds fill key aad _ limit bytes size sized.fills front;
      consumed = omega arith;
      inside = inside;
      fills = sized.fills;
      nonce = nonce_is ∙ nonce_part size bytes (omega arith);
      tag = stored_is;
      front_stays = take-put_mid_below 16 (size - 16 - 16) bytes buffer 16 (omega arith) (omega arith);
      rest_stays = drop-put_mid 16 (size - 16 - 16) bytes buffer (16 + (size - 32)) (omega arith) (omega arith) long;
    }

pub left_answer : (key aad : List ℕ) (place : Place) (at limit : ℕ) (fill : Bool) (bytes : List ℕ) (size : ℕ) (nonce tag buffer : List ℕ)
    → gcm_size place at limit fill bytes ≡ Ok size → nonce ≡ nonce_of (take size bytes) → tag ≡ stored_of (take size bytes)
    → tag_of key nonce aad (take (size - 16 - 16) (drop 16 bytes)) ≡ tag → buffer ≡ gctr key nonce 2 (take (size - 16 - 16) (drop 16 bytes))
    → Ok (take (size - 32) (drop 16 (put_mid 16 (size - 16 - 16) bytes buffer))) ≡ opened key aad place at limit fill bytes
left_answer key aad place at limit fill bytes size nonce tag buffer framed nonce_is stored_is tag_is text_is =
    let sized : IsSized limit fill bytes size = sized_is place at limit fill bytes size framed in
    let (long, text) = text_left key bytes size nonce buffer sized.least sized.inside nonce_is text_is in
    let tags = sym (same_tag key aad bytes size nonce sized.least sized.inside nonce_is) ∙ tag_is ∙ stored_is in
    ap Ok text ∙ sym (opened_ok key aad place at limit fill bytes size framed tags)

pub left_refused : (key aad : List ℕ) (place : Place) (at limit : ℕ) (fill : Bool) (bytes : List ℕ) (size : ℕ) (nonce tag expected stored : List ℕ) (refusal : Refusal)
    → gcm_size place at limit fill bytes ≡ Ok size → nonce ≡ nonce_of (take size bytes) → tag ≡ stored_of (take size bytes)
    → (tag_of key nonce aad (take (size - 16 - 16) (drop 16 bytes)) ≡ tag → false ≡ true)
    → expected ≡ tag_of key nonce aad (take (size - 16 - 16) (drop 16 bytes)) → stored ≡ tag → refusal ≡ refusal_at BadTag place at (Tags expected stored)
    → Err refusal ≡ opened key aad place at limit fill bytes
left_refused key aad place at limit fill bytes size nonce tag expected stored refusal framed nonce_is stored_is differ expected_is told_is refusal_is =
    let sized : IsSized limit fill bytes size = sized_is place at limit fill bytes size framed in
    let tags = same_tag key aad bytes size nonce sized.least sized.inside nonce_is in
    ap Err (refusal_is ∙ (λ i. refusal_at BadTag place at (Tags ((expected_is ∙ tags) i) ((told_is ∙ stored_is) i))))
    ∙ sym (opened_bad key aad place at limit fill bytes size framed (λ e. let absent : false ≡ true = differ (tags ∙ e ∙ sym stored_is) in cc))

pub frame_refused : (key aad : List ℕ) (place : Place) (at limit : ℕ) (fill : Bool) (bytes : List ℕ) (refusal : Refusal) → gcm_size place at limit fill bytes ≡ Err refusal
    → opened key aad place at limit fill bytes ≡ Err refusal
frame_refused key aad place at limit fill bytes refusal e = ap (λ r. r >>= (λ size. unsealed_whole key aad place at (take size bytes))) e

pub not_ok : {T E : Type 0} (r : Result T E) (P : Type 0) → IsErr r → (P → false ≡ true) → (IsOk r → P) × (P → IsOk r)
not_ok (Ok x) P e h = cc
not_ok (Err x) P e h = (λ k. cc, h)
