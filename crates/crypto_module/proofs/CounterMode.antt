-- CTR modules: bytes decrypt to a plaintext if and only if they hold a CTR module of it, and the buffer after a decryption.
use Rattle.std.proofs.Common.{◌≡◌, ℕ, ◌+◌, ◌-◌, ◌^◌, ◌≤◌, ◌<◌, false, true, min, List, ◌++◌, length, take, drop, replicate, refl, sym, ap, ◌∙◌, subst, arith, Result, Ok, Err, length-append}
use Rattle.std.proofs.lemmas.List.{take-append-drop, drop-drop, drop-take, take_at, drop_at, take-take, length-take, length-take-le, length-drop}
use Rattle.std.proofs.lemmas.Nat.{le_bytes_4, from_le_bytes-to_le_bytes_4}
use Rattle.std.proofs.lemmas.Slice.{between-put_mid, take-put_mid_below, drop-put_mid}
use Rattle.std.specs.Int.{w32, to_le_bytes, from_le_bytes}
use borrow.Rule.Slice.PartMut.{put_mid}
use Rattle.pme_base.specs.declared.place.Place.{Place}
use Rattle.pme_base.specs.declared.refusal.Refusal.{Refusal}
use Rattle.pme_base.specs.Steps.{◌>>=◌}
use Rattle.gcm_seal.specs.Gcm.{gctr}
use Rattle.gcm_seal.proofs.Texts.{length-gctr, gctr_twice}
use Rattle.crypto_module.specs.Frames.{ctr_size}
use Rattle.crypto_module.specs.Modules.{IsCtr, HoldsCtr, nonce_of, ctr_cipher_of}
use Rattle.crypto_module.specs.Opening.{opened_ctr, IsCtrOpened, AreBytes}
use Rattle.crypto_module.proofs.Sizes.{IsCtrSized, ctr_sized_is, ctr_sized_from}
use Rattle.pme_base.proofs.Chain.{bind_ok}
use Rattle.crypto_module.proofs.Sealed.{take_length, below_take}
use Rattle.crypto_module.proofs.InPlace.{nonce_part}

ctr_cut : (m : List ℕ) → m ≡ take 4 m ++ (nonce_of m ++ ctr_cipher_of m)
ctr_cut m =
    let middle : drop 4 m ≡ nonce_of m ++ drop 16 m = sym (take-append-drop 12 (drop 4 m)) ∙ ap (λ t. nonce_of m ++ t) (drop-drop 12 4 m) in
    sym (take-append-drop 4 m) ∙ ap (λ t. take 4 m ++ t) middle

pub record HasCtrParts (m head nonce cipher : List ℕ) : Type 0 where
  pub long : length m ≡ 16 + length cipher
  pub head_is : take 4 m ≡ head
  pub nonce_is : nonce_of m ≡ nonce
  pub cipher_is : ctr_cipher_of m ≡ cipher

pub ctr_joined : (m head nonce cipher : List ℕ) → m ≡ head ++ (nonce ++ cipher) → length head ≡ 4 → length nonce ≡ 12 → HasCtrParts m head nonce cipher
ctr_joined m head nonce cipher e four twelve =
    let after_head : drop 4 m ≡ nonce ++ cipher = ap (drop 4) e ∙ drop_at head _ 4 four in
    record {
      long = omega (arith, ap length e, length-append head (nonce ++ cipher), length-append nonce cipher);
      head_is = ap (take 4) e ∙ take_at head _ 4 four;
      nonce_is = ap (take 12) after_head ∙ take_at nonce _ 12 twelve;
      cipher_is = sym (drop-drop 12 4 m) ∙ ap (drop 12) after_head ∙ drop_at nonce _ 12 twelve;
    }

pub ctr_parts_of : (key plain : List ℕ) (limit : ℕ) (m : List ℕ) → (s : IsCtr key plain limit m) → HasCtrParts m (to_le_bytes w32 (12 + length s.cipher)) s.nonce s.cipher
ctr_parts_of key plain limit m s = ctr_joined m (to_le_bytes w32 (12 + length s.cipher)) s.nonce s.cipher s.layout refl s.nonce_length

-- bytes with the right length field are a CTR module
ctr_module_from : (key : List ℕ) (limit : ℕ) (bytes : List ℕ) (size : ℕ) → to_le_bytes w32 (size - 4) ≡ take 4 bytes → IsCtrSized limit bytes size
    → IsCtr key (gctr key (nonce_of bytes) 1 (ctr_cipher_of (take size bytes))) limit (take size bytes)
ctr_module_from key limit bytes size field sized =
    let m = take size bytes in
    let least : 16 ≤ size = sized.least in
    let limited : size ≤ limit + 16 = sized.limited in
    let long : length m ≡ size = length-take-le size bytes sized.inside in
    let nonce_is : nonce_of m ≡ nonce_of bytes = nonce_part size bytes least in
    let behind : 12 ≤ length (drop 4 m) = simp length-drop (omega arith) in
    let text : length (ctr_cipher_of m) ≡ size - 16 = simp length-drop (omega arith) in
    let counted : size - 4 ≡ 12 + length (ctr_cipher_of m) = omega arith in
    let front : take 4 m ≡ take 4 bytes = take-take 4 size bytes (omega arith) in
    record {
      nonce = nonce_of bytes;
      nonce_length = ap length (sym nonce_is) ∙ length-take-le 12 (drop 4 m) behind;
      cipher = ctr_cipher_of m;
      within = omega (arith, length-gctr key (nonce_of bytes) 1 (ctr_cipher_of m));
      encrypted = sym (gctr_twice key (nonce_of bytes) 1 (ctr_cipher_of m));
      layout = ctr_cut m ∙ (λ i. (front ∙ sym field ∙ ap (to_le_bytes w32) counted) i ++ (nonce_is i ++ ctr_cipher_of m));
    }

pub opened_ctr_ok : (key : List ℕ) (place : Place) (at limit : ℕ) (bytes : List ℕ) (size : ℕ) → ctr_size place at limit bytes ≡ Ok size
    → opened_ctr key place at limit bytes ≡ Ok (gctr key (nonce_of bytes) 1 (ctr_cipher_of (take size bytes)))
opened_ctr_ok key place at limit bytes size framed = ap (λ r. r >>= (λ size. Ok (gctr key (nonce_of bytes) 1 (ctr_cipher_of (take size bytes))))) framed

pub held_if_opened : (key plain : List ℕ) (place : Place) (at limit : ℕ) (bytes : List ℕ) → AreBytes bytes
    → opened_ctr key place at limit bytes ≡ Ok plain → HoldsCtr key plain limit bytes
held_if_opened key plain place at limit bytes each e =
    let text = λ (size : ℕ). gctr key (nonce_of bytes) 1 (ctr_cipher_of (take size bytes)) in
    let (size, framed, opens) = bind_ok (ctr_size place at limit bytes) (λ s. Ok (text s)) plain e in
    let sized : IsCtrSized limit bytes size = ctr_sized_is place at limit bytes size framed in
    let four : length (take 4 bytes) ≡ 4 = length-take-le 4 bytes (omega (arith, sized.least, sized.inside)) in
    let field = le_bytes_4 (take 4 bytes) (size - 4) four (below_take 4 bytes each) (sym sized.counted) in
    let plain_is : text size ≡ plain = cc in
    (size, subst (λ (p : List ℕ). IsCtr key p limit (take size bytes)) plain_is (ctr_module_from key limit bytes size field sized))

pub sized_if_held : (key plain : List ℕ) (limit : ℕ) (bytes : List ℕ) (n : ℕ) → limit ≤ 268435456 → IsCtr key plain limit (take n bytes)
    → IsCtrSized limit bytes (length (take n bytes))
sized_if_held key plain limit bytes n small s =
    let m = take n bytes in
    let parts = ctr_parts_of key plain limit m s in
    let text : length s.cipher ≡ length plain = ap length s.encrypted ∙ length-gctr key s.nonce 1 plain in
    let there : length m ≡ min n (length bytes) = length-take n bytes in
    let fits : 12 + length s.cipher < 2 ^ 32 = omega (arith, s.within) in
    let four : 4 ≤ n = omega (arith, parts.long) in
    let size : 12 + length s.cipher ≡ length m - 4 = omega (arith, parts.long) in
    record {
      least = omega (arith, parts.long);
      limited = omega (arith, parts.long, s.within);
      inside = omega arith;
      counted = ap (from_le_bytes w32) (sym (take-take 4 n bytes four) ∙ parts.head_is) ∙ from_le_bytes-to_le_bytes_4 (12 + length s.cipher) fits ∙ size;
    }

pub opened_if_holds : (key plain : List ℕ) (place : Place) (at limit : ℕ) (bytes : List ℕ) → limit ≤ 268435456
    → HoldsCtr key plain limit bytes → opened_ctr key place at limit bytes ≡ Ok plain
opened_if_holds key plain place at limit bytes small (n, s) =
    let m = take n bytes in
    let parts = ctr_parts_of key plain limit m s in
    let there : length m ≡ min n (length bytes) = length-take n bytes in
    let framed : ctr_size place at limit bytes ≡ Ok (length m) =
    ctr_sized_from place at limit bytes (length m) (sized_if_held key plain limit bytes n small s) in
    let nonce_is : nonce_of bytes ≡ s.nonce = sym (nonce_part n bytes (omega (arith, parts.long))) ∙ parts.nonce_is in
    let cipher_is : ctr_cipher_of (take (length m) bytes) ≡ s.cipher = ap ctr_cipher_of (take_length n bytes) ∙ parts.cipher_is in
    opened_ctr_ok key place at limit bytes (length m) framed
    ∙ (λ i. Ok (gctr key (nonce_is i) 1 (cipher_is i)))
    ∙ ap (λ t. Ok (gctr key s.nonce 1 t)) s.encrypted
    ∙ ap Ok (gctr_twice key s.nonce 1 plain)

-- if the call fails, the bytes hold no module
pub ctr_none_held : (key : List ℕ) (place : Place) (at limit : ℕ) (bytes : List ℕ) (refusal : Refusal) → limit ≤ 268435456
    → ctr_size place at limit bytes ≡ Err refusal → (plain : List ℕ) → HoldsCtr key plain limit bytes → false ≡ true
ctr_none_held key place at limit bytes refusal small refused plain held =
    let opens = opened_if_holds key plain place at limit bytes small held in
    let e : opened_ctr key place at limit bytes ≡ Err refusal = ap (λ r. r >>= (λ size. Ok (gctr key (nonce_of bytes) 1 (ctr_cipher_of (take size bytes))))) refused in
    cc

-- the plaintext in the buffer after the call
ctr_text_left : (key bytes : List ℕ) (size : ℕ) (nonce buffer : List ℕ) → 16 ≤ size → size ≤ length bytes → nonce ≡ nonce_of bytes
    → buffer ≡ gctr key nonce 1 (take (size - 16) (drop 16 bytes))
    → (length buffer ≡ size - 16)
    × (take (size - 16) (drop 16 (put_mid 16 (size - 16) bytes buffer)) ≡ gctr key (nonce_of bytes) 1 (ctr_cipher_of (take size bytes)))
ctr_text_left key bytes size nonce buffer least inside nonce_is text_is =
    let there : size - 16 ≤ length (drop 16 bytes) = simp length-drop (omega arith) in
    let long : length buffer ≡ size - 16 = ap length text_is ∙ length-gctr key nonce 1 _ ∙ length-take-le (size - 16) (drop 16 bytes) there in
    let whole : size ≡ 16 + (size - 16) = omega arith in
    let part : take (size - 16) (drop 16 bytes) ≡ ctr_cipher_of (take size bytes) = sym (ap (λ k. drop 16 (take k bytes)) whole ∙ drop-take 16 (size - 16) bytes) in
    (long, between-put_mid 16 (size - 16) bytes buffer size (omega arith) long ∙ text_is ∙ (λ i. gctr key (nonce_is i) 1 (part i)))

pub ctr_left_answer : (key : List ℕ) (place : Place) (at limit : ℕ) (bytes : List ℕ) (size : ℕ) (nonce buffer : List ℕ) → ctr_size place at limit bytes ≡ Ok size
    → nonce ≡ nonce_of bytes → buffer ≡ gctr key nonce 1 (take (size - 16) (drop 16 bytes))
    → ◌≡◌ {A = Result (List ℕ) Refusal} (Ok (take (size - 16) (drop 16 (put_mid 16 (size - 16) bytes buffer)))) (opened_ctr key place at limit bytes)
ctr_left_answer key place at limit bytes size nonce buffer framed nonce_is text_is =
    let sized : IsCtrSized limit bytes size = ctr_sized_is place at limit bytes size framed in
    ap Ok (ctr_text_left key bytes size nonce buffer sized.least sized.inside nonce_is text_is).1 ∙ sym (opened_ctr_ok key place at limit bytes size framed)

pub ctr_left_open : (key : List ℕ) (limit : ℕ) (bytes : List ℕ) (size : ℕ) (nonce buffer : List ℕ) → to_le_bytes w32 (size - 4) ≡ take 4 bytes
    → IsCtrSized limit bytes size → nonce ≡ nonce_of bytes → buffer ≡ gctr key nonce 1 (take (size - 16) (drop 16 bytes))
    → IsCtrOpened key limit bytes (put_mid 16 (size - 16) bytes buffer) (record { length = size - 16; consumed = size; nonce = nonce; tag = replicate 16 0 })
ctr_left_open key limit bytes size nonce buffer field sized nonce_is text_is =
    let least : 16 ≤ size = sized.least in
    let inside : size ≤ length bytes = sized.inside in
    let (long, text) = ctr_text_left key bytes size nonce buffer least inside nonce_is text_is in
    record {
      module_at_front = subst (λ (p : List ℕ). IsCtr key p limit (take size bytes)) (sym text) (ctr_module_from key limit bytes size field sized);
      consumed = omega arith;
      inside = inside;
      nonce = nonce_is;
      tag = refl;
      front_stays = take-put_mid_below 16 (size - 16) bytes buffer 16 (omega arith) (omega arith);
      rest_stays = drop-put_mid 16 (size - 16) bytes buffer (16 + (size - 16)) (omega arith) (omega arith) long;
    }
