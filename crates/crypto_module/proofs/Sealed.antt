-- Bytes decrypt to a plaintext if and only if they hold a GCM module of it.
use Rattle.std.proofs.Common.{◌≡◌, ℕ, zero, suc, lit<, ◌+◌, ◌-◌, ◌^◌, ◌≤◌, ◌<◌, Bool, true, false, min, List, [], ◌∷◌, ◌++◌, length, take, drop, refl, sym, ap, ◌∙◌, subst, arith, Ok}
use Rattle.std.proofs.lemmas.List.{take_all, take_min, take-take, length-take, length-take-le, length-drop}
use Rattle.std.proofs.lemmas.Nat.{le_bytes_4, from_le_bytes-to_le_bytes_4}
use Rattle.std.proofs.lemmas.Slice.Eq.{bytes_eq-Decides}
use Rattle.std.specs.Int.{w32, to_le_bytes, from_le_bytes}
use Rattle.std.specs.Str.{bytes_eq}
use Rattle.pme_base.specs.declared.place.Place.{Place}
use Rattle.pme_base.specs.Steps.{◌>>=◌}
use Rattle.pme_base.proofs.Chain.{bind_ok, tested, when_true}
use Rattle.gcm_seal.specs.Gcm.{gctr, tag_of}
use Rattle.gcm_seal.proofs.Texts.{length-gctr, length-tag_of, gctr_twice}
use Rattle.crypto_module.specs.Frames.{gcm_size}
use Rattle.crypto_module.specs.Modules.{IsGcm, HoldsGcm, nonce_of, cipher_of, stored_of}
use Rattle.crypto_module.specs.Opening.{unsealed, unsealed_whole, opened, AreBytes}
use Rattle.crypto_module.proofs.Parts.{cut, HasParts, joined}
use Rattle.crypto_module.proofs.Sizes.{IsSized, sized_is, sized_from}

pub same_bytes : (xs : List ℕ) → bytes_eq xs xs ≡ true
same_bytes xs = (bytes_eq-Decides xs xs).1 refl

pub take_length : (n : ℕ) (xs : List ℕ) → take (length (take n xs)) xs ≡ take n xs
take_length n xs = ap (λ k. take k xs) (length-take n xs) ∙ take_min n xs

pub below_take : (n : ℕ) (xs : List ℕ) → AreBytes xs → AreBytes (take n xs)
below_take zero xs h i = lit< tt
below_take (suc n) [] h i = lit< tt
below_take (suc n) (x ∷ xs) h zero = h zero
below_take (suc n) (x ∷ xs) h (suc i) = below_take n xs (λ j. h (suc j)) i

-- bytes with the right length field and tag are a module
pub module_from : (key aad m : List ℕ) (limit : ℕ) → 32 ≤ length m → length m ≤ limit + 32 → to_le_bytes w32 (length m - 4) ≡ take 4 m
    → tag_of key (nonce_of m) aad (cipher_of m) ≡ stored_of m → IsGcm key aad (gctr key (nonce_of m) 2 (cipher_of m)) limit m
module_from key aad m limit least limited field tag_is =
    let behind : 12 ≤ length (drop 4 m) = simp length-drop (omega arith) in
    let text : length m - 32 ≤ length (drop 16 m) = simp length-drop (omega arith) in
    let cipher_length : length (cipher_of m) ≡ length m - 32 = length-take-le (length m - 32) (drop 16 m) text in
    let counted : length m - 4 ≡ 28 + length (cipher_of m) = omega arith in
    record {
      nonce = nonce_of m;
      nonce_length = length-take-le 12 (drop 4 m) behind;
      cipher = cipher_of m;
      within = omega (arith, length-gctr key (nonce_of m) 2 (cipher_of m));
      encrypted = sym (gctr_twice key (nonce_of m) 2 (cipher_of m));
      layout = cut m least ∙ (λ i. (sym field ∙ ap (to_le_bytes w32) counted) i ++ (nonce_of m ++ (cipher_of m ++ sym tag_is i)));
    }

pub holds : (fill : Bool) (key aad plain : List ℕ) (limit : ℕ) (bytes : List ℕ) (size : ℕ) → (fill ≡ true → size ≡ length bytes)
    → IsGcm key aad plain limit (take size bytes) → HoldsGcm fill key aad plain limit bytes
holds true key aad plain limit bytes size fills s =
    let all : size ≡ length bytes = fills refl in
    subst (λ (m : List ℕ). IsGcm key aad plain limit m) (take_all size bytes (omega arith)) s
holds false key aad plain limit bytes size fills s = (size, s)

-- the length field is the little-endian encoding of the size that was read from it
field_is : (limit : ℕ) (fill : Bool) (bytes : List ℕ) (size : ℕ) → AreBytes bytes → IsSized limit fill bytes size → to_le_bytes w32 (size - 4) ≡ take 4 bytes
field_is limit fill bytes size each sized =
    let four : length (take 4 bytes) ≡ 4 = length-take-le 4 bytes (omega (arith, sized.least, sized.inside)) in
    le_bytes_4 (take 4 bytes) (size - 4) four (below_take 4 bytes each) (sym sized.counted)

-- the first `size` bytes are a module if their tag is right
pub front_sealed : (key aad : List ℕ) (limit : ℕ) (fill : Bool) (bytes : List ℕ) (size : ℕ) → to_le_bytes w32 (size - 4) ≡ take 4 bytes → IsSized limit fill bytes size
    → tag_of key (nonce_of (take size bytes)) aad (cipher_of (take size bytes)) ≡ stored_of (take size bytes)
    → IsGcm key aad (gctr key (nonce_of (take size bytes)) 2 (cipher_of (take size bytes))) limit (take size bytes)
front_sealed key aad limit fill bytes size field sized tag_is =
    let m = take size bytes in
    let long : length m ≡ size = length-take-le size bytes sized.inside in
    let front : take 4 m ≡ take 4 bytes = take-take 4 size bytes (omega (arith, sized.least)) in
    module_from key aad m limit (omega (arith, sized.least)) (omega (arith, sized.limited)) (ap (λ k. to_le_bytes w32 (k - 4)) long ∙ field ∙ sym front) tag_is

pub sealed_if_opened : (key aad plain : List ℕ) (place : Place) (at limit : ℕ) (fill : Bool) (bytes : List ℕ) → AreBytes bytes
    → opened key aad place at limit fill bytes ≡ Ok plain → HoldsGcm fill key aad plain limit bytes
sealed_if_opened key aad plain place at limit fill bytes each e =
    let (size, framed, opens) = bind_ok (gcm_size place at limit fill bytes) (λ s. unsealed_whole key aad place at (take s bytes)) plain e in
    let m = take size bytes in
    let sized : IsSized limit fill bytes size = sized_is place at limit fill bytes size framed in
    let same = bytes_eq (tag_of key (nonce_of m) aad (cipher_of m)) (stored_of m) in
    let (tag_same, plain_is) = tested same (gctr key (nonce_of m) 2 (cipher_of m)) plain _ opens in
    let tag_is = (bytes_eq-Decides (tag_of key (nonce_of m) aad (cipher_of m)) (stored_of m)).0 tag_same in
    holds fill key aad plain limit bytes size sized.fills
    (subst (λ (p : List ℕ). IsGcm key aad p limit m) plain_is (front_sealed key aad limit fill bytes size (field_is limit fill bytes size each sized) sized tag_is))

-- the size and the parts of a module at the front of other bytes
pub parts_of : (key aad plain : List ℕ) (limit : ℕ) (m : List ℕ) → (s : IsGcm key aad plain limit m)
    → HasParts m (to_le_bytes w32 (28 + length s.cipher)) s.nonce s.cipher (tag_of key s.nonce aad s.cipher)
parts_of key aad plain limit m s =
    joined m (to_le_bytes w32 (28 + length s.cipher)) s.nonce s.cipher (tag_of key s.nonce aad s.cipher) s.layout refl s.nonce_length (length-tag_of key s.nonce aad s.cipher)

pub text_length : (key aad plain : List ℕ) (limit : ℕ) (m : List ℕ) → (s : IsGcm key aad plain limit m) → length s.cipher ≡ length plain
text_length key aad plain limit m s = ap length s.encrypted ∙ length-gctr key s.nonce 2 plain

pub sized_if_sealed : (key aad plain : List ℕ) (limit : ℕ) (fill : Bool) (bytes : List ℕ) (n : ℕ) → limit ≤ 268435456
    → (fill ≡ true → length bytes ≤ n) → IsGcm key aad plain limit (take n bytes) → IsSized limit fill bytes (length (take n bytes))
sized_if_sealed key aad plain limit fill bytes n small fills s =
    let m = take n bytes in
    let parts = parts_of key aad plain limit m s in
    let text : length s.cipher ≡ length plain = text_length key aad plain limit m s in
    let there : length m ≡ min n (length bytes) = length-take n bytes in
    let fits : 28 + length s.cipher < 2 ^ 32 = omega (arith, s.within) in
    let four : 4 ≤ n = omega (arith, parts.long) in
    let counted : from_le_bytes w32 (take 4 bytes) ≡ length m - 4 =
    ap (from_le_bytes w32) (sym (take-take 4 n bytes four) ∙ parts.head_is) ∙ from_le_bytes-to_le_bytes_4 (28 + length s.cipher) fits ∙ (let k : 28 + length s.cipher ≡ length m - 4 = omega (arith, parts.long) in k) in
    record {
      least = omega (arith, parts.long);
      limited = omega (arith, parts.long, s.within);
      inside = omega arith;
      fills = λ h. let all : length bytes ≤ n = fills h in omega arith;
      counted = counted;
    }

-- a module at the front of other bytes decrypts to its plaintext
pub opened_if_sealed : (key aad plain : List ℕ) (place : Place) (at limit : ℕ) (fill : Bool) (bytes : List ℕ) (n : ℕ) → limit ≤ 268435456
    → (fill ≡ true → length bytes ≤ n) → IsGcm key aad plain limit (take n bytes) → opened key aad place at limit fill bytes ≡ Ok plain
opened_if_sealed key aad plain place at limit fill bytes n small fills s =
    let m = take n bytes in
    let parts = parts_of key aad plain limit m s in
    let framed : gcm_size place at limit fill bytes ≡ Ok (length m) =
    sized_from place at limit fill bytes (length m) (sized_if_sealed key aad plain limit fill bytes n small fills s) in
    let plain_is : gctr key s.nonce 2 s.cipher ≡ plain = ap (gctr key s.nonce 2) s.encrypted ∙ gctr_twice key s.nonce 2 plain in
    ap (λ r. r >>= (λ size. unsealed_whole key aad place at (take size bytes))) framed
    ∙ ap (unsealed_whole key aad place at) (take_length n bytes)
    ∙ (λ i. unsealed key aad place at (parts.nonce_is i) (parts.cipher_is i) (parts.stored_is i))
    ∙ when_true (bytes_eq (tag_of key s.nonce aad s.cipher) (tag_of key s.nonce aad s.cipher)) (Ok (gctr key s.nonce 2 s.cipher)) _ (same_bytes (tag_of key s.nonce aad s.cipher))
    ∙ ap Ok plain_is

-- bytes that hold a module (`HoldsGcm`) decrypt to its plaintext
pub opened_if_held : (key aad plain : List ℕ) (place : Place) (at limit : ℕ) (fill : Bool) (bytes : List ℕ) → limit ≤ 268435456
    → HoldsGcm fill key aad plain limit bytes → opened key aad place at limit fill bytes ≡ Ok plain
opened_if_held key aad plain place at limit true bytes small s =
    let all : length bytes ≤ length bytes = omega arith in
    opened_if_sealed key aad plain place at limit true bytes (length bytes) small (λ _. all)
    (subst (λ (m : List ℕ). IsGcm key aad plain limit m) (sym (take_all (length bytes) bytes all)) s)
opened_if_held key aad plain place at limit false bytes small s =
    opened_if_sealed key aad plain place at limit false bytes s.0 small (λ e. cc) s.1
