-- Lemmas about a module that is encrypted in place at the end of a Vec.
use Rattle.std.proofs.Common.{◌≡◌, ℕ, ◌+◌, ◌-◌, ◌≤◌, List, [], ◌++◌, length, take, drop, replicate, refl, sym, ap, ◌∙◌, subst, arith, length-append, append_assoc}
use Rattle.std.proofs.lemmas.List.{append-nil, drop_all, drop-drop, take_all, take_at, drop_at, length-take-le, length-drop}
use Rattle.std.proofs.lemmas.Slice.{take-put_mid}
use Rattle.std.specs.Int.{w32, to_le_bytes}
use Rattle.std.specs.List.{slice_range}
use borrow.Rule.Slice.PartMut.{put_mid, post_of}
use Rattle.gcm_seal.specs.Gcm.{gctr, tag_of}
use Rattle.gcm_seal.proofs.Texts.{length-gctr, length-tag_of}
use Rattle.crypto_module.specs.Modules.{IsGcm, IsCtr, parts, sealed_gcm, sealed_ctr, cipher_of}
use Rattle.crypto_module.proofs.Parts.{HasParts, joined}

-- bytes that are overwritten up to the end of a list
last_put : (a k : ℕ) (xs ys : List ℕ) → length xs ≤ a + k → put_mid a k xs ys ≡ take a xs ++ ys
last_put a k xs ys h =
    let none : post_of a k xs ≡ [] = drop-drop k a xs ∙ drop_all (a + k) xs h in
    ap (λ t. take a xs ++ (ys ++ t)) none ∙ ap (λ t. take a xs ++ t) (append-nil ys)

-- the plaintext is encrypted, and then the tag is written after it
pub sealed_there : (key aad nonce buffer ciphered tag : List ℕ) → 32 ≤ length buffer
    → ciphered ≡ gctr key nonce 2 (take (length buffer - 16 - 16) (drop 16 buffer))
    → tag ≡ tag_of key nonce aad (gctr key nonce 2 (take (length buffer - 16 - 16) (drop 16 buffer)))
    → put_mid (length buffer - 16) (length (put_mid 16 (length buffer - 16 - 16) buffer ciphered) - (length buffer - 16)) (put_mid 16 (length buffer - 16 - 16) buffer ciphered) tag
    ≡ take 16 buffer ++ (gctr key nonce 2 (cipher_of buffer) ++ tag_of key nonce aad (gctr key nonce 2 (cipher_of buffer)))
sealed_there key aad nonce buffer ciphered tag whole text_is tag_is =
    let n = length buffer in
    let m = put_mid 16 (n - 16 - 16) buffer ciphered in
    let size : n - 16 - 16 ≡ n - 32 = omega arith in
    let part : take (n - 16 - 16) (drop 16 buffer) ≡ cipher_of buffer = ap (λ k. take k (drop 16 buffer)) size in
    let there : n - 16 - 16 ≤ length (drop 16 buffer) = simp length-drop (omega arith) in
    let long : length ciphered ≡ n - 16 - 16 = ap length text_is ∙ length-gctr key nonce 2 _ ∙ length-take-le (n - 16 - 16) (drop 16 buffer) there in
    let front : take (n - 16) m ≡ take 16 buffer ++ ciphered = take-put_mid 16 (n - 16 - 16) buffer ciphered (n - 16) (omega arith) (omega arith) in
    let texts : ciphered ≡ gctr key nonce 2 (cipher_of buffer) = text_is ∙ ap (gctr key nonce 2) part in
    let tags : tag ≡ tag_of key nonce aad (gctr key nonce 2 (cipher_of buffer)) = tag_is ∙ ap (λ t. tag_of key nonce aad (gctr key nonce 2 t)) part in
    last_put (n - 16) (length m - (n - 16)) m tag (omega arith)
    ∙ ap (λ t. t ++ tag) front
    ∙ append_assoc (take 16 buffer) ciphered tag
    ∙ (λ i. take 16 buffer ++ (texts i ++ tags i))

-- a Vec whose items from s on have been overwritten
overlaid : (n s : ℕ) (xs ys : List ℕ) → length xs ≡ n → s ≤ n → length ys ≡ n - s
    → take n ((take s xs ++ (ys ++ drop (length ys) (drop s xs))) ++ drop (length (take s xs ++ (ys ++ drop (length ys) (drop s xs)))) xs) ≡ take s xs ++ ys
overlaid n s xs ys whole inside long =
    let left = drop (length ys) (drop s xs) in
    let all = take s xs ++ (ys ++ left) in
    let behind = drop (length all) xs in
    let front : length (take s xs ++ ys) ≡ n = length-append (take s xs) ys ∙ (let f : length (take s xs) ≡ s = length-take-le s xs (omega arith) in omega arith) in
    ap (λ w. take n (w ++ behind)) (sym (append_assoc (take s xs) ys left))
    ∙ ap (take n) (append_assoc (take s xs ++ ys) left behind)
    ∙ take_at (take s xs ++ ys) (left ++ behind) n front

-- the part of the Vec from s on
rest_from : (n s : ℕ) (xs : List ℕ) → length xs ≡ n → slice_range xs s n ≡ drop s xs
rest_from n s xs whole = take_all (n - s) (drop s xs) (simp length-drop (omega arith))

-- the length of a GCM module
pub sealed_length : (key aad nonce plain : List ℕ) → length nonce ≡ 12 → length (sealed_gcm key aad nonce plain) ≡ 32 + length plain
sealed_length key aad nonce plain twelve =
    let cipher : List ℕ = gctr key nonce 2 plain in
    let tag : List ℕ = tag_of key nonce aad cipher in
    let has : HasParts (sealed_gcm key aad nonce plain) (to_le_bytes w32 (28 + length cipher)) nonce cipher tag =
    joined (sealed_gcm key aad nonce plain) (to_le_bytes w32 (28 + length cipher)) nonce cipher tag refl refl twelve (length-tag_of key nonce aad cipher) in
    has.long ∙ ap (λ k. 32 + k) (length-gctr key nonce 2 plain)

-- encrypting the plaintext of a CTR module at the end of a Vec
pub ctr_written : (key nonce plain old items text ciphered : List ℕ) (n s : ℕ) → length items ≡ n → length nonce ≡ 12
    → items ≡ old ++ parts nonce plain [] → s ≡ n - length plain
    → text ≡ slice_range items s n → ciphered ≡ gctr key nonce 1 text
    → take n ((take s items ++ (ciphered ++ drop (length ciphered) (drop s items)))
    ++ drop (length (take s items ++ (ciphered ++ drop (length ciphered) (drop s items)))) items)
    ≡ old ++ sealed_ctr key nonce plain
ctr_written key nonce plain old items text ciphered n s whole twelve laid begun lent written =
    let head = to_le_bytes w32 (12 + length plain + 0) in
    let front = old ++ (head ++ nonce) in
    let parted : items ≡ front ++ plain =
    laid ∙ ap (λ t. old ++ (head ++ (nonce ++ t))) (append-nil plain) ∙ ap (λ t. old ++ t) (sym (append_assoc head nonce plain)) ∙ sym (append_assoc old (head ++ nonce) plain) in
    let size : n ≡ length front + length plain = sym whole ∙ ap length parted ∙ length-append front plain in
    let long : length front ≡ s = omega arith in
    let texts : text ≡ plain = lent ∙ rest_from n s items whole ∙ ap (drop s) parted ∙ drop_at front plain s long in
    let ciphers : ciphered ≡ gctr key nonce 1 plain = written ∙ ap (gctr key nonce 1) texts in
    let same : length (gctr key nonce 1 plain) ≡ length plain = length-gctr key nonce 1 plain in
    let counted : 12 + length plain + 0 ≡ 12 + length (gctr key nonce 1 plain) = omega arith in
    let all : length plain ≡ n - s = omega arith in
    overlaid n s items ciphered whole (omega arith) (ap length ciphers ∙ same ∙ all)
    ∙ (λ i. (ap (take s) parted ∙ take_at front plain s long) i ++ ciphers i)
    ∙ append_assoc old (head ++ nonce) (gctr key nonce 1 plain)
    ∙ ap (λ t. old ++ t) (append_assoc head nonce (gctr key nonce 1 plain))
    ∙ ap (λ c. old ++ (to_le_bytes w32 c ++ (nonce ++ gctr key nonce 1 plain))) counted

-- a module before its encryption
pub laid_parts : (nonce plain : List ℕ) (m : List ℕ) → length nonce ≡ 12 → m ≡ parts nonce plain (replicate 16 0)
    → HasParts m (to_le_bytes w32 (12 + length plain + 16)) nonce plain (replicate 16 0)
laid_parts nonce plain m twelve laid = joined m (to_le_bytes w32 (12 + length plain + 16)) nonce plain (replicate 16 0) laid refl twelve refl

-- the slice of the Vec that holds such a module at its end
pub lent_parts : (nonce plain old items lent : List ℕ) (n s : ℕ) → length items ≡ n → length old ≡ s → items ≡ old ++ parts nonce plain (replicate 16 0)
    → lent ≡ slice_range items s n → lent ≡ parts nonce plain (replicate 16 0)
lent_parts nonce plain old items lent n s whole begun laid lent_is =
    lent_is ∙ rest_from n s items whole ∙ ap (drop s) laid ∙ drop_at old _ s begun

-- encrypting a GCM module at the end of a Vec
pub gcm_written : (key aad nonce plain old items before after : List ℕ) (n s : ℕ) → length items ≡ n → length old ≡ s → length nonce ≡ 12
    → items ≡ old ++ parts nonce plain (replicate 16 0) → before ≡ slice_range items s n
    → after ≡ take 16 before ++ (gctr key nonce 2 (cipher_of before) ++ tag_of key nonce aad (gctr key nonce 2 (cipher_of before)))
    → take n ((take s items ++ (after ++ drop (length after) (drop s items)))
    ++ drop (length (take s items ++ (after ++ drop (length after) (drop s items)))) items)
    ≡ old ++ sealed_gcm key aad nonce plain
gcm_written key aad nonce plain old items before after n s whole begun twelve laid lent written =
    let head = to_le_bytes w32 (12 + length plain + 16) in
    let zeros : List ℕ = replicate 16 0 in
    let there : before ≡ parts nonce plain zeros = lent_parts nonce plain old items before n s whole begun laid lent in
    let has : HasParts before head nonce plain zeros = laid_parts nonce plain before twelve there in
    let sixteen : length (head ++ nonce) ≡ 16 = length-append head nonce ∙ ap (λ k. 4 + k) twelve in
    let front : take 16 before ≡ head ++ nonce = ap (take 16) (there ∙ sym (append_assoc head nonce (plain ++ zeros))) ∙ take_at (head ++ nonce) (plain ++ zeros) 16 sixteen in
    let cipher : List ℕ = gctr key nonce 2 plain in
    let tag : List ℕ = tag_of key nonce aad cipher in
    let texts : gctr key nonce 2 (cipher_of before) ≡ cipher = ap (gctr key nonce 2) has.cipher_is in
    let same : length cipher ≡ length plain = length-gctr key nonce 2 plain in
    let counted : 12 + length plain + 16 ≡ 28 + length cipher = omega arith in
    let sealed : after ≡ sealed_gcm key aad nonce plain =
    written ∙ (λ i. front i ++ (texts i ++ tag_of key nonce aad (texts i))) ∙ append_assoc head nonce (cipher ++ tag) ∙ ap (λ c. to_le_bytes w32 c ++ (nonce ++ (cipher ++ tag))) counted in
    let size : n ≡ length old + length before = sym whole ∙ ap length (laid ∙ ap (λ t. old ++ t) (sym there)) ∙ length-append old before in
    let long : length before ≡ 32 + length plain = has.long in
    let all : 32 + length plain ≡ n - s = omega arith in
    overlaid n s items after whole (omega arith) (ap length sealed ∙ sealed_length key aad nonce plain twelve ∙ all)
    ∙ (λ i. (ap (take s) laid ∙ take_at old _ s begun) i ++ sealed i)

-- the appended bytes are a module
abbrev pub gcm_of : (key aad nonce plain : List ℕ) (limit : ℕ) → length nonce ≡ 12 → length plain ≤ limit → IsGcm key aad plain limit (sealed_gcm key aad nonce plain)
gcm_of key aad nonce plain limit twelve within =
    record { nonce = nonce; nonce_length = twelve; cipher = gctr key nonce 2 plain; within = within; encrypted = refl; layout = refl }

abbrev pub ctr_of : (key nonce plain : List ℕ) (limit : ℕ) → length nonce ≡ 12 → length plain ≤ limit → IsCtr key plain limit (sealed_ctr key nonce plain)
ctr_of key nonce plain limit twelve within =
    record { nonce = nonce; nonce_length = twelve; cipher = gctr key nonce 1 plain; within = within; encrypted = refl; layout = refl }

pub gcm_added : (key aad nonce plain old now : List ℕ) (limit : ℕ) → length nonce ≡ 12 → length plain ≤ limit → now ≡ old ++ sealed_gcm key aad nonce plain
    → IsGcm key aad plain limit (drop (length old) now)
gcm_added key aad nonce plain old now limit twelve within added =
    let tail : drop (length old) now ≡ sealed_gcm key aad nonce plain = ap (drop (length old)) added ∙ drop_at old _ (length old) refl in
    subst (λ (m : List ℕ). IsGcm key aad plain limit m) (sym tail) (gcm_of key aad nonce plain limit twelve within)

pub ctr_added : (key nonce plain old now : List ℕ) (limit : ℕ) → length nonce ≡ 12 → length plain ≤ limit → now ≡ old ++ sealed_ctr key nonce plain
    → IsCtr key plain limit (drop (length old) now)
ctr_added key nonce plain old now limit twelve within added =
    let tail : drop (length old) now ≡ sealed_ctr key nonce plain = ap (drop (length old)) added ∙ drop_at old _ (length old) refl in
    subst (λ (m : List ℕ). IsCtr key plain limit m) (sym tail) (ctr_of key nonce plain limit twelve within)
