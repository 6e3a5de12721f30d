-- A written module is read back, also if other bytes follow it.
use Rattle.std.proofs.Common.{◌≡◌, ℕ, ◌+◌, ◌≤◌, Bool, true, List, [], ◌++◌, length, take, sym, ap, ◌∙◌, subst, arith, Ok, length-append}
use Rattle.std.proofs.lemmas.List.{take_at}
use Rattle.pme_base.specs.declared.place.Place.{Place}
use Rattle.crypto_module.specs.Modules.{IsGcm, IsCtr, sealed_gcm, sealed_ctr, nonce_of, stored_of}
use Rattle.crypto_module.specs.Opening.{ReadsAsGcm, ReadsAsCtr}
use Rattle.crypto_module.proofs.Sizes.{sized_from, ctr_sized_from}
use Rattle.crypto_module.proofs.Sealed.{parts_of, text_length, sized_if_sealed, opened_if_sealed}
use Rattle.crypto_module.proofs.InPlace.{nonce_part}
use Rattle.crypto_module.proofs.CounterMode.{ctr_parts_of, sized_if_held, opened_if_holds}
use Rattle.crypto_module.proofs.Written.{gcm_of, ctr_of}
use Rattle.gcm_seal.proofs.Texts.{length-gctr}

pub gcm_reads_back : (key aad nonce plain rest : List ℕ) (place : Place) (at limit : ℕ) (fill : Bool) → length nonce ≡ 12 → length plain ≤ limit
    → limit ≤ 268435456 → (fill ≡ true → rest ≡ []) → ReadsAsGcm key aad nonce plain place at limit fill (sealed_gcm key aad nonce plain ++ rest)
gcm_reads_back key aad nonce plain rest place at limit fill twelve within small filled =
    let m = sealed_gcm key aad nonce plain in
    let bytes = m ++ rest in
    let n = 32 + length plain in
    let sealed = gcm_of key aad nonce plain limit twelve within in
    let parts = parts_of key aad plain limit m sealed in
    let long : length m ≡ n = parts.long ∙ ap (λ k. 32 + k) (text_length key aad plain limit m sealed) in
    let front : take n bytes ≡ m = take_at m rest n long in
    let at_front = subst (λ (x : List ℕ). IsGcm key aad plain limit x) (sym front) sealed in
    let fills : fill ≡ true → length bytes ≤ n = λ h. let all = length-append m rest in let none : length rest ≡ 0 = ap length (filled h) in omega arith in
    let size : length (take n bytes) ≡ n = ap length front ∙ long in
    record {
      opens = opened_if_sealed key aad plain place at limit fill bytes n small fills at_front;
      size_is = sized_from place at limit fill bytes (length (take n bytes)) (sized_if_sealed key aad plain limit fill bytes n small fills at_front) ∙ ap Ok size;
      nonce_is = sym (nonce_part n bytes (omega arith)) ∙ ap nonce_of front ∙ parts.nonce_is;
      tag_is = ap stored_of front ∙ parts.stored_is;
    }

pub ctr_reads_back : (key nonce plain rest : List ℕ) (place : Place) (at limit : ℕ) → length nonce ≡ 12 → length plain ≤ limit → limit ≤ 268435456
    → ReadsAsCtr key nonce plain place at limit (sealed_ctr key nonce plain ++ rest)
ctr_reads_back key nonce plain rest place at limit twelve within small =
    let m = sealed_ctr key nonce plain in
    let bytes = m ++ rest in
    let n = 16 + length plain in
    let sealed = ctr_of key nonce plain limit twelve within in
    let parts = ctr_parts_of key plain limit m sealed in
    let long : length m ≡ n = parts.long ∙ ap (λ k. 16 + k) (length-gctr key nonce 1 plain) in
    let front : take n bytes ≡ m = take_at m rest n long in
    let at_front = subst (λ (x : List ℕ). IsCtr key plain limit x) (sym front) sealed in
    let size : length (take n bytes) ≡ n = ap length front ∙ long in
    record {
      opens = opened_if_holds key plain place at limit bytes small (n, at_front);
      size_is = ctr_sized_from place at limit bytes (length (take n bytes)) (sized_if_held key plain limit bytes n small at_front) ∙ ap Ok size;
      nonce_is = sym (nonce_part n bytes (omega arith)) ∙ ap nonce_of front ∙ parts.nonce_is;
    }
