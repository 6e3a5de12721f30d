-- The result of decrypting a module: its plaintext or the error.
use Rattle.std.specs.Prelude.{◌≡◌, ℕ, ◌+◌, ◌≤◌, ◌↔◌, Bool, true, if◌then◌else◌, List, [], ◌++◌, length, take, drop, replicate, Result, Ok, Err}
use Rattle.std.specs.Str.{bytes_eq}
use Rattle.pme_base.specs.declared.limits.TheConstants.{MODULE_LIMIT}
use Rattle.gcm_seal.specs.Gcm.{gctr, tag_of}
use Rattle.pme_base.specs.declared.place.Place.{Place}
use Rattle.pme_base.specs.declared.refusal.Cause.TheVariants.{BadTag}
use Rattle.pme_base.specs.declared.refusal.Detail.TheVariants.{Tags}
use Rattle.pme_base.specs.declared.refusal.Refusal.{Refusal}
use Rattle.pme_base.specs.Refusals.{refusal_at}
pub use Rattle.pme_base.specs.Outside.{AreBytes}
use Rattle.pme_base.specs.Steps.{◌>>=◌}
use Rattle.crypto_module.specs.declared.gcm_module.OpenModule.{OpenModule}
use Rattle.crypto_module.specs.Frames.{gcm_size, ctr_size}
use Rattle.crypto_module.specs.Modules.{IsGcm, HoldsGcm, IsCtr, HoldsCtr, sealed_gcm, sealed_ctr, nonce_of, cipher_of, ctr_cipher_of, stored_of}

-- the plaintext of a ciphertext, or BadTag if the computed tag differs from the stored one
abbrev pub unsealed : List ℕ → List ℕ → Place → ℕ → List ℕ → List ℕ → List ℕ → Result (List ℕ) Refusal
unsealed key aad place at nonce cipher stored =
    if bytes_eq (tag_of key nonce aad cipher) stored
    then Ok (gctr key nonce 2 cipher)
    else Err (refusal_at BadTag place at (Tags (tag_of key nonce aad cipher) stored))

-- the plaintext of these bytes, which are a whole GCM module
abbrev pub unsealed_whole : List ℕ → List ℕ → Place → ℕ → List ℕ → Result (List ℕ) Refusal
unsealed_whole key aad place at bytes = unsealed key aad place at (nonce_of bytes) (cipher_of bytes) (stored_of bytes)

-- the plaintext of the GCM module at the front of these bytes; with `fill` it must take up all of them
abbrev pub opened : List ℕ → List ℕ → Place → ℕ → ℕ → Bool → List ℕ → Result (List ℕ) Refusal
opened key aad place at limit fill bytes =
    gcm_size place at limit fill bytes >>= (λ size. unsealed_whole key aad place at (take size bytes))

-- the plaintext of the CTR module at the front of these bytes
abbrev pub opened_ctr : List ℕ → Place → ℕ → ℕ → List ℕ → Result (List ℕ) Refusal
opened_ctr key place at limit bytes =
    ctr_size place at limit bytes >>= (λ size. Ok (gctr key (nonce_of bytes) 1 (ctr_cipher_of (take size bytes))))

-- the plaintext that a call has left in the buffer, or its error
abbrev pub left_by : Result OpenModule Refusal → List ℕ → Result (List ℕ) Refusal
left_by (Ok open_module) buffer = Ok (take open_module.length (drop 16 buffer))
left_by (Err refusal) buffer = Err refusal

-- the guarantees of a call that has decrypted a GCM module in place, over the bytes before and after
pub record IsOpened (key aad : List ℕ) (limit : ℕ) (fill : Bool) (before after : List ℕ) (open_module : OpenModule) : Type 0 where
  pub module_at_front : IsGcm key aad (take open_module.length (drop 16 after)) limit (take open_module.consumed before)
  pub held : HoldsGcm fill key aad (take open_module.length (drop 16 after)) limit before
  pub consumed : open_module.consumed ≡ 32 + open_module.length
  pub inside : open_module.consumed ≤ length before
  pub fills : fill ≡ true → open_module.consumed ≡ length before
  pub nonce : open_module.nonce ≡ nonce_of before
  pub tag : open_module.tag ≡ stored_of (take open_module.consumed before)
  pub front_stays : take 16 after ≡ take 16 before
  pub rest_stays : drop (16 + open_module.length) after ≡ drop (16 + open_module.length) before

-- the guarantees of a call that has decrypted a CTR module in place
pub record IsCtrOpened (key : List ℕ) (limit : ℕ) (before after : List ℕ) (open_module : OpenModule) : Type 0 where
  pub module_at_front : IsCtr key (take open_module.length (drop 16 after)) limit (take open_module.consumed before)
  pub consumed : open_module.consumed ≡ 16 + open_module.length
  pub inside : open_module.consumed ≤ length before
  pub nonce : open_module.nonce ≡ nonce_of before
  pub tag : open_module.tag ≡ replicate 16 0
  pub front_stays : take 16 after ≡ take 16 before
  pub rest_stays : drop (16 + open_module.length) after ≡ drop (16 + open_module.length) before

-- bytes decrypt to a plaintext if and only if they hold a GCM module of it
abbrev pub OpensExactly : Type 0
OpensExactly =
    (key aad plain : List ℕ) (place : Place) (at limit : ℕ) (fill : Bool) (bytes : List ℕ) → AreBytes bytes → limit ≤ MODULE_LIMIT
    → (opened key aad place at limit fill bytes ≡ Ok plain) ↔ HoldsGcm fill key aad plain limit bytes

-- bytes decrypt to a plaintext if and only if they hold a CTR module of it
abbrev pub CtrOpensExactly : Type 0
CtrOpensExactly =
    (key plain : List ℕ) (place : Place) (at limit : ℕ) (bytes : List ℕ) → AreBytes bytes → limit ≤ MODULE_LIMIT
    → (opened_ctr key place at limit bytes ≡ Ok plain) ↔ HoldsCtr key plain limit bytes

-- these bytes are read as a GCM module with this plaintext and this nonce
pub record ReadsAsGcm (key aad nonce plain : List ℕ) (place : Place) (at limit : ℕ) (fill : Bool) (bytes : List ℕ) : Type 0 where
  pub opens : opened key aad place at limit fill bytes ≡ Ok plain
  pub size_is : gcm_size place at limit fill bytes ≡ Ok (32 + length plain)
  pub nonce_is : nonce_of bytes ≡ nonce
  pub tag_is : stored_of (take (32 + length plain) bytes) ≡ tag_of key nonce aad (gctr key nonce 2 plain)

-- these bytes are read as a CTR module with this plaintext and this nonce
pub record ReadsAsCtr (key nonce plain : List ℕ) (place : Place) (at limit : ℕ) (bytes : List ℕ) : Type 0 where
  pub opens : opened_ctr key place at limit bytes ≡ Ok plain
  pub size_is : ctr_size place at limit bytes ≡ Ok (16 + length plain)
  pub nonce_is : nonce_of bytes ≡ nonce

-- a written GCM module is read back as its plaintext, also if other bytes follow it and `fill` is false
abbrev pub GcmReadsBack : Type 0
GcmReadsBack =
    (key aad nonce plain rest : List ℕ) (place : Place) (at limit : ℕ) (fill : Bool) → length nonce ≡ 12 → length plain ≤ limit
    → limit ≤ MODULE_LIMIT → (fill ≡ true → rest ≡ []) → ReadsAsGcm key aad nonce plain place at limit fill (sealed_gcm key aad nonce plain ++ rest)

-- a written CTR module is read back as its plaintext, also if other bytes follow it
abbrev pub CtrReadsBack : Type 0
CtrReadsBack =
    (key nonce plain rest : List ℕ) (place : Place) (at limit : ℕ) → length nonce ≡ 12 → length plain ≤ limit → limit ≤ MODULE_LIMIT
    → ReadsAsCtr key nonce plain place at limit (sealed_ctr key nonce plain ++ rest)
