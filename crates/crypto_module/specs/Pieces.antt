-- Decryption of a GCM ciphertext in pieces: all pieces are hashed first, and decrypted once the tag has been found right.
use Rattle.std.specs.Prelude.{◌≡◌, ℕ, ◌+◌, List, length, if◌then◌else◌, Result, Ok, Err}
use Rattle.std.specs.Str.{bytes_eq}
use Rattle.gcm_seal.specs.Gcm.{tag_of}
use Rattle.gcm_seal.specs.Hashing.{Hashed, IsHashOf}
use Rattle.pme_base.specs.declared.place.Place.{Place}
use Rattle.pme_base.specs.declared.refusal.Cause.TheVariants.{BadTag}
use Rattle.pme_base.specs.declared.refusal.Detail.TheVariants.{Tags}
use Rattle.pme_base.specs.declared.refusal.Refusal.{Refusal}
use Rattle.pme_base.specs.Refusals.{refusal_at}

-- a ciphertext that is being checked: it has `length` bytes, of which `left` have not been hashed yet
pub record Hashing : Type 0 where
  pub key : List ℕ
  pub nonce : List ℕ
  pub hashed : Hashed
  pub length : ℕ
  pub left : ℕ

-- the pieces hashed so far make up `text`, and the associated data is `aad`
pub record IsJoined (state : Hashing) (aad text : List ℕ) : Type 0 where
  pub hash : IsHashOf state.hashed state.key state.nonce aad text
  pub left : state.left + length text ≡ state.length

-- a ciphertext of `length` bytes whose tag is right, of which the first `opened` bytes have been decrypted
pub record Opening : Type 0 where
  pub key : List ℕ
  pub nonce : List ℕ
  pub length : ℕ
  pub opened : ℕ

-- a ciphertext that has been checked, before any of it has been decrypted
abbrev pub nothing_opened : Hashing → Opening
nothing_opened state = record { key = state.key; nonce = state.nonce; length = state.length; opened = 0 }

-- Ok if the computed tag equals the stored one, otherwise BadTag
abbrev pub tag_checked : List ℕ → List ℕ → Place → ℕ → List ℕ → List ℕ → List ℕ → Result Unit Refusal
tag_checked key aad place at nonce cipher stored =
    if bytes_eq (tag_of key nonce aad cipher) stored then Ok tt
    else Err (refusal_at BadTag place at (Tags (tag_of key nonce aad cipher) stored))

-- a result without its Ok value
abbrev pub without_value : {T : Type 0} → Result T Refusal → Result Unit Refusal
without_value (Ok _) = Ok tt
without_value (Err refusal) = Err refusal
