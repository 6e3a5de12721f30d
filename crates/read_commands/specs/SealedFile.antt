-- The module that fills a file: its length field is read first, then the rest.
use Rattle.std.specs.Prelude.{◌≡◌, ℕ, ◌-◌, ◌<◌, ◌^◌, Bool, true, List, length, take, Option, Some, None, Result, Ok, Err}
use Rattle.pme_base.specs.declared.place.Place.{Place}
use Rattle.pme_base.specs.declared.place.PlaceKind.TheVariants.{Loose}
use Rattle.pme_base.specs.declared.refusal.Cause.{Cause}
use Rattle.pme_base.specs.declared.refusal.Cause.TheVariants.{NoFile}
use Rattle.pme_base.specs.declared.refusal.Refusal.{Refusal}
use Rattle.pme_base.specs.Causes.{either}
use Rattle.pme_base.specs.Places.{place_of}
use Rattle.pme_base.specs.Refusals.{plain_refusal}
use Rattle.pme_base.specs.Steps.{◌>>=◌}
use Rattle.crypto_module.specs.declared.frame.ModuleKind.TheVariants.{Gcm}
use Rattle.crypto_module.specs.Frames.{checked_frame_size, gcm_size, is_frame_cause}
use Rattle.crypto_module.specs.Opening.{opened}
use Rattle.pme_base.specs.Reading.{is_reading_cause}
use Rattle.std.specs.Global.{Vec}
use Rattle.pme_base.specs.declared.limits.TheConstants.{MODULE_LIMIT}

-- the place of a module that belongs to no file, and the size limit of its plaintext
abbrev pub loose : Place
loose = place_of Loose 0 0 0

abbrev pub plaintext_limit : ℕ
plaintext_limit = MODULE_LIMIT

-- the size of the module that fills a file of `size` bytes which begins with `head`
abbrev pub sealed_size : List ℕ → ℕ → Result ℕ Refusal
sealed_size head size = checked_frame_size true Gcm loose 0 plaintext_limit head (size - 4)

-- the bytes of a file that a module fills, as its length field says
abbrev pub sealed_bytes : Option (List ℕ) → Result (List ℕ) Refusal
sealed_bytes None = Err (plain_refusal NoFile)
sealed_bytes (Some bytes) = gcm_size loose 0 plaintext_limit true bytes >>= (λ size. Ok bytes)

-- the plaintext of the module that fills these bytes
abbrev pub opened_buffer : List ℕ → List ℕ → List ℕ → Result (List ℕ) Refusal
opened_buffer key aad bytes = opened key aad loose 0 plaintext_limit true bytes

-- the plaintext of the module that fills a file
abbrev pub opened_file : List ℕ → List ℕ → Option (List ℕ) → Result (List ℕ) Refusal
opened_file key aad None = Err (plain_refusal NoFile)
opened_file key aad (Some bytes) = opened_buffer key aad bytes

-- the first four bytes of a file were read, or all of a shorter file; files have fewer than 2^64 bytes
pub record IsHead (bytes : List ℕ) (count : ℕ) (head : List ℕ) : Type 0 where
  pub front : length bytes < 2 ^ 64 → take count head ≡ take 4 bytes

-- if the file is as long as the buffer, and the buffer held its first four bytes, it now holds the whole file
pub record IsRest (bytes : List ℕ) (count : ℕ) (before after : List ℕ) : Type 0 where
  pub whole : length bytes ≡ length before → count ≡ length before - 4
  pub file : length bytes ≡ length before → take 4 before ≡ take 4 bytes → after ≡ bytes

-- the file has this length and begins with these four bytes
pub record Begins (bytes : List ℕ) (whole : ℕ) (head : List ℕ) : Type 0 where
  pub size : length bytes ≡ whole
  pub front : take 4 bytes ≡ head

-- the bytes of a buffer
abbrev pub held_by : {E : Type 0} → Result (Vec ℕ) E → Result (List ℕ) E
held_by (Ok buffer) = Ok buffer.items
held_by (Err e) = Err e

-- the causes with which reading a sealed file can end
abbrev pub is_sealed_cause : Cause → Bool
is_sealed_cause = either is_frame_cause is_reading_cause
