-- A small file has at most `SMALL_FILE_LIMIT` bytes and is read whole.
use Rattle.std.specs.Prelude.{◌≡◌, ℕ, ◌<◌, ◌^◌, Bool, true, nat_lt, if◌then◌else◌, List, length, take, Option, Some, None, Result, Ok, Err}
use Rattle.pme_base.specs.declared.limits.TheConstants.{SMALL_FILE_LIMIT}
use Rattle.pme_base.specs.declared.place.Place.{Place}
use Rattle.pme_base.specs.declared.place.PlaceKind.TheVariants.{File}
use Rattle.pme_base.specs.declared.refusal.Cause.{Cause}
use Rattle.pme_base.specs.declared.refusal.Cause.TheVariants.{NoFile, TooLarge}
use Rattle.pme_base.specs.declared.refusal.Refusal.{Refusal}
use Rattle.pme_base.specs.Places.{place_of}
use Rattle.pme_base.specs.Refusals.{plain_refusal, pair_refusal}
use Rattle.pme_base.specs.Steps.{◌>>=◌}
use Rattle.pme_base.specs.Reading.{is_reading_cause}

-- the place of a file as a whole
abbrev pub whole_file : Place
whole_file = place_of File 0 0 0

abbrev pub small_limit : ℕ
small_limit = SMALL_FILE_LIMIT

-- a size within the limit
abbrev pub small_size : ℕ → Result ℕ Refusal
small_size size = if nat_lt small_limit size then Err (pair_refusal TooLarge whole_file 0 size small_limit) else Ok size

-- the bytes of a small file
abbrev pub small_bytes : Option (List ℕ) → Result (List ℕ) Refusal
small_bytes None = Err (plain_refusal NoFile)
small_bytes (Some bytes) = small_size (length bytes) >>= (λ _. Ok bytes)

-- if the file is as long as the buffer, the buffer holds the whole file
pub record IsWhole (bytes : List ℕ) (count : ℕ) (buffer : List ℕ) : Type 0 where
  pub read : length bytes ≡ length buffer → length bytes < 2 ^ 64 → take count buffer ≡ bytes

-- the causes with which reading a small file can end
abbrev pub is_small_cause : Cause → Bool
is_small_cause TooLarge = true
is_small_cause cause = is_reading_cause cause
