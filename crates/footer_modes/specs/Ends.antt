-- The ends of a file. It begins and ends with the same magic of four bytes. Before the last magic stands the length of
-- the footer area in four bytes, little-endian, and before that the area itself.
use Rattle.std.specs.Prelude.{◌≡◌, ℕ, ◌+◌, ◌-◌, ◌^◌, ◌<◌, nat_lt, if◌then◌else◌, List, length, take, drop, codes, Option, Some, None, Result, Ok, Err}
use Rattle.std.specs.Int.{w32, from_le_bytes}
use Rattle.std.specs.Str.{bytes_eq}
use Rattle.pme_base.specs.declared.limits.TheConstants.{FOOTER_AREA_LIMIT}
use Rattle.pme_base.specs.declared.place.Place.{Place}
use Rattle.pme_base.specs.declared.place.PlaceKind.TheVariants as kind_of
use Rattle.pme_base.specs.declared.refusal.Cause.TheVariants.{Truncated, BadMagic, BadFooterLength, TooLarge, NoFile}
use Rattle.pme_base.specs.declared.refusal.Detail.TheVariants.{Nothing}
use Rattle.pme_base.specs.declared.refusal.Refusal.{Refusal}
use Rattle.pme_base.specs.Places.{place_of}
use Rattle.pme_base.specs.Refusals.{refusal_at, pair_refusal, plain_refusal}
use Rattle.pme_base.specs.Steps.{◌>>=◌}
use Rattle.footer_modes.specs.declared.ends.Ends.{Ends}
use Rattle.footer_modes.specs.declared.mode.FooterMode.{FooterMode}
use Rattle.footer_modes.specs.declared.mode.FooterMode.TheVariants.{Encrypted, Signed, Unencrypted}
use Rattle.footer_modes.specs.declared.mode.Magic.{Magic}
use Rattle.footer_modes.specs.declared.mode.Magic.TheVariants.{Pare, Par1}

-- the places of the file as a whole and of its footer
abbrev pub file_place : Place
file_place = place_of kind_of.File 0 0 0

abbrev pub footer_place : Place
footer_place = place_of kind_of.Footer 0 0 0

-- the bytes of a magic
abbrev pub magic_bytes : Magic → List ℕ
magic_bytes Pare = codes "PARE"
magic_bytes Par1 = codes "PAR1"

-- the magic of a mode
abbrev pub magic_of : FooterMode → Magic
magic_of Encrypted = Pare
magic_of Signed = Par1
magic_of Unencrypted = Par1

-- the mode of an encrypted or signed footer, by the magic
abbrev pub magic_mode : Magic → FooterMode
magic_mode Pare = Encrypted
magic_mode Par1 = Signed

abbrev pub bad_magic : ℕ → Refusal
bad_magic at = refusal_at BadMagic file_place at Nothing

-- the magic by the last four bytes of a file, which stand at this offset
abbrev pub known_magic : ℕ → List ℕ → Result Magic Refusal
known_magic at bytes =
    if bytes_eq bytes (codes "PARE") then Ok Pare
    else if bytes_eq bytes (codes "PAR1") then Ok Par1
    else Err (bad_magic at)

-- the first magic must be the last
abbrev pub check_first_magic : Magic → List ℕ → Result Unit Refusal
check_first_magic magic front = if bytes_eq front (magic_bytes magic) then Ok tt else Err (bad_magic 0)

-- the area of this length ends right before the length field, in a file of this size
abbrev pub area_at : ℕ → Magic → ℕ → Result Ends Refusal
area_at size magic count =
    if nat_lt (size - 12) count then Err (pair_refusal BadFooterLength footer_place (size - 8) count (size - 12))
    else if nat_lt FOOTER_AREA_LIMIT count then Err (pair_refusal TooLarge footer_place (size - 8) count FOOTER_AREA_LIMIT)
    else Ok (record { magic = magic; data_end = size - 8 - count; area = count })

-- the ends of a file of this size, by its first four and its last eight bytes
abbrev pub ends_within : ℕ → List ℕ → List ℕ → Result Ends Refusal
ends_within size front back = do
  magic ← known_magic (size - 4) (drop 4 back)
  _ ← check_first_magic magic front
  area_at size magic (from_le_bytes w32 (take 4 back))

abbrev pub ends_of : List ℕ → Result Ends Refusal
ends_of bytes =
    if nat_lt (length bytes) 12 then Err (pair_refusal Truncated file_place 0 12 (length bytes))
    else ends_within (length bytes) (take 4 bytes) (take 8 (drop (length bytes - 8) bytes))

-- the ends of a file, which may not exist
abbrev pub file_ends : Option (List ℕ) → Result Ends Refusal
file_ends None = Err (plain_refusal NoFile)
file_ends (Some bytes) = ends_of bytes

-- the file is long enough for the area and the eight bytes after it, and shorter than 2^64 bytes
pub record IsInside (ends : Ends) (bytes : List ℕ) : Type 0 where
  pub small : length bytes < 2 ^ 64
  pub size : ends.data_end + ends.area + 8 ≡ length bytes

-- the footer area
abbrev pub area_of : Ends → List ℕ → List ℕ
area_of ends bytes = take ends.area (drop ends.data_end bytes)
