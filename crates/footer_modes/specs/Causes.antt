-- The causes with which each step of reading a tail can end; when a key finder failed, and when a file gave fewer bytes
-- than its size.
use Rattle.std.specs.Prelude.{◌≡◌, ◌⊎◌, ℕ, ◌<◌, ◌≤◌, Bool, true, false, Result, IfErr}
use Rattle.pme_base.specs.declared.refusal.Cause.{Cause}
use Rattle.pme_base.specs.declared.refusal.Cause.TheVariants.{Truncated, BadLength, BadTag, BadMagic, BadMaterial, NoMaterial, WrapTag, KeyLength, BadFooterLength, NotEncrypted, PrefixNeeded, PrefixUnused, PrefixDiffers, FooterKeyMissing, AlgorithmRefused, TooLarge, ServiceFault, OutOfMemory}
use Rattle.pme_base.specs.declared.refusal.Refusal.{Refusal}
use Rattle.pme_base.specs.declared.place.Place.{Place}
use Rattle.pme_base.specs.Refusals.{pair_refusal}
use Rattle.pme_base.specs.Causes.{either}
use Rattle.pme_base.specs.Counts.{Rose}
use Rattle.pme_base.specs.Reading.{is_reading_cause}
use Rattle.key_rights.specs.Finding.{is_key_cause}
use Rattle.parquet_fields.specs.Causes.{is_struct_cause}
use Rattle.parquet_meta.specs.Footer.{is_file_cause}
use Rattle.footer_modes.specs.Ends.{file_place, footer_place}

-- reading the ends of a file, or the bytes of its footer area
abbrev pub is_ends_cause : Cause → Bool
is_ends_cause BadMagic = true
is_ends_cause BadFooterLength = true
is_ends_cause TooLarge = true
is_ends_cause Truncated = true
is_ends_cause cause = is_reading_cause cause

-- parsing the front of the footer area
abbrev pub is_head_cause : Cause → Bool
is_head_cause NotEncrypted = true
is_head_cause BadFooterLength = true
is_head_cause cause = is_struct_cause cause

-- forming the associated data
abbrev pub is_aad_cause : Cause → Bool
is_aad_cause TooLarge = true
is_aad_cause PrefixNeeded = true
is_aad_cause PrefixUnused = true
is_aad_cause PrefixDiffers = true
is_aad_cause OutOfMemory = true
is_aad_cause _ = false

-- finding the footer's key
abbrev pub is_footer_key_cause : Cause → Bool
is_footer_key_cause FooterKeyMissing = true
is_footer_key_cause ServiceFault = true
is_footer_key_cause OutOfMemory = true
is_footer_key_cause cause = is_key_cause cause

-- opening a footer area
abbrev pub is_area_cause : Cause → Bool
is_area_cause NotEncrypted = true
is_area_cause BadFooterLength = true
is_area_cause AlgorithmRefused = true
is_area_cause PrefixNeeded = true
is_area_cause PrefixUnused = true
is_area_cause PrefixDiffers = true
is_area_cause FooterKeyMissing = true
is_area_cause ServiceFault = true
is_area_cause BadMaterial = true
is_area_cause NoMaterial = true
is_area_cause WrapTag = true
is_area_cause KeyLength = true
is_area_cause Truncated = true
is_area_cause BadLength = true
is_area_cause BadTag = true
is_area_cause cause = is_file_cause cause

-- reading a tail
abbrev pub is_tail_cause : Cause → Bool
is_tail_cause = either is_ends_cause is_area_cause

-- reading the metadata of the footer's key
abbrev pub is_metadata_cause : Cause → Bool
is_metadata_cause = either is_ends_cause is_head_cause

-- ServiceFault comes only where the number of the finder's failed calls rose
pub record FinderFails {T : Type 0} (before now : ℕ) (result : Result T Refusal) : Type 0 where
  pub later : before ≤ now
  pub failed : IfErr result (λ refusal. refusal.cause ≡ ServiceFault → Rose before now)

-- a file gave fewer bytes at this offset than its size promised, where bytes of this place were read
pub record IsShortRead (place : Place) (at needed : ℕ) (refusal : Refusal) : Type 0 where
  pub there : ℕ
  pub fewer : there < needed
  pub is : refusal ≡ pair_refusal Truncated place at needed there

-- a file gave fewer bytes of its two ends, which have 12 bytes, than its size promised
pub record IsShortEnd (refusal : Refusal) : Type 0 where
  pub at : ℕ
  pub needed : ℕ
  pub few : needed ≤ 12
  pub short : IsShortRead file_place at needed refusal

-- where a Truncated stands: at the file while its ends are read, else at the footer
abbrev pub TellsShort : Refusal → Type 0
TellsShort refusal = refusal.cause ≡ Truncated → IsShortEnd refusal ⊎ (refusal.place ≡ footer_place)
