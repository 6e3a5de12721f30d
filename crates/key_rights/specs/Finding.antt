-- The questions to a key finder, and its possible answers.
use Rattle.std.specs.Prelude.{ℕ, ◌≤◌, List, Bool, true, false, Option, Result, IsErrOf}
use Rattle.pme_base.specs.Counts.{Rose}
use Rattle.pme_base.specs.declared.refusal.Cause.{Cause}
use Rattle.pme_base.specs.declared.refusal.Cause.TheVariants.{BadMaterial, NoMaterial, WrapTag, KeyLength}
use Rattle.key_rights.specs.declared.finder.KeyAnswer.{KeyAnswer}
use Rattle.key_rights.specs.declared.finder.KeyAnswer.TheVariants.{Held, Absent, Refused}
use Rattle.key_rights.specs.declared.finder.KeyTrouble.{KeyTrouble}
use Rattle.key_rights.specs.declared.finder.KeyTrouble.TheVariants.{Failed}

-- the question for the key of a footer or of a column: the key metadata, if the file has any, and the path of the column
pub data Asked : Type 0 where
  footer : Option (List ℕ) → Asked
  column : Option (List ℕ) → List ℕ → Asked

-- why a finder may refuse: the key's metadata or the file that it names is bad, or the key in it doesn't open
abbrev pub is_key_cause : Cause → Bool
is_key_cause BadMaterial = true
is_key_cause NoMaterial = true
is_key_cause WrapTag = true
is_key_cause KeyLength = true
is_key_cause _ = false

abbrev pub is_key_answer : KeyAnswer → Bool
is_key_answer (Held key) = true
is_key_answer Absent = true
is_key_answer (Refused cause detail) = is_key_cause cause

-- a call never decreases the count of faults, and it fails only if it has increased the count or the count is 2^64 - 1
pub record KeyFaults {T : Type 0} (before now : ℕ) (result : Result T KeyTrouble) : Type 0 where
  pub later : before ≤ now
  pub failed : IsErrOf result Failed → Rose before now
