-- Reading a named file: how a failed read is refused, and the size of a file.
use Rattle.std.specs.Prelude.{ℕ, Bool, true, false, List, length, Option, Some, None, Result, Ok, Err}
use Rattle.pme_base.specs.declared.outside.Trouble.{Trouble}
use Rattle.pme_base.specs.declared.outside.Trouble.TheVariants.{Failed, OutOfMemory}
use Rattle.pme_base.specs.declared.refusal.Cause.{Cause}
use Rattle.pme_base.specs.declared.refusal.Cause.TheVariants as cause_of
use Rattle.pme_base.specs.declared.refusal.Refusal.{Refusal}
use Rattle.pme_base.specs.Refusals.{plain_refusal}

-- the refusal for a read that failed
abbrev pub read_refusal : Trouble → Refusal
read_refusal Failed = plain_refusal cause_of.ReadFault
read_refusal OutOfMemory = plain_refusal cause_of.OutOfMemory

-- the length of a file; one that doesn't exist is refused
abbrev pub size_of : Option (List ℕ) → Result ℕ Refusal
size_of None = Err (plain_refusal cause_of.NoFile)
size_of (Some bytes) = Ok (length bytes)

-- the causes with which reading a file or asking for its size can end
abbrev pub is_reading_cause : Cause → Bool
is_reading_cause cause_of.NoFile = true
is_reading_cause cause_of.ReadFault = true
is_reading_cause cause_of.OutOfMemory = true
is_reading_cause _ = false
