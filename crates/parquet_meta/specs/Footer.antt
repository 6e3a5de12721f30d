-- A footer: the fields of the struct at the start of the bytes, and then the rules on their values.
use Rattle.std.specs.Prelude.{◌≡◌, ℕ, Bool, true, List, Result, Ok}
use Rattle.pme_base.specs.declared.place.Place.{Place}
use Rattle.pme_base.specs.declared.refusal.Cause.{Cause}
use Rattle.pme_base.specs.declared.refusal.Cause.TheVariants.{Mismatch, TooLarge}
use Rattle.pme_base.specs.declared.refusal.Refusal.{Refusal}
use Rattle.pme_base.specs.Steps.{◌>>=◌}
use Rattle.parquet_types.specs.declared.file_meta.FileMeta.{FileMeta}
use Rattle.footer_rules.specs.FileRules.{file_of}
use Rattle.parquet_fields.specs.Calls.{struct_at}
use Rattle.parquet_fields.specs.Causes.{is_struct_cause}
use Rattle.parquet_fields.specs.Structs.{raw_file_meta}

abbrev pub file_meta_at : Place → List ℕ → Result (FileMeta × ℕ) Refusal
file_meta_at place bytes = do
  read ← struct_at place raw_file_meta bytes
  file ← file_of place read.0
  Ok (file, read.1)

-- the causes with which reading a footer can end
abbrev pub is_file_cause : Cause → Bool
is_file_cause Mismatch = true
is_file_cause TooLarge = true
is_file_cause cause = is_struct_cause cause
