-- A keys file: a small file with a key for each key id.
use Rattle.std.specs.Prelude.{ℕ, Bool, true, List, Option, Result, Ok, Err}
use Rattle.pme_base.specs.declared.refusal.Cause.{Cause}
use Rattle.pme_base.specs.declared.refusal.Cause.TheVariants.{BadKeys}
use Rattle.pme_base.specs.declared.refusal.Detail.TheVariants.{Name}
use Rattle.pme_base.specs.declared.refusal.Refusal.{Refusal}
use Rattle.pme_base.specs.Refusals.{refusal_at}
use Rattle.pme_base.specs.Steps.{◌>>=◌}
use Rattle.key_rights.specs.declared.id_key.IdKey.{IdKey}
use Rattle.key_rights.specs.KeysFile.{keys_of_file}
use Rattle.command_parts.specs.SmallFile.{whole_file, small_bytes, is_small_cause}

-- the keys, or the refusal that names the first id without one
abbrev pub keys_or_bad : Result (List IdKey) (List ℕ) → Result (List IdKey) Refusal
keys_or_bad (Ok keys) = Ok keys
keys_or_bad (Err id) = Err (refusal_at BadKeys whole_file 0 (Name id))

-- the keys of a keys file
abbrev pub loaded_keys : Option (List ℕ) → Result (List IdKey) Refusal
loaded_keys file = small_bytes file >>= (λ bytes. keys_or_bad (keys_of_file bytes))

-- the causes with which loading the keys can end
abbrev pub is_keys_cause : Cause → Bool
is_keys_cause BadKeys = true
is_keys_cause cause = is_small_cause cause
