-- A keys file as a key maker: the key with the id, whose metadata is the id itself. Nothing is drawn.
use Rattle.std.specs.Prelude.{ℕ, Bool, true, false, List, None, Result, Ok, Err}
use Rattle.pme_base.specs.Steps.{◌>>=◌}
use Rattle.key_rights.specs.declared.finder.KeyAnswer.{KeyAnswer}
use Rattle.key_rights.specs.declared.finder.KeyAnswer.TheVariants.{Held}
use Rattle.key_rights.specs.declared.id_key.IdKey.{IdKey}
use Rattle.key_rights.specs.declared.maker.MadeKey.{MadeKey}
use Rattle.key_rights.specs.declared.maker.MakeRefusal.{MakeRefusal}
use Rattle.key_rights.specs.declared.maker.MakeRefusal.TheVariants.{Denied}
use Rattle.key_rights.specs.KeysFile.{key_by_id}
use Rattle.key_rights.specs.Making.{Step, Behaviour, behaviour_of}

abbrev pub is_held : KeyAnswer → Bool
is_held (Held key) = true
is_held _ = false

-- whether the keys file has a key with this id
abbrev pub has_id : List IdKey → List ℕ → Bool
has_id keys id = is_held (key_by_id keys id)

abbrev pub made_of : List ℕ → KeyAnswer → Result MadeKey MakeRefusal
made_of id (Held key) = Ok (record { key = key; metadata = id })
made_of id _ = Err Denied

-- the key with this id and its metadata, or Denied
abbrev pub made_by_id : List IdKey → List ℕ → Result MadeKey MakeRefusal
made_by_id keys id = made_of id (key_by_id keys id)

abbrev pub id_step : Step (List IdKey)
id_step keys request draws = made_by_id keys request.id >>= (λ made. Ok (made, keys, draws))

abbrev pub made_by_ids : List IdKey → Behaviour
made_by_ids keys = behaviour_of id_step (λ _. None) keys
