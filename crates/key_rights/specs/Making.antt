-- Making the keys of a file. The behaviour of a key maker is a function: for the requests of one file and the random bytes
-- to come it gives the keys with their metadata, or the first refusal.
use Rattle.std.specs.Prelude.{◌≡◌, ℕ, Bool, true, false, List, [], ◌∷◌, ◌++◌, Option, Some, None, option_map, Result, Ok, Err, IfOk, IfErr, IfSome}
use Rattle.std.specs.List.{All}
use Rattle.pme_base.specs.Steps.{◌>>=◌}
use Rattle.key_rights.specs.declared.maker.MadeKey.{MadeKey}
use Rattle.key_rights.specs.declared.maker.MakeRefusal.{MakeRefusal}
use Rattle.key_rights.specs.declared.maker.MakeRefusal.TheVariants.{Denied, RandomFault, ServiceFault, OutOfMemory}
use Rattle.key_rights.specs.declared.nonces.NonceOwner.{NonceOwner}
use Rattle.key_rights.specs.Nonces.{Taken, with_taken}

-- a request for the key of the footer or of a column, which the master key with this id is to wrap
pub record Request : Type 0 where
  pub footer : Bool
  pub id : List ℕ

-- the random bytes to come, and the nonces that each key has used
pub record Draws : Type 0 where
  pub rest : List ℕ
  pub taken : Taken

-- the keys in the order of the requests, the draws after them, and the text of the key material file, if there is one
pub record MadeKeys : Type 0 where
  pub keys : List MadeKey
  pub draws : Draws
  pub text : Option (List ℕ)

abbrev pub Behaviour : Type 0
Behaviour = List Request → Draws → Result MadeKeys MakeRefusal

-- the draws, if contracts see the random bytes
abbrev pub draws_of : Option (List ℕ) → Taken → Option Draws
draws_of (Some rest) taken = Some (record { rest = rest; taken = taken })
draws_of None taken = None

-- the key of the first request, followed by those of the others
abbrev pub onto : MadeKey → Result MadeKeys MakeRefusal → Result MadeKeys MakeRefusal
onto made (Ok others) = Ok (record others { keys = made ∷ others.keys })
onto made (Err refusal) = Err refusal

-- the result when no request is left
abbrev pub finished : Option (List ℕ) → Draws → Result MadeKeys MakeRefusal
finished text draws = Ok (record { keys = []; draws = draws; text = text })

-- a step of a maker with the state S: the key of a request, the next state and the draws that are left
abbrev pub Step : Type 0 → Type 0
Step S = S → Request → Draws → Result (MadeKey × S × Draws) MakeRefusal

-- the behaviour of a maker that takes such steps, and whose key material file has the text `text` at the end
abbrev pub behaviour_of : {S : Type 0} → Step S → (S → Option (List ℕ)) → S → Behaviour
behaviour_of step text state [] draws = finished (text state) draws
behaviour_of step text state (request ∷ requests) draws =
    step state request draws >>= (λ made. onto made.0 (behaviour_of step text made.1 requests made.2))

-- a refusal that may end a call for any request: a failed draw, a failed call of the key service, or a failed allocation
abbrev pub is_free_refusal : MakeRefusal → Bool
is_free_refusal RandomFault = true
is_free_refusal ServiceFault = true
is_free_refusal OutOfMemory = true
is_free_refusal _ = false

-- a call makes the key of a request: with any further requests, the behaviour before the call is this key, followed by the
-- behaviour after the call on the further requests; or it is refused as the behaviour is
pub record Makes (before after : Behaviour) (request : Request) (from to : Option Draws) (result : Result MadeKey MakeRefusal) : Type 0 where
  pub ok : (requests : List Request) → IfOk result (λ made. option_map (before (request ∷ requests)) from ≡ option_map (λ draws. onto made (after requests draws)) to)
  pub err : (requests : List Request) → IfErr result (λ refusal. is_free_refusal refusal ≡ false → option_map (before (request ∷ requests)) from ≡ option_map (λ _. Err refusal) from)

-- a call is denied exactly if the maker lacks the id, unless it ends with a free refusal
pub record Denies (has : Bool) (result : Result MadeKey MakeRefusal) : Type 0 where
  pub ok : IfOk result (λ _. has ≡ true)
  pub err : IfErr result (λ refusal. is_free_refusal refusal ≡ false → (has ≡ true → refusal ≡ Denied → ⊥) × (has ≡ false → refusal ≡ Denied))

-- the nonce is a part of these bytes
pub record IsPart (nonce bytes : List ℕ) : Type 0 where
  pub before : List ℕ
  pub after : List ℕ
  pub parts : bytes ≡ before ++ (nonce ++ after)

-- the set of used nonces after each of these owners has used its nonce
abbrev pub with_all : Taken → List (NonceOwner × List ℕ) → Taken
with_all taken [] = taken
with_all taken (used ∷ uses) = with_all (with_taken taken used.0 used.1) uses

-- a call takes only nonces that are among the random bytes to come at its start
pub record TakesDrawn (before after : Taken) (come : Option (List ℕ)) : Type 0 where
  pub uses : List (NonceOwner × List ℕ)
  pub taken : after ≡ with_all before uses
  pub drawn : IfSome come (λ bytes. All (λ used. IsPart used.1 bytes) uses)
