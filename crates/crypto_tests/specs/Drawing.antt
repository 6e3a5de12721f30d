-- A key maker that draws: a key of 16 bytes and a nonce of 12, which the master key with the id uses.
use Rattle.std.specs.Prelude.{ℕ, nat_le, List, [], ◌∷◌, length, take, drop, Option, Some, None, if◌then◌else◌, Result, Ok, Err}
use Rattle.key_rights.specs.declared.maker.MadeKey.{MadeKey}
use Rattle.key_rights.specs.declared.maker.MakeRefusal.{MakeRefusal}
use Rattle.key_rights.specs.declared.maker.MakeRefusal.TheVariants.{Denied, NonceRepeated, RandomFault}
use Rattle.key_rights.specs.declared.nonces.NonceOwner.TheVariants.{Master}
use Rattle.key_rights.specs.Making.{Draws, Step}
use Rattle.key_rights.specs.Nonces.{is_taken, with_taken}

-- the next `n` bytes, and the bytes after them
abbrev pub drawn : ℕ → List ℕ → Option (List ℕ × List ℕ)
drawn n bytes = if nat_le n (length bytes) then Some (take n bytes, drop n bytes) else None

abbrev pub with_nonce : List ℕ → List ℕ → List ℕ → List ℕ → Draws → Result (MadeKey × Unit {0} × Draws) MakeRefusal
with_nonce id key nonce rest draws =
    if is_taken draws.taken (Master id) nonce then Err (NonceRepeated nonce)
    else Ok (record { key = key; metadata = nonce }, tt, record { rest = rest; taken = with_taken draws.taken (Master id) nonce })

abbrev pub with_key : List ℕ → List ℕ → Option (List ℕ × List ℕ) → Draws → Result (MadeKey × Unit {0} × Draws) MakeRefusal
with_key id key None draws = Err RandomFault
with_key id key (Some nonce) draws = with_nonce id key nonce.0 nonce.1 draws

abbrev pub with_draws : List ℕ → Option (List ℕ × List ℕ) → Draws → Result (MadeKey × Unit {0} × Draws) MakeRefusal
with_draws id None draws = Err RandomFault
with_draws id (Some key) draws = with_key id key.0 (drawn 12 key.1) draws

-- the empty id is denied
abbrev pub drawing_step : Step (Unit {0})
drawing_step state request draws = if nat_le 1 (length request.id) then with_draws request.id (drawn 16 draws.rest) draws else Err Denied
