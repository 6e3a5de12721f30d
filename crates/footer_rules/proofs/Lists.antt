-- A list that a loop builds: the items so far, followed by the result for the remaining items.
use Rattle.std.proofs.Common.{◌≡◌, List, [], ◌∷◌, ◌++◌, Result, Ok, Err, refl, ap}
use Rattle.std.proofs.lemmas.List.{append_assoc}
use Rattle.pme_base.specs.declared.refusal.Refusal.{Refusal}
use Rattle.pme_base.specs.Steps.{◌>>=◌}

abbrev pub onto : {X : Type 0} → List X → Result (List X) Refusal → Result (List X) Refusal
onto front (Ok rest) = Ok (front ++ rest)
onto front (Err refusal) = Err refusal

pub onto_none : {X : Type 0} (rest : Result (List X) Refusal) → onto [] rest ≡ rest
onto_none (Ok rest) = refl
onto_none (Err refusal) = refl

onto_one : {X : Type 0} (front : List X) (x : X) (rest : Result (List X) Refusal) → onto (front ++ x ∷ []) rest ≡ onto front (rest >>= λ xs. Ok (x ∷ xs))
onto_one front x (Ok rest) = ap Ok (append_assoc front (x ∷ []) rest)
onto_one front x (Err refusal) = refl

-- The next item is appended, and then the remaining items follow.
pub onto_next : {X : Type 0} (front : List X) (x : X) (made : Result X Refusal) (rest : Result (List X) Refusal) → Ok x ≡ made → onto (front ++ x ∷ []) rest ≡ onto front (made >>= λ y. rest >>= λ ys. Ok (y ∷ ys))
onto_next front x made rest is = rw (← is) (onto_one front x rest)
