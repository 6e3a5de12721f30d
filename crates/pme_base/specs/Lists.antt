-- Lists whose items are each made by a step that can be refused.
use Rattle.std.specs.Prelude.{List, [], ◌∷◌, ◌++◌, Result, Ok}
use Rattle.pme_base.specs.Steps.{◌>>=◌}

-- the step on each item in order; the first refusal ends it
abbrev pub traverse : {A B E : Type 0} → (A → Result B E) → List A → Result (List B) E
traverse step [] = Ok []
traverse step (x ∷ xs) = step x >>= λ y. traverse step xs >>= λ ys. Ok (y ∷ ys)

-- the items already made, followed by those still to be made
abbrev pub made_before : {B E : Type 0} → List B → Result (List B) E → Result (List B) E
made_before ys rest = rest >>= λ more. Ok (ys ++ more)
