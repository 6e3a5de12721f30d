-- Lemmas on chains of steps, tests and choices.
use Rattle.std.proofs.Common.{◌≡◌, Bool, true, false, if◌then◌else◌, refl, ap, Result, Ok, Err}
use Rattle.pme_base.specs.Steps.{◌>>=◌}

pub ok_same : {T E : Type 0} (x y : T) → ◌≡◌ {A = Result T E} (Ok x) (Ok y) → x ≡ y
ok_same x y e = cc

pub err_same : {T E : Type 0} (x y : E) → ◌≡◌ {A = Result T E} (Err x) (Err y) → x ≡ y
err_same x y e = cc

pub not_both : {T E : Type 0} (r : Result T E) (x : T) (y : E) → r ≡ Ok x → r ≡ Err y → ⊥
not_both r x y e f = cc

-- if a chain returned a value, so did its first step
pub bind_ok : {S T E : Type 0} (r : Result S E) (next : S → Result T E) (t : T) → (r >>= next) ≡ Ok t → (s : S) × (r ≡ Ok s) × (next s ≡ Ok t)
bind_ok (Ok s) next t e = (s, refl, e)
bind_ok (Err y) next t e = cc

-- a chain whose first step returned a value is the next step on that value
pub bind_at : {S T E : Type 0} (r : Result S E) (next : S → Result T E) (s : S) → r ≡ Ok s → (r >>= next) ≡ next s
bind_at r next s e = ap (λ x. x >>= next) e

pub bind_err : {S T E : Type 0} (r : Result S E) (next : S → Result T E) (y : E) → r ≡ Err y → (r >>= next) ≡ Err y
bind_err r next y e = ap (λ x. x >>= next) e

-- if a chain was refused, the first step was, or the next one on the first one's value
pub bind_refused : {S T E : Type 0} (G : Type 0) (r : Result S E) (next : S → Result T E) (y : E) → (r >>= next) ≡ Err y
    → (r ≡ Err y → G) → ((s : S) → r ≡ Ok s → next s ≡ Err y → G) → G
bind_refused G (Ok s) next y e here later = later s refl e
bind_refused G (Err x) next y e here later = here cc

-- a choice that returned a value, by the outcome of its test
pub tested : {T E : Type 0} (b : Bool) (x t : T) (y : E) → (if b then Ok x else Err y) ≡ Ok t → (b ≡ true) × (x ≡ t)
tested true x t y e = (refl, cc)
tested false x t y e = cc

pub passed : {T E : Type 0} (b : Bool) (y : E) (rest : Result T E) (t : T) → (if b then Err y else rest) ≡ Ok t → (b ≡ false) × (rest ≡ Ok t)
passed true y rest t e = cc
passed false y rest t e = (refl, e)

pub when_true : {X : Type 0} (b : Bool) (x y : X) → b ≡ true → (if b then x else y) ≡ x
when_true true x y e = refl
when_true false x y e = cc

pub when_false : {X : Type 0} (b : Bool) (x y : X) → (b ≡ true → ⊥) → (if b then x else y) ≡ y
when_false true x y e = absurd (e refl)
when_false false x y e = refl

pub not_true : {b : Bool} → b ≡ false → b ≡ true → ⊥
not_true e h = cc
