-- Membership in a filtered list.
use Rattle.std.proofs.Common.{◌≡◌, inl, inr, Bool, true, false, cond, List, [], ◌∷◌, refl, sym, ap, subst}
use Rattle.std.specs.Prelude.{filter}
use Rattle.std.specs.List.{Contains}
use Rattle.pme_base.proofs.Traversed.{none_in_empty, first_or_other, is_first, is_other}

kept_first : {A : Type 0} (b : Bool) (x : A) (xs : List A) → b ≡ true → Contains (cond b (x ∷ xs) xs) x
kept_first true x xs e = is_first x xs
kept_first false x xs e = absurd cc

kept_other : {A : Type 0} (b : Bool) (x : A) (xs : List A) (y : A) → Contains xs y → Contains (cond b (x ∷ xs) xs) y
kept_other true x xs y has = is_other x xs y has
kept_other false x xs y has = has

-- `filter` keeps each item that passes the test
pub keeps : {A : Type 0} (test : A → Bool) (xs : List A) (y : A) → Contains xs y → test y ≡ true → Contains (filter test xs) y
keeps test [] y has passes = absurd (none_in_empty y has)
keeps test (x ∷ xs) y has passes = elim (first_or_other x xs y has) [
  | inl same ↦ subst (λ z. Contains (filter test (x ∷ xs)) z) same (kept_first (test x) x (filter test xs) (subst (λ z. test z ≡ true) (sym same) passes))
  | inr other ↦ kept_other (test x) x (filter test xs) y (keeps test xs y other passes)
]

from_first : {A : Type 0} (test : A → Bool) (b : Bool) (x : A) (xs rest : List A) (y : A) → test x ≡ b
    → (Contains rest y → Contains xs y × (test y ≡ true)) → Contains (cond b (x ∷ rest) rest) y → Contains (x ∷ xs) y × (test y ≡ true)
from_first test true x xs rest y e later has = elim (first_or_other x rest y has) [
  | inl same ↦ (subst (Contains (x ∷ xs)) same (is_first x xs), subst (λ z. test z ≡ true) same e)
  | inr other ↦ (let (there, passes) = later other in (is_other x xs y there, passes))
]
from_first test false x xs rest y e later has = let (there, passes) = later has in (is_other x xs y there, passes)

-- each item that `filter` leaves is in the list and passes the test
pub drops : {A : Type 0} (test : A → Bool) (xs : List A) (y : A) → Contains (filter test xs) y → Contains xs y × (test y ≡ true)
drops test [] y has = absurd (none_in_empty y has)
drops test (x ∷ xs) y has = from_first test (test x) x xs (filter test xs) y refl (drops test xs y) has
