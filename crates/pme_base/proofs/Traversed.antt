-- Lemmas on lists whose items were made one by one.
use Rattle.std.proofs.Common.{◌≡◌, ℕ, zero, suc, ◌+◌, ◌<◌, ◌⊎◌, inl, inr, List, [], ◌∷◌, ◌++◌, drop, length, get_or, refl, sym, ap, ◌∙◌, subst, arith, append_assoc, Result, Ok, Err}
use Rattle.std.specs.List.{Contains}
use Rattle.std.proofs.lemmas.List.{drop_more}
use Rattle.pme_base.specs.Steps.{◌>>=◌}
use Rattle.pme_base.specs.Lists.{traverse, made_before}
use Rattle.pme_base.proofs.Chain.{bind_ok, bind_at, bind_err, ok_same}

pub none_in_empty : {A : Type 0} (x : A) → Contains [] x → ⊥
none_in_empty x (k, inside, is) = omega arith

-- an item of a list is its first item or one of the others
pub first_or_other : {A : Type 0} (x : A) (xs : List A) (y : A) → Contains (x ∷ xs) y → (x ≡ y) ⊎ Contains xs y
first_or_other x xs y (zero, inside, is) = inl is
first_or_other x xs y (suc k, inside, is) = inr (k, omega arith, is)

pub is_first : {A : Type 0} (x : A) (xs : List A) → Contains (x ∷ xs) x
is_first x xs = (0, omega arith, refl)

pub is_other : {A : Type 0} (x : A) (xs : List A) (y : A) → Contains xs y → Contains (x ∷ xs) y
is_other x xs y (k, inside, is) = (suc k, omega arith, is)

regrouped : {B E : Type 0} (ys : List B) (y : B) (rest : Result (List B) E)
    → made_before ys (rest >>= λ more. Ok (y ∷ more)) ≡ made_before (ys ++ y ∷ []) rest
regrouped ys y (Ok more) = ap (λ l. Ok l) (sym (append_assoc ys (y ∷ []) more))
regrouped ys y (Err refusal) = refl

module _ {A B E : Type 0} (f : A → Result B E) where
  -- a list that was made consists of its first item and the others
  pub first_made : (x : A) (xs : List A) (ys : List B) → traverse f (x ∷ xs) ≡ Ok ys
      → (y : B) × (more : List B) × (f x ≡ Ok y) × (traverse f xs ≡ Ok more) × (ys ≡ y ∷ more)
  first_made x xs ys e =
      let (y, here, after) = bind_ok (f x) (λ y. traverse f xs >>= λ more. Ok (y ∷ more)) ys e in
      let (more, there, joined) = bind_ok (traverse f xs) (λ more. Ok (y ∷ more)) ys after in
      (y, more, here, there, sym (ok_same (y ∷ more) ys joined))

  -- the list that was made has the length of the list it was made from
  pub as_many_made : (xs : List A) (ys : List B) → traverse f xs ≡ Ok ys → length ys ≡ length xs
  as_many_made [] ys e = ap length (sym (ok_same [] ys e))
  as_many_made (x ∷ xs) ys e =
      let (y, more, here, there, is) = first_made x xs ys e in
      ap length is ∙ ap suc (as_many_made xs more there)

  -- each item was made from an item of the list
  pub made_of : (xs : List A) (ys : List B) (y : B) → traverse f xs ≡ Ok ys → Contains ys y → (x : A) × Contains xs x × (f x ≡ Ok y)
  made_of [] ys y e has = absurd (none_in_empty y (subst (λ l. Contains l y) (sym (ok_same [] ys e)) has))
  made_of (x ∷ xs) ys y e has =
      let (z, more, here, there, is) = first_made x xs ys e in
      elim (first_or_other z more y (subst (λ l. Contains l y) is has)) [
        | inl same ↦ (x, is_first x xs, subst (λ w. f x ≡ Ok w) same here)
        | inr other ↦ (let (w, among, made) = made_of xs more y there other in (w, is_other x xs w among, made))
      ]

  -- a loop that has made the items before index i makes one more, or is refused
  pub one_more_made : (xs : List A) (i : ℕ) (d : A) (ys : List B) (y : B) → i < length xs → f (get_or xs i d) ≡ Ok y
      → made_before ys (traverse f (drop i xs)) ≡ made_before (ys ++ y ∷ []) (traverse f (drop (i + 1) xs))
  one_more_made xs i d ys y h e =
      ap (λ l. made_before ys (traverse f l)) (drop_more xs i d h)
      ∙ ap (made_before ys) (bind_at (f (get_or xs i d)) (λ z. traverse f (drop (i + 1) xs) >>= λ more. Ok (z ∷ more)) y e)
      ∙ regrouped ys y (traverse f (drop (i + 1) xs))

  pub one_more_refused : (xs : List A) (i : ℕ) (d : A) (ys : List B) (refusal : E) → i < length xs → f (get_or xs i d) ≡ Err refusal
      → made_before ys (traverse f (drop i xs)) ≡ Err refusal
  one_more_refused xs i d ys refusal h e =
      ap (λ l. made_before ys (traverse f l)) (drop_more xs i d h)
      ∙ ap (made_before ys) (bind_err (f (get_or xs i d)) (λ z. traverse f (drop (i + 1) xs) >>= λ more. Ok (z ∷ more)) refusal e)
