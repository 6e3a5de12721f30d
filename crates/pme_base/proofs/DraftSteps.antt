-- Lemmas on steps on a draft one after another, and on the steps of a loop, where contracts see the draft.
use Rattle.std.proofs.Common.{◌≡◌, ℕ, suc, ◌+◌, ◌-◌, ◌<◌, refl, ap, ◌∙◌, arith, Option, Some, None, option_map, Result, Ok, Err}
use Rattle.pme_base.specs.declared.refusal.Refusal.{Refusal}
use Rattle.pme_base.specs.Steps.{◌>>=◌}
use Rattle.pme_base.specs.Drafts.{chain, each}
use Rattle.pme_base.proofs.Chain.{bind_ok, bind_at, bind_err}

module _ {S : Type 0} (f k : S → Result S Refusal) where
  -- the draft between two steps, if the second one returned a draft
  pub chain_inverse : (d u : S) → chain f k d ≡ Ok u → (m : S) × (f d ≡ Ok m) × (k m ≡ Ok u)
  chain_inverse d u e = bind_ok (f d) k u e

  pub chain_made : (before between : Option S) → option_map f before ≡ option_map Ok between → option_map (chain f k) before ≡ option_map k between
  chain_made None None e = refl
  chain_made None (Some m) e = cc
  chain_made (Some d) None e = cc
  chain_made (Some d) (Some m) e = let here : f d ≡ Ok m = cc in ap (λ r. Some r) (bind_at (f d) k m here)

  pub chain_refused : (before : Option S) (refusal : Refusal) → option_map f before ≡ option_map (λ _. Err refusal) before
      → option_map (chain f k) before ≡ option_map (λ _. Err refusal) before
  chain_refused None refusal e = refl
  chain_refused (Some d) refusal e = let here : f d ≡ Err refusal = cc in ap (λ r. Some r) (bind_err (f d) k refusal here)

module _ {S : Type 0} (f : ℕ → S → Result S Refusal) where
  -- the first of the `n - i` steps that are left, and the others
  one_and_others : (n i : ℕ) → i < n → (d : S) → each f (n - i) i d ≡ (f i d >>= each f (n - (i + 1)) (i + 1))
  one_and_others n i h d = let left : n - i ≡ suc (n - (i + 1)) = omega (arith, h) in ap (λ m. each f m i d) left

  -- a loop over the numbers below n that has carried out the steps below i carries out one more
  pub each_made : (n i : ℕ) (first before between : Option S) → i < n → option_map (each f n 0) first ≡ option_map (each f (n - i) i) before
      → option_map (f i) before ≡ option_map Ok between → option_map (each f n 0) first ≡ option_map (each f (n - (i + 1)) (i + 1)) between
  each_made n i first None None h e step = e
  each_made n i first None (Some m) h e step = cc
  each_made n i first (Some d) None h e step = cc
  each_made n i first (Some d) (Some m) h e step =
      let here : f i d ≡ Ok m = cc in
      e ∙ ap (λ r. Some r) (one_and_others n i h d ∙ bind_at (f i d) (each f (n - (i + 1)) (i + 1)) m here)

  -- if one more step is refused, so is the whole loop
  pub each_refused : (n i : ℕ) (first before : Option S) (refusal : Refusal) → i < n → option_map (each f n 0) first ≡ option_map (each f (n - i) i) before
      → option_map (f i) before ≡ option_map (λ _. Err refusal) before → option_map (each f n 0) first ≡ option_map (λ _. Err refusal) first
  each_refused n i None None refusal h e step = refl
  each_refused n i (Some s) None refusal h e step = cc
  each_refused n i None (Some d) refusal h e step = cc
  each_refused n i (Some s) (Some d) refusal h e step =
      let here : f i d ≡ Err refusal = cc in
      e ∙ ap (λ r. Some r) (one_and_others n i h d ∙ bind_err (f i d) (each f (n - (i + 1)) (i + 1)) refusal here)
