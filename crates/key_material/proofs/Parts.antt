-- Loops over the parts of a text.
use Rattle.std.proofs.Common.{◌≡◌, ℕ, ◌+◌, ◌<◌, ◌&&◌, Bool, true, false, List, drop, length, get_or, sym, ap, ◌∙◌}
use Rattle.std.specs.List.{list_all}
use Rattle.std.proofs.lemmas.List.{at_drop_more}

module _ (test : List ℕ → Bool) (parts : List (List ℕ)) (n : ℕ) (part : List ℕ) (at : (n < length parts) × (part ≡ get_or parts n part)) where
  -- all parts from one on pass a test if that part does and all parts after it do
  list_all-part : list_all test (drop n parts) ≡ (test part && list_all test (drop (n + 1) parts))
  list_all-part = at_drop_more (list_all test) parts n part at.0 ∙ ap (λ x. test x && list_all test (drop (n + 1) parts)) (sym at.1)

  pub all-without : test part ≡ false → list_all test (drop n parts) ≡ false
  all-without is = list_all-part ∙ ap (λ b. b && list_all test (drop (n + 1) parts)) is

  pub all-with : test part ≡ true → list_all test (drop n parts) ≡ list_all test (drop (n + 1) parts)
  all-with is = list_all-part ∙ ap (λ b. b && list_all test (drop (n + 1) parts)) is
