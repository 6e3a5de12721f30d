-- The keys of a tree, each a list of bytes, as a set.
use Rattle.std.proofs.Common.{◌≡◌, ℕ, Bool, true, false, ◌||◌, List, [], ◌∷◌, map, refl, sym, ap, ◌∙◌}
use Rattle.std.specs.declared.cmp.Ordering.{Ordering}
use Rattle.std.specs.declared.cmp.Ordering.TheVariants.{Less, Equal, Greater}
use Rattle.std.specs.Ordering.{nat_cmp, is_eq, eq_by_cmp, match_ordering}
use Rattle.std.specs.Cmp.Lexicographic.{slice_cmp, nat_list_cmp_total}
use Rattle.std.specs.List.{list_any}
use Rattle.std.specs.BTreeSet.{insert_key}
use Rattle.std.specs.FinSet.{FinSet, contains, insert, from_list, contains-insert, contains-from_list, same_set, nat_cmp-IsAntisymmetric, slice_cmp-IsAntisymmetric}

or_twice : (a b : Bool) → (a || (a || b)) ≡ (a || b)
or_twice true b = refl
or_twice false b = refl

or_swap : (a b c : Bool) → (a || (b || c)) ≡ (b || (a || c))
or_swap true true c = refl
or_swap true false c = refl
or_swap false b c = refl

module _ {V : Type 0} (bytes : V → List ℕ) where
  abbrev by_bytes : V → V → Ordering
  by_bytes x y = slice_cmp nat_cmp (bytes x) (bytes y)

  abbrev pub set_of : List V → FinSet (slice_cmp nat_cmp)
  set_of keys = from_list (map bytes keys)

  finds_inserted : (p : List ℕ → Bool) (keys : List V) (k : V) → list_any p (map bytes (insert_key by_bytes keys k)) ≡ (p (bytes k) || list_any p (map bytes keys))
  finds_inserted p [] k = refl
  finds_inserted p (x ∷ xs) k =
      elim (by_bytes k x) as (λ o. by_bytes k x ≡ o → list_any p (map bytes (match_ordering o (k ∷ x ∷ xs) (x ∷ xs) (x ∷ insert_key by_bytes xs k))) ≡ (p (bytes k) || (p (bytes x) || list_any p (map bytes xs)))) [
        | Less ↦ λ _. refl
        | Equal ↦ λ tie. sym (ap (λ b. p b || (p (bytes x) || list_any p (map bytes xs))) (slice_cmp-IsAntisymmetric nat_cmp-IsAntisymmetric (bytes k) (bytes x) tie) ∙ or_twice (p (bytes x)) _)
        | Greater ↦ λ _. ap (λ b. p (bytes x) || b) (finds_inserted p xs k) ∙ or_swap (p (bytes x)) (p (bytes k)) _
      ] refl

  finds : (p : List ℕ → Bool) (keys : List V) → list_any p (map bytes keys) ≡ list_any (λ y. p (bytes y)) keys
  finds p [] = refl
  finds p (x ∷ xs) = ap (λ b. p (bytes x) || b) (finds p xs)

  pub contains_of : (keys : List V) (k : V) → contains (set_of keys) (bytes k) ≡ list_any (λ y. is_eq (slice_cmp nat_cmp (bytes k) (bytes y))) keys
  contains_of keys k =
      contains-from_list nat_list_cmp_total (map bytes keys) (bytes k) ∙ finds (eq_by_cmp (slice_cmp nat_cmp) (bytes k)) keys

  pub insert_of : (keys : List V) (k : V) → set_of (insert_key (λ x y. slice_cmp nat_cmp (bytes x) (bytes y)) keys k) ≡ insert (set_of keys) (bytes k)
  insert_of keys k =
      same_set nat_list_cmp_total (slice_cmp-IsAntisymmetric nat_cmp-IsAntisymmetric) _ _
      (λ q. contains-from_list nat_list_cmp_total _ q
      ∙ finds_inserted (eq_by_cmp (slice_cmp nat_cmp) q) keys k
      ∙ sym (contains-insert nat_list_cmp_total (set_of keys) (bytes k) q ∙ ap (λ b. eq_by_cmp (slice_cmp nat_cmp) q (bytes k) || b) (contains-from_list nat_list_cmp_total (map bytes keys) q)))
