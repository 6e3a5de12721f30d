-- If an object has no bad name, each of its members passes the test.
use Rattle.std.proofs.Common.{◌≡◌, ℕ, List, Bool, true, false, Option, Some, None, if◌then◌else◌, refl, sym, ap, subst, ◌∙◌}
use Rattle.std.specs.Ordering.{nat_cmp, match_ordering, is_eq}
use Rattle.std.specs.declared.cmp.Ordering.TheVariants.{Less, Equal, Greater}
use Rattle.std.specs.Cmp.Lexicographic.{slice_cmp}
use Rattle.std.specs.Bool.{Decides}
use Rattle.std.proofs.lemmas.Slice.Eq.{bytes_eq-Decides}
use Rattle.std.proofs.lemmas.Map.Text.{is_eq-slice_cmp}
use Rattle.json_text.specs.Data.{Data, null, boolean, number, string, array, object, Members, no_members, member}
use Rattle.json_text.specs.Find.{get_member, as_object}
use Rattle.json_text.specs.Members.{first_bad}

pub same_name : (n l : List ℕ) → slice_cmp nat_cmp n l ≡ Equal → n ≡ l
same_name n l equal = (subst (λ b. Decides b (n ≡ l)) (sym (is_eq-slice_cmp n l) ∙ ap is_eq equal) (bytes_eq-Decides n l)).0 refl

pub object_of_members : (d : Data) (ms : Members) → as_object d ≡ Some ms → d ≡ object ms
object_of_members null ms is = cc is
object_of_members (boolean b) ms is = cc is
object_of_members (number n) ms is = cc is
object_of_members (string s) ms is = cc is
object_of_members (array ds) ms is = cc is
object_of_members (object es) ms is = cc is

module _ (test : List ℕ → Data → Bool) where
  first_is_good : (good : Bool) (name : List ℕ) (rest : Option (List ℕ)) → (if good then rest else Some name) ≡ None → (good ≡ true) × (rest ≡ None)
  first_is_good true name rest is = (refl, is)
  first_is_good false name rest is = cc is

  pub good_at : (ms : Members) (n : List ℕ) (d : Data) → first_bad test ms ≡ None → get_member n ms ≡ Some d → test n d ≡ true
  good_at no_members n d good is = cc is
  good_at (member l e ms) n d good is =
      let both = first_is_good (test l e) l (first_bad test ms) good in
      elim (slice_cmp nat_cmp n l) as (λ o. slice_cmp nat_cmp n l ≡ o → match_ordering o (get_member n ms) (Some e) (get_member n ms) ≡ Some d → test n d ≡ true) [
        | Less ↦ λ _ later. good_at ms n d both.1 later
        | Equal ↦ λ equal here.
            let name : n ≡ l = same_name n l equal in
            let value : e ≡ d = cc here in
            subst (λ v. test n v ≡ true) value (subst (λ m. test m e ≡ true) (sym name) both.0)
        | Greater ↦ λ _ later. good_at ms n d both.1 later
      ] refl is
