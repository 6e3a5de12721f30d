-- Members are in byte order of their names, so the first bad one has the least of all bad names.
use Rattle.std.proofs.Common.{◌≡◌, ℕ, List, Bool, true, false, Some, None, if◌then◌else◌, refl, sym, ap, subst, ◌∙◌}
use Rattle.std.specs.Ordering.{nat_cmp, match_ordering, ordering_reverse}
use Rattle.std.specs.declared.cmp.Ordering.{Ordering}
use Rattle.std.specs.declared.cmp.Ordering.TheVariants.{Less, Equal, Greater}
use Rattle.std.specs.Cmp.Lexicographic.{slice_cmp}
use Rattle.std.proofs.lemmas.Cmp.{nat_list_cmp_total}
use Rattle.json_text.specs.Data.{Data, Members, no_members, member}
use Rattle.json_text.specs.Find.{get_member}
use Rattle.json_text.specs.Members.{first_bad}
use Rattle.json_text.specs.Order.{AllAfter, AreInByteOrder}
use Rattle.key_material.proofs.GoodNames.{same_name}

abbrev order : List ℕ → List ℕ → Ordering
order = slice_cmp nat_cmp

own_reverse : (o : Ordering) → o ≡ ordering_reverse o → o ≡ Equal
own_reverse Less is = cc is
own_reverse Equal is = refl
own_reverse Greater is = cc is

equal_itself : (n : List ℕ) → order n n ≡ Equal
equal_itself n = own_reverse (order n n) (nat_list_cmp_total.antisymm n n)

turned : (n l : List ℕ) → order l n ≡ Less → order n l ≡ Greater
turned n l less = nat_list_cmp_total.antisymm n l ∙ ap ordering_reverse less

here : (n l : List ℕ) (e : Data) (ms : Members) → order n l ≡ Equal → get_member n (member l e ms) ≡ Some e
here n l e ms equal = ap (λ o. match_ordering o (get_member n ms) (Some e) (get_member n ms)) equal

further : (n l : List ℕ) (e : Data) (ms : Members) → order n l ≡ Greater → get_member n (member l e ms) ≡ get_member n ms
further n l e ms greater = ap (λ o. match_ordering o (get_member n ms) (Some e) (get_member n ms)) greater

-- a name that comes before all names of the object isn't in it
none_before : (m l : List ℕ) (ms : Members) → order m l ≡ Less → AllAfter l ms → get_member m ms ≡ None
none_before m l no_members less after = refl
none_before m l (member k e ms) less after =
    let first : order m k ≡ Less = nat_list_cmp_total.trans m l k less after.0 in
    ap (λ o. match_ordering o (get_member m ms) (Some e) (get_member m ms)) first ∙ none_before m l ms less after.1

-- a name of the object comes after each name that all of them come after
is_after : (l n : List ℕ) (ms : Members) (value : Data) → AllAfter l ms → get_member n ms ≡ Some value → order l n ≡ Less
is_after l n no_members value after is = cc is
is_after l n (member k e ms) value after is =
    elim (order n k) as (λ o. order n k ≡ o → match_ordering o (get_member n ms) (Some e) (get_member n ms) ≡ Some value → order l n ≡ Less) [
      | Less ↦ λ _ later. is_after l n ms value after.1 later
      | Equal ↦ λ equal _. subst (λ m. order l m ≡ Less) (sym (same_name n k equal)) after.0
      | Greater ↦ λ _ later. is_after l n ms value after.1 later
    ] refl is

module _ (test : List ℕ → Data → Bool) where
  pub record IsFirst (ms : Members) (n : List ℕ) : Type 0 where
    pub value : Data
    pub stands : get_member n ms ≡ Some value
    pub bad : test n value ≡ false
    pub first : (m : List ℕ) (other : Data) → order m n ≡ Less → get_member m ms ≡ Some other → test m other ≡ true

  of_head : (l : List ℕ) (e : Data) (ms : Members) → AllAfter l ms → test l e ≡ false → IsFirst (member l e ms) l
  of_head l e ms after bad = record {
    value = e;
    stands = here l l e ms (equal_itself l);
    bad = bad;
    first = λ m other less is.
        let later : get_member m ms ≡ Some other = ap (λ o. match_ordering o (get_member m ms) (Some e) (get_member m ms)) (sym less) ∙ is in
        let none = none_before m l ms less after in
        cc;
  }

  of_rest : (l n : List ℕ) (e : Data) (ms : Members) → AllAfter l ms → test l e ≡ true → IsFirst ms n → IsFirst (member l e ms) n
  of_rest l n e ms after good rest = record {
    value = rest.value;
    stands = further n l e ms (turned n l (is_after l n ms rest.value after rest.stands)) ∙ rest.stands;
    bad = rest.bad;
    first = λ m other less is.
        elim (order m l) as (λ o. order m l ≡ o → match_ordering o (get_member m ms) (Some e) (get_member m ms) ≡ Some other → test m other ≡ true) [
          | Less ↦ λ _ later. rest.first m other less later
          | Equal ↦ λ equal found.
              let value : e ≡ other = cc found in
              subst (λ v. test m v ≡ true) value (subst (λ k. test k e ≡ true) (sym (same_name m l equal)) good)
          | Greater ↦ λ _ later. rest.first m other less later
        ] refl is;
  }

  pub is_first : (ms : Members) (n : List ℕ) → AreInByteOrder ms → first_bad test ms ≡ Some n → IsFirst ms n
  is_first no_members n ordered is = cc is
  is_first (member l e ms) n ordered is =
      elim (test l e) as (λ good. test l e ≡ good → (if good then first_bad test ms else Some l) ≡ Some n → IsFirst (member l e ms) n) [
        | true ↦ λ good later. of_rest l n e ms ordered.0 good (is_first ms n ordered.1 later)
        | false ↦ λ bad found. let same : l ≡ n = cc found in subst (IsFirst (member l e ms)) same (of_head l e ms ordered.0 bad)
      ] refl is
