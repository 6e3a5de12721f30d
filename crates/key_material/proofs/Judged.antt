-- The laws on policies, by the members of the object.
use Rattle.std.proofs.Common.{◌≡◌, ◌⊎◌, inl, inr, ℕ, ◌&&◌, ◌||◌, Bool, true, false, not, List, [], Option, Some, None, IsSome, IfSome, is_some, option_and_then, Result, Ok, Err, refl, sym, ap, subst, ◌∙◌}
use Rattle.std.specs.Prelude.{⊤}
use Rattle.std.specs.Option.{ok_or, option_or}
use Rattle.std.proofs.lemmas.Bool.{false≢true, and_parts}
use Rattle.pme_base.specs.Steps.{◌>>=◌}
use Rattle.json_text.specs.Data.{Data, Members}
use Rattle.json_text.specs.Find.{get, get_member, as_object}
use Rattle.json_text.specs.Json.{json_of, object_of}
use Rattle.json_text.specs.Members.{first_bad}
use Rattle.json_text.specs.Order.{AreInByteOrder}
use Rattle.json_text.proofs.Order.{in_byte_order}
use Rattle.key_material.specs.declared.policy.Policy.{Policy}
use Rattle.key_material.specs.Names as name
use Rattle.key_material.specs.PolicyValues.{id_in}
use Rattle.key_material.specs.PolicyText.{is_good, is_known, is_replaced, names_keys, names_layout, names_switch, is_uniform, footer_id, settings, none_bad, policy_of_members, policy_of, policy_of_text}
use Rattle.key_material.specs.PolicyLaws.{AllGood, IsFirstBad, HasNoKey, IsRefusedBy}
use Rattle.key_material.proofs.Taken.{after, there, refused, absent}
use Rattle.key_material.proofs.GoodNames.{good_at, object_of_members}
use Rattle.key_material.proofs.FirstBad.{is_first}

some_of : {T : Type 0} (o : Option T) (x : T) → o ≡ Some x → IsSome o
some_of (Some y) x is = refl
some_of None x is = cc is

module _ (d : Data) (ms : Members) (is_object : as_object d ≡ Some ms) where
  abbrev good : List ℕ → Data → Bool
  good = is_good (is_uniform d)

  member_of : (n : List ℕ) (o : Option Data) → get n d ≡ o → get_member n ms ≡ o
  member_of n o is = ap (get n) (sym (object_of_members d ms is_object)) ∙ is

  got : (n : List ℕ) (o : Option Data) → get_member n ms ≡ o → get n d ≡ o
  got n o is = ap (get n) (object_of_members d ms is_object) ∙ is

  all_good : first_bad good ms ≡ None → AllGood d
  all_good is n value stands = good_at good ms n value is (member_of n (Some value) stands)

  first_bad_of : (n : List ℕ) → AreInByteOrder ms → first_bad good ms ≡ Some n → IsFirstBad d n
  first_bad_of n ordered is =
      let first = is_first good ms n ordered is in
      record {
        value = first.value;
        stands = got n (Some first.value) first.stands;
        bad = first.bad;
        first = λ m other less stands. first.first m other less (member_of m (Some other) stands);
      }

  -- a valid name for the footer key holds a key id
  four : (b : Bool) → (b || false || false || false || false) ≡ true → b ≡ true
  four true is = refl
  four false is = cc is

  five : (b : Bool) → (b || false || false || false || false || false) ≡ true → b ≡ true
  five true is = refl
  five false is = cc is

  uniform_has_id : (value : Data) → is_known name.uniform_key value ≡ true → is_some (id_in value) ≡ true
  unfolding is_known names_keys names_layout names_switch
  uniform_has_id value is = four (is_some (id_in value)) is

  footer_has_id : (value : Data) → is_known name.footer_key value ≡ true → is_some (id_in value) ≡ true
  unfolding is_known names_keys names_layout names_switch
  footer_has_id value is = five (is_some (id_in value)) is

  known : (n : List ℕ) (value : Data) → AllGood d → get n d ≡ Some value → is_known n value ≡ true
  unfolding is_good
  known n value all stands = (and_parts (not (is_uniform d && is_replaced n)) (is_known n value) (all n value stands)).1

  without_id : (o : Option (List ℕ)) → is_some o ≡ true → o ≡ None → ⊥
  without_id (Some x) some none = cc none
  without_id None some none = false≢true some

  no_footer_key : (o : Option Data) → get name.footer_key d ≡ o → AllGood d → option_and_then id_in o ≡ None → o ≡ None
  no_footer_key None stands all none = refl
  no_footer_key (Some value) stands all none = absurd (without_id (id_in value) (footer_has_id value (known name.footer_key value all stands)) none)

  no_key : (o : Option Data) → get name.uniform_key d ≡ o → AllGood d → option_and_then id_in (option_or o (get name.footer_key d)) ≡ None → (o ≡ None) × (get name.footer_key d ≡ None)
  no_key None stands all none = (refl, no_footer_key (get name.footer_key d) refl all none)
  no_key (Some value) stands all none = absurd (without_id (id_in value) (uniform_has_id value (known name.uniform_key value all stands)) none)

  has_no_key : AllGood d → footer_id d ≡ None → HasNoKey d
  unfolding footer_id
  has_no_key all none = no_key (get name.uniform_key d) refl all none

  bad_name : (o : Option (List ℕ)) (n : List ℕ) → none_bad o ≡ Err n → o ≡ Some n
  bad_name None n is = cc is
  bad_name (Some m) n is = let same : m ≡ n = cc is in ap Some same

  no_bad : (o : Option (List ℕ)) (x : ⊤) → none_bad o ≡ Ok x → o ≡ None
  no_bad None x is = refl
  no_bad (Some n) x is = cc is

  abbrev with_id : List ℕ → Result Policy (List ℕ)
  with_id id = Ok (settings d id)

  abbrev with_key : Result Policy (List ℕ)
  with_key = ok_or (footer_id d) name.footer_key >>= with_id

  never_err : (policy : Policy) (n : List ℕ) → Ok policy ≡ Err n → ⊥
  never_err policy n is = cc is

  members_accepted : (policy : Policy) → policy_of_members d ms ≡ Ok policy → AllGood d × ((id : List ℕ) × (footer_id d ≡ Some id) × (policy ≡ settings d id))
  members_accepted policy is =
      let none = after (none_bad (first_bad good ms)) (λ _. with_key) policy is in
      let id = after (ok_or (footer_id d) name.footer_key) with_id policy none.2 in
      let same : policy ≡ settings d id.0 = let e : with_id id.0 ≡ Ok policy = id.2 in cc in
      (all_good (no_bad (first_bad good ms) none.0 none.1), (id.0, there (footer_id d) name.footer_key id.0 id.1, same))

  members_refused : (n : List ℕ) → AreInByteOrder ms → policy_of_members d ms ≡ Err n → IsRefusedBy d n
  members_refused n ordered is =
      elim (refused (none_bad (first_bad good ms)) (λ _. with_key) n is) [
        | inl bad ↦ inl (first_bad_of n ordered (bad_name (first_bad good ms) n bad))
        | inr later ↦
            let all = all_good (no_bad (first_bad good ms) later.0 later.1) in
            elim (refused (ok_or (footer_id d) name.footer_key) with_id n later.2) [
              | inl none ↦ let missing = absent (footer_id d) name.footer_key n none in inr (all, has_no_key all missing.0, missing.1)
              | inr given ↦ absurd (never_err (settings d given.0) n given.2)
            ]
      ]

pub accepted : (bytes : List ℕ) (policy : Policy) → policy_of_text bytes ≡ Ok policy
    → (d : Data) × (json_of bytes ≡ Some d) × IsSome (as_object d) × AllGood d × ((id : List ℕ) × (footer_id d ≡ Some id) × (policy ≡ settings d id))
unfolding policy_of_text
accepted bytes policy is =
    let value = after (ok_or (json_of bytes) []) policy_of policy is in
    let members = after (ok_or (as_object value.0) []) (policy_of_members value.0) policy value.2 in
    let is_object = there (as_object value.0) [] members.0 members.1 in
    let judged = members_accepted value.0 members.0 is_object policy members.2 in
    (value.0, there (json_of bytes) [] value.0 value.1, some_of (as_object value.0) members.0 is_object, judged.0, judged.1)

in_order : (bytes : List ℕ) (d : Data) (ms : Members) → json_of bytes ≡ Some d → as_object d ≡ Some ms → AreInByteOrder ms
in_order bytes d ms is is_object =
    subst (λ o. IfSome o AreInByteOrder) (ap (option_and_then as_object) is ∙ is_object) (in_byte_order bytes)

pub refused_by : (bytes : List ℕ) (n : List ℕ) → policy_of_text bytes ≡ Err n
    → ((object_of bytes ≡ None) × (n ≡ [])) ⊎ ((d : Data) × (json_of bytes ≡ Some d) × IsSome (as_object d) × IsRefusedBy d n)
unfolding policy_of_text
refused_by bytes n is =
    elim (refused (ok_or (json_of bytes) []) policy_of n is) [
      | inl none ↦ let missing = absent (json_of bytes) [] n none in inl (ap (option_and_then as_object) missing.0, missing.1)
      | inr value ↦
          let read = there (json_of bytes) [] value.0 value.1 in
          elim (refused (ok_or (as_object value.0) []) (policy_of_members value.0) n value.2) [
            | inl none ↦ let missing = absent (as_object value.0) [] n none in inl (ap (option_and_then as_object) read ∙ missing.0, missing.1)
            | inr members ↦
                let is_object = there (as_object value.0) [] members.0 members.1 in
                inr (value.0, read, some_of (as_object value.0) members.0 is_object, members_refused value.0 members.0 is_object n (in_order bytes value.0 members.0 read is_object) members.2)
          ]
    ]
