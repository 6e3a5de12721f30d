-- The members of an object are in byte order, because each is inserted at its position.
use Rattle.std.proofs.Common.{◌≡◌, ℕ, List, true, false, Option, Some, None, IfSome, option_map, option_and_then, if◌then◌else◌, refl, ap, ◌∙◌}
use Rattle.std.specs.Ordering.{nat_cmp, match_ordering, ordering_reverse}
use Rattle.std.specs.declared.cmp.Ordering.{Ordering}
use Rattle.std.specs.declared.cmp.Ordering.TheVariants.{Less, Equal, Greater}
use Rattle.std.specs.Cmp.Lexicographic.{slice_cmp}
use Rattle.std.specs.Str.{is_utf8}
use Rattle.std.proofs.lemmas.Cmp.{nat_list_cmp_total}
use Rattle.json.specs.Json as json
use Rattle.json.specs.Lex.{tokens}
use Rattle.serde_json.specs.Data.{Data, null, boolean, number, string, array, object, Members, no_members, member, put}
use Rattle.serde_json.specs.Find.{as_object}
use Rattle.serde_json.specs.Read.{read, of_json, of_items, of_members, number_of, max_depth}
use Rattle.json_text.specs.Json.{json_of, object_of}
use Rattle.json_text.specs.Order.{AllAfter, AreInByteOrder}

abbrev order : List ℕ → List ℕ → Ordering
order = slice_cmp nat_cmp

AllAfter-earlier : (name later : List ℕ) (ms : Members) → order name later ≡ Less → AllAfter later ms → AllAfter name ms
AllAfter-earlier name later no_members first after = tt
AllAfter-earlier name later (member l d ms) first after =
    (nat_list_cmp_total.trans name later l first after.0, AllAfter-earlier name later ms first after.1)

AllAfter-put : (name k : List ℕ) (d : Data) (ms : Members) → order name k ≡ Less → AllAfter name ms → AllAfter name (put k d ms)
AllAfter-put name k d no_members first after = (first, tt)
AllAfter-put name k d (member l e ms) first after =
    elim (order k l) as (λ o. AllAfter name (match_ordering o (member k d (member l e ms)) (member l d ms) (member l e (put k d ms)))) [
      | Less ↦ (first, after)
      | Equal ↦ after
      | Greater ↦ (after.0, AllAfter-put name k d ms first after.1)
    ]

later : (k l : List ℕ) → order k l ≡ Greater → order l k ≡ Less
later k l greater = nat_list_cmp_total.antisymm l k ∙ ap ordering_reverse greater

AreInByteOrder-put : (k : List ℕ) (d : Data) (ms : Members) → AreInByteOrder ms → AreInByteOrder (put k d ms)
AreInByteOrder-put k d no_members ordered = (tt, tt)
AreInByteOrder-put k d (member l e ms) ordered =
    elim (order k l) as (λ o. order k l ≡ o → AreInByteOrder (match_ordering o (member k d (member l e ms)) (member l d ms) (member l e (put k d ms)))) [
      | Less ↦ λ first. ((first, AllAfter-earlier k l ms first ordered.0), ordered)
      | Equal ↦ λ _. ordered
      | Greater ↦ λ greater. (AllAfter-put l k d ms (later k l greater) ordered.0, AreInByteOrder-put k d ms ordered.1)
    ] refl

chained : {A B : Type 0} (o : Option A) (f : A → Option B) (y : B) → option_and_then f o ≡ Some y → (x : A) × (o ≡ Some x) × (f x ≡ Some y)
chained (Some x) f y is = (x, refl, is)
chained None f y is = cc is

mapped : {A B : Type 0} (o : Option A) (f : A → B) (y : B) → option_map f o ≡ Some y → (x : A) × (o ≡ Some x) × (f x ≡ y)
mapped (Some x) f y is = (x, refl, cc is)
mapped None f y is = cc is

members_read : (js : json.Members) (found ms : Members) → AreInByteOrder found → of_members js found ≡ Some ms → AreInByteOrder ms
members_read json.no_members found ms ordered is =
    let same : found ≡ ms = cc is in rw (← same) ordered
members_read (json.member k j js) found ms ordered is =
    let first = chained (of_json j) _ ms is in
    members_read js (put k first.0 found) ms (AreInByteOrder-put k first.0 found ordered) first.2

object_read : (j : json.Json) (ms : Members) → of_json j ≡ Some (object ms) → AreInByteOrder ms
object_read json.null ms is = cc is
object_read (json.boolean b) ms is = cc is
object_read (json.number s) ms is = let other = (mapped (number_of s) number (object ms) is).2 in cc other
object_read (json.string s) ms is = cc is
object_read (json.array js) ms is = let other = (mapped (of_items js) array (object ms) is).2 in cc other
object_read (json.object js) ms is =
    let read_as = mapped (of_members js no_members) object (object ms) is in
    let same : read_as.0 ≡ ms = cc read_as.2 in
    members_read js no_members ms tt (read_as.1 ∙ ap Some same)

value_read : (bytes : List ℕ) (d : Data) → json_of bytes ≡ Some d → (j : json.Json) × (of_json j ≡ Some d)
unfolding json_of
value_read bytes d is =
    elim (is_utf8 bytes) as (λ test. (if test then read bytes else None) ≡ Some d → (j : json.Json) × (of_json j ≡ Some d)) [
      | true ↦ λ h. let found = chained (option_and_then (λ p. json.if_last p.0 p.1) (json.value max_depth (tokens bytes))) of_json d h in (found.0, found.2)
      | false ↦ λ h. cc h
    ] is

object_in_order : (bytes : List ℕ) (d : Data) → json_of bytes ≡ Some d → IfSome (as_object d) AreInByteOrder
object_in_order bytes null is = tt
object_in_order bytes (boolean b) is = tt
object_in_order bytes (number n) is = tt
object_in_order bytes (string s) is = tt
object_in_order bytes (array ds) is = tt
object_in_order bytes (object ms) is = let found = value_read bytes (object ms) is in object_read found.0 ms found.1

pub in_byte_order : (bytes : List ℕ) → IfSome (object_of bytes) AreInByteOrder
in_byte_order bytes =
    elim (json_of bytes) as (λ o. json_of bytes ≡ o → IfSome (option_and_then as_object o) AreInByteOrder) [
      | Some d ↦ λ is. object_in_order bytes d is
      | None ↦ λ _. tt
    ] refl
