-- Whether an id is one of the ids after another one was appended.
use Rattle.std.proofs.Common.{◌≡◌, ◌-◌, ℤ, pos, ◌<ℤ◌, Bool, true, false, ◌||◌, cond, List, [], ◌∷◌, ◌++◌, length, get_or, length-append, refl, sym, ap, ◌∙◌, subst, arith}
use Rattle.std.specs.declared.cmp.Ordering.{Ordering}
use Rattle.std.specs.declared.cmp.Ordering.TheVariants.{Less, Equal, Greater}
use Rattle.std.specs.Ordering.{int_cmp, is_eq, MatchOrdering}
use Rattle.std.specs.Cmp.{int_ranks}
use Rattle.std.specs.BTreeSet.{BTreeSet, contains, Updates}
use Rattle.std.proofs.lemmas.Int.{ints}
use Rattle.std.proofs.lemmas.Option.{unwrap_or-slice_get}
use Rattle.thrift_compact.specs.Held.{IsKept, IsIndex}
use Rattle.thrift_compact.specs.Reading.{same_id, is_among}
use Rattle.thrift_compact.specs.Reading.{last as last_of}

or_none : (a : Bool) → (a || false) ≡ a
or_none true = refl
or_none false = refl

or_regroup : (a b c : Bool) → (a || (b || c)) ≡ ((a || b) || c)
or_regroup true b c = refl
or_regroup false b c = refl

pub among_pushed : (id x : ℤ) (ids : List ℤ) → is_among id (ids ++ x ∷ []) ≡ (is_among id ids || same_id x id)
among_pushed id x [] = or_none (same_id x id)
among_pushed id x (y ∷ ys) =
    ap (λ b. same_id y id || b) (among_pushed id x ys) ∙ or_regroup (same_id y id) (is_among id ys) (same_id x id)

by_order : (o : Ordering) (x id : ℤ) → MatchOrdering o (x <ℤ id) (x ≡ id) (id <ℤ x) → is_eq o ≡ same_id x id
by_order Less x id h = grind (arith, ints)
by_order Equal x id h = grind (arith, ints)
by_order Greater x id h = grind (arith, ints)

same_by_order : (x id : ℤ) → is_eq (int_cmp x id) ≡ same_id x id
same_by_order x id = by_order (int_cmp x id) x id (int_ranks x id)

or_by_cond : (a b : Bool) → cond b true a ≡ (a || b)
or_by_cond true true = refl
or_by_cond true false = refl
or_by_cond false true = refl
or_by_cond false false = refl

pub index_pushed : (before after : BTreeSet ℤ) (ids pushed : List ℤ) (x y : ℤ) → IsIndex before ids → y ≡ x → Updates int_cmp before after y true → pushed ≡ ids ++ x ∷ [] → IsIndex after pushed
index_pushed before after ids pushed x y index is updates added =
    let at_x = subst (λ (z : ℤ). Updates int_cmp before after z true) is updates in
    record {
      same = λ id. ap (is_among id) added ∙ (among_pushed id x ids ∙ sym (at_x.0 id ∙ (ap (λ b. cond b true (contains int_cmp before id)) (same_by_order x id) ∙ (or_by_cond (contains int_cmp before id) (same_id x id) ∙ ap (λ b. b || same_id x id) (sym (index.same id))))));
    }

at_end : (x d : ℤ) (ids : List ℤ) → get_or (ids ++ x ∷ []) (length ids) d ≡ x
at_end x d [] = refl
at_end x d (y ∷ ys) = at_end x d ys

last_pushed : (x : ℤ) (ids : List ℤ) → last_of (ids ++ x ∷ []) ≡ x
last_pushed x ids =
    let end : length (ids ++ x ∷ []) - 1 ≡ length ids = omega (arith, length-append ids (x ∷ [])) in
    unwrap_or-slice_get (ids ++ x ∷ []) (length (ids ++ x ∷ []) - 1) (pos 0) ∙ (ap (λ n. get_or (ids ++ x ∷ []) n (pos 0)) end ∙ at_end x (pos 0) ids)

not_same : (x id : ℤ) → x <ℤ id → same_id x id ≡ false
not_same x id h = grind (arith, ints)

pub kept_pushed : (last greatest top x : ℤ) (ids : List ℤ) → IsKept last greatest ids → ((id : ℤ) → top <ℤ id → (greatest <ℤ id) × (x <ℤ id)) → IsKept x top (ids ++ x ∷ [])
kept_pushed last greatest top x ids kept above = record {
  is_last = sym (last_pushed x ids);
  none_above = λ id h. among_pushed id x ids ∙ (ap (λ b. b || same_id x id) (kept.none_above id (above id h).0) ∙ not_same x id (above id h).1);
}
