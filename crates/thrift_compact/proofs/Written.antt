-- The writer's calls for a struct write its spelling.
use Rattle.std.proofs.Common.{◌≡◌, ℕ, suc, ◌+◌, ◌-◌, ℤ, pos, refl, sym, ◌∙◌, ap, subst, List, [], ◌∷◌, ◌++◌, append_assoc, append-nil, length, Option, Some, None, arith, true, FitsSigned, w16, int_lt}
use Rattle.thrift_compact.specs.declared.kind.TKind.{TKind}
use Rattle.thrift_compact.specs.declared.kind.TKind.TheVariants as kind
use Rattle.thrift_compact.specs.declared.writer.Part.{Part}
use Rattle.thrift_compact.specs.declared.writer.Part.TheVariants as part
use Rattle.thrift_compact.specs.Calls as call
use Rattle.thrift_compact.specs.Described.{field_calls, value_calls, item_calls, one_item_calls, calls_of, IsDescribed, AreFields, AreItems, IsItem, IsAbove, Runs, WritesCanonically, WritesWhatIsDescribed}
use Rattle.thrift_compact.specs.Spelling.{spelling, items_spelling, fields_spelling, field_head_of, list_head_of, items_kind, element_kind, within, ordered, ordered_items, ordered_parts, below_ids}
use Rattle.thrift_compact.specs.Ordered.{ascend, floor_of}
use Rattle.thrift_compact.proofs.Arranged.{ascending_new}
use Rattle.thrift_compact.proofs.Selection.{ascending_stays}
use Rattle.thrift_compact.proofs.Spelled.{spelled}
use Rattle.thrift_compact.specs.Grammar.{Spells}
use Rattle.thrift_compact.specs.Proper.{AllOfKind, AreDistinct, ids_of, IsProper, AllProper, FieldsProper, FitsTypes, AllFit, FieldsFit}
use Rattle.thrift_compact.specs.View.{fields_of}
use Rattle.std.proofs.lemmas.Int.{ints}
use Rattle.thrift_compact.specs.Tree.{Tree, truth, int8, int16, int32, int64, double, binary, list, set, map, struct, Trees, no_trees, tree, Fields, no_fields, field, count, kind_of_tree}
use Rattle.thrift_compact.specs.Writing.{Draft, new_draft, finished, after, resumed, id_before, named_kind, Follows}

-- runs of calls one after another are a run of all calls
pub runs-append : (cs ds : List call.Call) (a b c : Draft) → Runs cs a b → Runs ds b c → Runs (cs ++ ds) a c
runs-append [] ds a b c first second = subst (λ d. Runs ds d c) (sym first) second
runs-append (x ∷ cs) ds a b c first second = (first.0, runs-append cs ds (after x a) b c first.1 second)

pub runs-to : (cs : List call.Call) (a b c : Draft) → b ≡ c → Runs cs a b → Runs cs a c
runs-to cs a b c e run = subst (λ d. Runs cs a d) e run

abbrev pub draft : List ℕ → Part → List Part → Draft
draft out inner outer = record { out = out; inner = inner; outer = outer }

-- the head of a list has the kind of its items, since calls can't write lists of booleans
pub named : (depth : ℕ) (ts : Trees) → AreItems depth (items_kind ts) ts → named_kind (items_kind ts) (count ts) ≡ items_kind ts
named depth no_trees are = refl
named depth (tree (int8 z) ts) are = refl
named depth (tree (int16 z) ts) are = refl
named depth (tree (int32 z) ts) are = refl
named depth (tree (int64 z) ts) are = refl
named depth (tree (binary bytes) ts) are = refl
named depth (tree (struct fs) ts) are = refl
named depth (tree (truth t) ts) are = absurd are.1
named depth (tree (double bytes) ts) are = absurd are.1
named depth (tree (list us) ts) are = absurd are.1
named depth (tree (set us) ts) are = absurd are.1
named depth (tree (map ps) ts) are = absurd are.1

pub follows : (last : Option ℤ) (id : ℤ) → IsAbove last id → Follows id (part.Struct last)
follows None id above = above
follows (Some last) id above = above

-- the bytes after a field's head, its value, and what follows them
pub past_head : (out head value : List ℕ) → (out ++ (head ++ [])) ++ value ≡ out ++ (head ++ value)
past_head out head value = ap (λ h. (out ++ h) ++ value) (append-nil head) ∙ append_assoc out head value

pub past_value : (out head value rest : List ℕ) → (out ++ (head ++ value)) ++ rest ≡ out ++ (head ++ (value ++ rest))
past_value out head value rest = append_assoc out (head ++ value) rest ∙ ap (λ n. out ++ n) (append_assoc head value rest)

one_fewer : (n : ℕ) → suc n - 1 ≡ n
one_fewer n = omega arith

mutual
  pub value-runs :
      (depth : ℕ) (t : Tree) (id : ℤ) (last : Option ℤ) (out : List ℕ) (outer : List Part)
      → depth + length outer ≡ 31 → IsAbove last id → IsDescribed depth t
      → Runs (value_calls id t) (draft out (part.Struct last) outer) (draft (out ++ (field_head_of (id_before (part.Struct last)) id (kind_of_tree t) ++ spelling t)) (part.Struct (Some id)) outer)
  value-runs depth (truth t) id last out outer deep above is_one = (follows last id above, refl)
  value-runs depth (int8 z) id last out outer deep above is_one = ((follows last id above, is_one), refl)
  value-runs depth (int16 z) id last out outer deep above is_one = ((follows last id above, is_one), refl)
  value-runs depth (int32 z) id last out outer deep above is_one = ((follows last id above, is_one), refl)
  value-runs depth (int64 z) id last out outer deep above is_one = ((follows last id above, is_one), refl)
  value-runs depth (binary bytes) id last out outer deep above is_one = ((follows last id above, is_one.0), refl)
  value-runs depth (struct fs) id last out outer deep above is_one =
      let head = field_head_of (id_before (part.Struct last)) id kind.Struct in (
        (follows last id above, omega (arith, deep, is_one.1)),
        runs-to (field_calls fs ++ call.struct_end ∷ []) _ _ _ (ap (λ o. draft o (part.Struct (Some id)) outer) (past_head out head (fields_spelling (pos 0) fs)))
            (fields-run is_one.0 fs None (out ++ (head ++ [])) (part.Struct (Some id) ∷ outer) (omega (arith, deep, is_one.1)) is_one.2),
      )
  value-runs depth (list ts) id last out outer deep above is_one =
      let head = field_head_of (id_before (part.Struct last)) id kind.List in
      let named_head = list_head_of (named_kind (items_kind ts) (count ts)) (count ts) in (
        (follows last id above, omega (arith, deep, is_one.1), is_one.2),
        runs-to (item_calls ts) _ _ _
            (ap (λ o. draft o (part.Struct (Some id)) outer) (past_value out head named_head (items_spelling ts) ∙ ap (λ k. out ++ (head ++ (list_head_of k (count ts) ++ items_spelling ts))) (named is_one.0 ts is_one.3)))
            (items-run is_one.0 (items_kind ts) ts (out ++ (head ++ named_head)) (part.Struct (Some id) ∷ outer) (omega (arith, deep, is_one.1)) is_one.3),
      )
  value-runs depth (double bytes) id last out outer deep above is_one = absurd is_one
  value-runs depth (set ts) id last out outer deep above is_one = absurd is_one
  value-runs depth (map ps) id last out outer deep above is_one = absurd is_one

  pub fields-run :
      (depth : ℕ) (fs : Fields) (last : Option ℤ) (out : List ℕ) (outer : List Part)
      → depth + length outer ≡ 31 → AreFields depth last fs
      → Runs (field_calls fs ++ call.struct_end ∷ []) (draft out (part.Struct last) outer) (resumed (out ++ fields_spelling (id_before (part.Struct last)) fs) outer)
  fields-run depth no_fields last out outer deep are = (tt, refl)
  fields-run depth (field id t fs) last out outer deep are =
      let head = field_head_of (id_before (part.Struct last)) id (kind_of_tree t) in
      let ending = call.struct_end ∷ [] in
      let whole = resumed (out ++ (head ++ (spelling t ++ fields_spelling id fs))) outer in
      let first = value-runs depth t id last out outer deep are.1 are.2 in
      let others = fields-run depth fs (Some id) (out ++ (head ++ spelling t)) outer deep are.3 in
      let moved = runs-to (field_calls fs ++ ending) _ _ whole (ap (λ o. resumed o outer) (past_value out head (spelling t) (fields_spelling id fs))) others in
      subst (λ cs. Runs cs (draft out (part.Struct last) outer) whole) (sym (append_assoc (value_calls id t) (field_calls fs) ending))
      (runs-append (value_calls id t) (field_calls fs ++ ending) _ _ whole first moved)

  pub items-run :
      (depth : ℕ) (k : TKind) (ts : Trees) (out : List ℕ) (outer : List Part)
      → depth + length outer ≡ 31 → AreItems depth k ts
      → Runs (item_calls ts) (resumed out (part.List k (count ts) ∷ outer)) (resumed (out ++ items_spelling ts) outer)
  items-run depth k no_trees out outer deep are = ap (λ o. resumed o outer) (sym (append-nil out))
  items-run depth k (tree t ts) out outer deep are =
      let value = within t (spelling t) in
      let n = count ts in
      let counted = subst (λ m. Runs (one_item_calls t) (draft out (part.List (element_kind t) (suc n)) outer) (resumed (out ++ value) (part.List (element_kind t) m ∷ outer))) (one_fewer n) (item-runs depth t n out outer deep are.1) in
      let first = subst (λ e. Runs (one_item_calls t) (draft out (part.List e (suc n)) outer) (resumed (out ++ value) (part.List e n ∷ outer))) are.0 counted in
      let others = items-run depth k ts (out ++ value) outer deep are.2 in
      let moved = runs-to (item_calls ts) _ _ _ (ap (λ o. resumed o outer) (append_assoc out value (items_spelling ts))) others in
      runs-append (one_item_calls t) (item_calls ts) _ _ _ first moved

  pub item-runs :
      (depth : ℕ) (t : Tree) (n : ℕ) (out : List ℕ) (outer : List Part)
      → depth + length outer ≡ 31 → IsItem depth t
      → Runs (one_item_calls t) (draft out (part.List (element_kind t) (suc n)) outer) (resumed (out ++ within t (spelling t)) (part.List (element_kind t) (suc n - 1) ∷ outer))
  item-runs depth (int8 z) n out outer deep is_one = (((refl, omega arith), is_one), refl)
  item-runs depth (int16 z) n out outer deep is_one = (((refl, omega arith), is_one), refl)
  item-runs depth (int32 z) n out outer deep is_one = (((refl, omega arith), is_one), refl)
  item-runs depth (int64 z) n out outer deep is_one = (((refl, omega arith), is_one), refl)
  item-runs depth (binary bytes) n out outer deep is_one = (((refl, omega arith), is_one.0), refl)
  item-runs depth (struct fs) n out outer deep is_one = (
    ((refl, omega arith), omega (arith, deep, is_one.1)),
    fields-run is_one.0 fs None out (part.List kind.Struct (suc n - 1) ∷ outer) (omega (arith, deep, is_one.1)) is_one.2,
  )
  item-runs depth (truth t) n out outer deep is_one = absurd is_one
  item-runs depth (double bytes) n out outer deep is_one = absurd is_one
  item-runs depth (list ts) n out outer deep is_one = absurd is_one
  item-runs depth (set ts) n out outer deep is_one = absurd is_one
  item-runs depth (map ps) n out outer deep is_one = absurd is_one

-- the ids of fields that calls can write ascend
above_floor : (last : Option ℤ) (id : ℤ) → FitsSigned w16 id → IsAbove last id → int_lt (floor_of last) id ≡ true
above_floor None id fits above = grind (arith, ints, fits)
above_floor (Some last) id fits above = grind (arith, ints, above)

pub ids-ascend : (depth : ℕ) (last : Option ℤ) (fs : Fields) → AreFields depth last fs → ascend (floor_of last) (ordered_parts fs) ≡ true
ids-ascend depth last no_fields are = refl
ids-ascend depth last (field id t fs) are = rw (above_floor last id are.0 are.1) (ids-ascend depth (Some id) fs are.3)

-- sorting changes no tree that calls can write
mutual
  pub stays : (depth : ℕ) (t : Tree) → IsDescribed depth t → ordered t ≡ t
  stays depth (truth t) is_one = refl
  stays depth (int8 z) is_one = refl
  stays depth (int16 z) is_one = refl
  stays depth (int32 z) is_one = refl
  stays depth (int64 z) is_one = refl
  stays depth (binary bytes) is_one = refl
  stays depth (struct fs) is_one =
      ap (λ ps. struct (fields_of ps)) (ascending_stays below_ids (ordered_parts fs) (ids-ascend is_one.0 None fs is_one.2)) ∙ ap struct (fields-stay is_one.0 None fs is_one.2)
  stays depth (list ts) is_one = ap list (items-stay is_one.0 (items_kind ts) ts is_one.3)
  stays depth (double bytes) is_one = absurd is_one
  stays depth (set ts) is_one = absurd is_one
  stays depth (map ps) is_one = absurd is_one

  fields-stay : (depth : ℕ) (last : Option ℤ) (fs : Fields) → AreFields depth last fs → fields_of (ordered_parts fs) ≡ fs
  fields-stay depth last no_fields are = refl
  fields-stay depth last (field id t fs) are =
      ap (λ u. field id u (fields_of (ordered_parts fs))) (stays depth t are.2) ∙ ap (field id t) (fields-stay depth (Some id) fs are.3)

  items-stay : (depth : ℕ) (k : TKind) (ts : Trees) → AreItems depth k ts → ordered_items ts ≡ ts
  items-stay depth k no_trees are = refl
  items-stay depth k (tree t ts) are =
      ap (λ u. tree u (ordered_items ts)) (item-stays depth t are.1) ∙ ap (tree t) (items-stay depth k ts are.2)

  item-stays : (depth : ℕ) (t : Tree) → IsItem depth t → ordered t ≡ t
  item-stays depth (int8 z) is_one = refl
  item-stays depth (int16 z) is_one = refl
  item-stays depth (int32 z) is_one = refl
  item-stays depth (int64 z) is_one = refl
  item-stays depth (binary bytes) is_one = refl
  item-stays depth (struct fs) is_one =
      ap (λ ps. struct (fields_of ps)) (ascending_stays below_ids (ordered_parts fs) (ids-ascend is_one.0 None fs is_one.2)) ∙ ap struct (fields-stay is_one.0 None fs is_one.2)
  item-stays depth (truth t) is_one = absurd is_one
  item-stays depth (double bytes) is_one = absurd is_one
  item-stays depth (list ts) is_one = absurd is_one
  item-stays depth (set ts) is_one = absurd is_one
  item-stays depth (map ps) is_one = absurd is_one

-- the calls for the outermost struct write its fields in their order
pub struct-runs : (fs : Fields) → IsDescribed 32 (struct fs) → Runs (calls_of fs) new_draft (finished (spelling (struct fs)))
struct-runs fs is_one = (
  (tt, omega arith),
  fields-run is_one.0 fs None [] [] (omega (arith, is_one.1)) is_one.2,
)

pub writes-canonically : WritesCanonically
writes-canonically fs is_one =
    runs-to (calls_of fs) new_draft _ _ (ap (λ t. finished (spelling t)) (sym (stays 32 (struct fs) is_one))) (struct-runs fs is_one)

-- a tree that calls can write is proper and fits its types
of-kind : (depth : ℕ) (k : TKind) (ts : Trees) → AreItems depth k ts → AllOfKind k ts
of-kind depth k no_trees are = tt
of-kind depth k (tree t ts) are = (are.0, of-kind depth k ts are.2)

distinct-ids : (depth : ℕ) (fs : Fields) → AreFields depth None fs → AreDistinct (ids_of fs)
distinct-ids depth fs are =
    subst (λ gs. AreDistinct (ids_of gs)) (fields-stay depth None fs are) (ascending_new below_ids [] (ordered_parts fs) tt (ids-ascend depth None fs are))

mutual
  described-proper : (depth : ℕ) (t : Tree) → IsDescribed depth t → IsProper depth t
  described-proper depth (truth t) is_one = tt
  described-proper depth (int8 z) is_one = tt
  described-proper depth (int16 z) is_one = tt
  described-proper depth (int32 z) is_one = tt
  described-proper depth (int64 z) is_one = tt
  described-proper depth (binary bytes) is_one = is_one.0
  described-proper depth (struct fs) is_one =
      (is_one.0, is_one.1, distinct-ids is_one.0 fs is_one.2, fields-proper is_one.0 None fs is_one.2)
  described-proper depth (list ts) is_one = (
    is_one.0,
    is_one.1,
    is_one.2,
    (items_kind ts, of-kind is_one.0 (items_kind ts) ts is_one.3),
    items-proper is_one.0 (items_kind ts) ts is_one.3,
  )
  described-proper depth (double bytes) is_one = absurd is_one
  described-proper depth (set ts) is_one = absurd is_one
  described-proper depth (map ps) is_one = absurd is_one

  fields-proper : (depth : ℕ) (last : Option ℤ) (fs : Fields) → AreFields depth last fs → FieldsProper depth fs
  fields-proper depth last no_fields are = tt
  fields-proper depth last (field id t fs) are = (described-proper depth t are.2, fields-proper depth (Some id) fs are.3)

  items-proper : (depth : ℕ) (k : TKind) (ts : Trees) → AreItems depth k ts → AllProper depth ts
  items-proper depth k no_trees are = tt
  items-proper depth k (tree t ts) are = (item-proper depth t are.1, items-proper depth k ts are.2)

  item-proper : (depth : ℕ) (t : Tree) → IsItem depth t → IsProper depth t
  item-proper depth (int8 z) is_one = tt
  item-proper depth (int16 z) is_one = tt
  item-proper depth (int32 z) is_one = tt
  item-proper depth (int64 z) is_one = tt
  item-proper depth (binary bytes) is_one = is_one.0
  item-proper depth (struct fs) is_one =
      (is_one.0, is_one.1, distinct-ids is_one.0 fs is_one.2, fields-proper is_one.0 None fs is_one.2)
  item-proper depth (truth t) is_one = absurd is_one
  item-proper depth (double bytes) is_one = absurd is_one
  item-proper depth (list ts) is_one = absurd is_one
  item-proper depth (set ts) is_one = absurd is_one
  item-proper depth (map ps) is_one = absurd is_one

mutual
  described-fits : (depth : ℕ) (t : Tree) → IsDescribed depth t → FitsTypes t
  described-fits depth (truth t) is_one = tt
  described-fits depth (int8 z) is_one = is_one
  described-fits depth (int16 z) is_one = is_one
  described-fits depth (int32 z) is_one = is_one
  described-fits depth (int64 z) is_one = is_one
  described-fits depth (binary bytes) is_one = is_one.1
  described-fits depth (struct fs) is_one = fields-fit is_one.0 None fs is_one.2
  described-fits depth (list ts) is_one = items-fit is_one.0 (items_kind ts) ts is_one.3
  described-fits depth (double bytes) is_one = absurd is_one
  described-fits depth (set ts) is_one = absurd is_one
  described-fits depth (map ps) is_one = absurd is_one

  fields-fit : (depth : ℕ) (last : Option ℤ) (fs : Fields) → AreFields depth last fs → FieldsFit fs
  fields-fit depth last no_fields are = tt
  fields-fit depth last (field id t fs) are = (are.0, described-fits depth t are.2, fields-fit depth (Some id) fs are.3)

  items-fit : (depth : ℕ) (k : TKind) (ts : Trees) → AreItems depth k ts → AllFit ts
  items-fit depth k no_trees are = tt
  items-fit depth k (tree t ts) are = (item-fits depth t are.1, items-fit depth k ts are.2)

  item-fits : (depth : ℕ) (t : Tree) → IsItem depth t → FitsTypes t
  item-fits depth (int8 z) is_one = is_one
  item-fits depth (int16 z) is_one = is_one
  item-fits depth (int32 z) is_one = is_one
  item-fits depth (int64 z) is_one = is_one
  item-fits depth (binary bytes) is_one = is_one.1
  item-fits depth (struct fs) is_one = fields-fit is_one.0 None fs is_one.2
  item-fits depth (truth t) is_one = absurd is_one
  item-fits depth (double bytes) is_one = absurd is_one
  item-fits depth (list ts) is_one = absurd is_one
  item-fits depth (set ts) is_one = absurd is_one
  item-fits depth (map ps) is_one = absurd is_one

pub writes-what-is-described : WritesWhatIsDescribed
writes-what-is-described fs is_one =
    let whole = struct fs in
    subst (λ t. Spells 32 kind.Struct whole (spelling t)) (sym (stays 32 whole is_one))
    (spelled 32 whole (described-proper 32 whole is_one) (described-fits 32 whole is_one))
