-- The loops that read a list, a map or a struct: the parts that they have built, and the parts still to be read.
use Rattle.std.proofs.Common.{◌≡◌, ℕ, ◌+◌, ◌-◌, ◌<◌, ◌≤◌, suc, zero, ℤ, List, [], ◌∷◌, ◌++◌, length, Option, Some, None, Result, Ok, Err, refl, sym, ap, ◌∙◌, subst, arith, rules}
use Rattle.thrift_compact.specs.declared.tree.TVal.{TVal}
use Rattle.thrift_compact.specs.declared.tree.TVal.{the_lemmas}
use Rattle.thrift_compact.specs.declared.tree.TList.{TList}
use Rattle.thrift_compact.specs.declared.tree.TMap.{TMap}
use Rattle.thrift_compact.specs.declared.tree.TFields.{TFields}
use Rattle.thrift_compact.specs.Answers.{mapped, Adds}
use Rattle.thrift_compact.specs.declared.kind.TKind.{TKind}
use Rattle.thrift_compact.proofs.PartsLeft.{ItemsLeft, items_more, items_same, items_end, EntriesLeft, entries_more, entries_no_key, entries_no_value, entries_same, entries_end, FieldsLeft, fields_more, fields_same, fields_end}
use Rattle.thrift_compact.specs.Reading.{Fault, Read, element, nest, size_at, map_kinds, field_head}
use Rattle.thrift_compact.specs.Reading.{value as value_at}
use Rattle.thrift_compact.specs.Tree.{Tree, Trees, no_trees, tree, Pairs, no_pairs, pair, Fields, no_fields, field}
use Rattle.thrift_compact.specs.View.{view, list_view, map_view, struct_view, trees_view, pairs_view, fields_view}

abbrev pub trees_before : List TVal → Trees → Trees
trees_before [] ts = ts
trees_before (v ∷ vs) ts = tree (view v) (trees_before vs ts)

pub trees_pushed : (vs : List TVal) (v : TVal) (ts : Trees) → trees_before vs (tree (view v) ts) ≡ trees_before (vs ++ v ∷ []) ts
trees_pushed [] v ts = refl
trees_pushed (x ∷ vs) v ts = ap (tree (view x)) (trees_pushed vs v ts)

trees_end : (vs : List TVal) → trees_before vs no_trees ≡ trees_view vs
trees_end [] = refl
trees_end (x ∷ vs) = ap (tree (view x)) (trees_end vs)

abbrev pub pairs_before : List (TVal × TVal) → Pairs → Pairs
pairs_before [] ps = ps
pairs_before (p ∷ vs) ps = pair (view p.0) (view p.1) (pairs_before vs ps)

pub pairs_pushed : (vs : List (TVal × TVal)) (p : TVal × TVal) (ps : Pairs) → pairs_before vs (pair (view p.0) (view p.1) ps) ≡ pairs_before (vs ++ p ∷ []) ps
pairs_pushed [] p ps = refl
pairs_pushed (x ∷ vs) p ps = ap (pair (view x.0) (view x.1)) (pairs_pushed vs p ps)

pairs_end : (vs : List (TVal × TVal)) → pairs_before vs no_pairs ≡ pairs_view vs
pairs_end [] = refl
pairs_end (x ∷ vs) = ap (pair (view x.0) (view x.1)) (pairs_end vs)

abbrev pub fields_before : List (ℤ × TVal) → Fields → Fields
fields_before [] fs = fs
fields_before (f ∷ vs) fs = field f.0 (view f.1) (fields_before vs fs)

pub fields_pushed : (vs : List (ℤ × TVal)) (f : ℤ × TVal) (fs : Fields) → fields_before vs (field f.0 (view f.1) fs) ≡ fields_before (vs ++ f ∷ []) fs
fields_pushed [] f fs = refl
fields_pushed (x ∷ vs) f fs = ap (field x.0 (view x.1)) (fields_pushed vs f fs)

fields_end_at : (vs : List (ℤ × TVal)) → fields_before vs no_fields ≡ fields_view vs
fields_end_at [] = refl
fields_end_at (x ∷ vs) = ap (field x.0 (view x.1)) (fields_end_at vs)

abbrev pub list_of : List TVal → TList
list_of vs = record { items = vs }

abbrev pub map_of : List (TVal × TVal) → TMap
map_of ps = record { pairs = ps }

abbrev pub struct_of : List (ℤ × TVal) → TFields
struct_of fs = record { fields = fs }

list_view_is : (vs : List TVal) → list_view (list_of vs) ≡ trees_view vs
list_view_is vs = search (rules, the_lemmas)

map_view_is : (ps : List (TVal × TVal)) → map_view (map_of ps) ≡ pairs_view ps
map_view_is ps = search (rules, the_lemmas)

struct_view_is : (fs : List (ℤ × TVal)) → struct_view (struct_of fs) ≡ fields_view fs
struct_view_is fs = search (rules, the_lemmas)

pub list_built : (vs : List TVal) → trees_before vs no_trees ≡ list_view (list_of vs)
list_built vs = trees_end vs ∙ sym (list_view_is vs)

pub map_built : (ps : List (TVal × TVal)) → pairs_before ps no_pairs ≡ map_view (map_of ps)
map_built ps = pairs_end ps ∙ sym (map_view_is ps)

pub struct_built : (fs : List (ℤ × TVal)) → fields_before fs no_fields ≡ struct_view (struct_of fs)
struct_built fs = fields_end_at fs ∙ sym (struct_view_is fs)

seen_as_is : {X : Type 0} (r : Result (X × List ℕ) Fault) → mapped (λ x. x) r ≡ r
seen_as_is (Ok x) = refl
seen_as_is (Err f) = refl

-- the loop over a list: one turn, and the end
pub item_pushed : (vs pushed : List TVal) (v : TVal) (whole : Result (Trees × List ℕ) Fault) (one : Read Tree) (count turn : ℕ) (bs r : List ℕ) → turn < count → ItemsLeft (trees_before vs) whole one (count - turn) bs → one bs ≡ Ok (view v, r) → pushed ≡ vs ++ v ∷ [] → ItemsLeft (trees_before pushed) whole one (count - (turn + 1)) r
item_pushed vs pushed v whole one count turn bs r early now e added =
    let left : count - turn ≡ suc (count - (turn + 1)) = omega arith in
    let at_one = subst (λ (n : ℕ). ItemsLeft (trees_before vs) whole one n bs) left now in
    let next = items_more (trees_before vs) whole one (count - (turn + 1)) bs (view v) r at_one e in
    let after = items_same (λ ts. trees_before vs (tree (view v) ts)) (trees_before (vs ++ v ∷ [])) whole one (count - (turn + 1)) r (trees_pushed vs v) next in
    subst (λ (us : List TVal). ItemsLeft (trees_before us) whole one (count - (turn + 1)) r) (sym added) after

pub list_done : (l : TList) (whole : Result (Trees × List ℕ) Fault) (one : Read Tree) (count turn : ℕ) (bs : List ℕ) → count ≤ turn → ItemsLeft (trees_before l.items) whole one (count - turn) bs → whole ≡ Ok (list_view l, bs)
list_done l whole one count turn bs late now =
    let left : count - turn ≡ zero = omega arith in
    let at_end = subst (λ (n : ℕ). ItemsLeft (trees_before l.items) whole one n bs) left now in
    items_end (trees_before l.items) whole one bs at_end ∙ ap (λ ts. Ok (ts, bs)) (list_built l.items)

-- the loop over a map
pub map_begun : (depth inner count : ℕ) (bs r s : List ℕ) (k v : TKind) (ps : List (TVal × TVal)) → depth ≡ suc inner → size_at bs ≡ Ok (count, r) → 0 < count → map_kinds r ≡ Ok ((k, v), s) → ps ≡ [] → EntriesLeft (pairs_before ps) ((nest depth).pairs bs) (element (value_at inner) k) (element (value_at inner) v) (count - 0) s
map_begun depth inner zero bs r s k v ps deep sized some kinds none = absurd (omega arith)
map_begun depth inner (suc n) bs r s k v ps deep sized some kinds none =
    let left : suc n - 0 ≡ suc n = omega arith in
    rw (deep, none, left) (record { rest = seen_as_is _ ∙ sym (rw (sized, kinds) refl) })

pub pair_pushed : (vs pushed : List (TVal × TVal)) (k v : TVal) (whole : Result (Pairs × List ℕ) Fault) (key value : Read Tree) (count turn : ℕ) (bs r s : List ℕ) → turn < count → EntriesLeft (pairs_before vs) whole key value (count - turn) bs → key bs ≡ Ok (view k, r) → value r ≡ Ok (view v, s) → pushed ≡ vs ++ (k, v) ∷ [] → EntriesLeft (pairs_before pushed) whole key value (count - (turn + 1)) s
pair_pushed vs pushed k v whole key value count turn bs r s early now e d added =
    let left : count - turn ≡ suc (count - (turn + 1)) = omega arith in
    let at_one = subst (λ (n : ℕ). EntriesLeft (pairs_before vs) whole key value n bs) left now in
    let next = entries_more (pairs_before vs) whole key value (count - (turn + 1)) bs (view k) (view v) r s at_one e d in
    let after = entries_same (λ ps. pairs_before vs (pair (view k) (view v) ps)) (pairs_before (vs ++ (k, v) ∷ [])) whole key value (count - (turn + 1)) s (pairs_pushed vs (k, v)) next in
    subst (λ (us : List (TVal × TVal)). EntriesLeft (pairs_before us) whole key value (count - (turn + 1)) s) (sym added) after

pub pair_no_key : {X : Type 0} (make : Pairs → X) (whole : Result (X × List ℕ) Fault) (key value : Read Tree) (count turn : ℕ) (bs : List ℕ) (f : Fault) → turn < count → EntriesLeft make whole key value (count - turn) bs → key bs ≡ Err f → whole ≡ Err f
pair_no_key make whole key value count turn bs f early now e =
    let left : count - turn ≡ suc (count - (turn + 1)) = omega arith in
    entries_no_key make whole key value (count - (turn + 1)) bs f (subst (λ (n : ℕ). EntriesLeft make whole key value n bs) left now) e

pub pair_no_value : {X : Type 0} (make : Pairs → X) (whole : Result (X × List ℕ) Fault) (key value : Read Tree) (count turn : ℕ) (bs : List ℕ) (k : Tree) (r : List ℕ) (f : Fault) → turn < count → EntriesLeft make whole key value (count - turn) bs → key bs ≡ Ok (k, r) → value r ≡ Err f → whole ≡ Err f
pair_no_value make whole key value count turn bs k r f early now e d =
    let left : count - turn ≡ suc (count - (turn + 1)) = omega arith in
    entries_no_value make whole key value (count - (turn + 1)) bs k r f (subst (λ (n : ℕ). EntriesLeft make whole key value n bs) left now) e d

pub map_done : (m : TMap) (whole : Result (Pairs × List ℕ) Fault) (key value : Read Tree) (count turn : ℕ) (bs : List ℕ) → count ≤ turn → EntriesLeft (pairs_before m.pairs) whole key value (count - turn) bs → whole ≡ Ok (map_view m, bs)
map_done m whole key value count turn bs late now =
    let left : count - turn ≡ zero = omega arith in
    let at_end = subst (λ (n : ℕ). EntriesLeft (pairs_before m.pairs) whole key value n bs) left now in
    entries_end (pairs_before m.pairs) whole key value bs at_end ∙ ap (λ ps. Ok (ps, bs)) (map_built m.pairs)

-- the loop over the fields of a struct
pub struct_begun : (depth inner : ℕ) (bs : List ℕ) (ids : List ℤ) (vs : List (ℤ × TVal)) → depth ≡ suc inner → ids ≡ [] → vs ≡ [] → FieldsLeft (fields_before vs) ((nest depth).fields bs) (value_at inner) ids bs
struct_begun depth inner bs ids vs deep none empty =
    rw (deep, none, empty) (record { turns = length bs; enough = omega arith; rest = seen_as_is _ })

pub field_pushed : (vs pushed : List (ℤ × TVal)) (whole : Result (Fields × List ℕ) Fault) (value : TKind → Read Tree) (ids after : List ℤ) (bs r s : List ℕ) (head : Option (ℤ × TKind)) (id : ℤ) (kind : TKind) (v : TVal) → FieldsLeft (fields_before vs) whole value ids bs → head ≡ Some (id, kind) → field_head ids bs ≡ Ok (head, r) → Adds (Ok head) ids after → value kind r ≡ Ok (view v, s) → pushed ≡ vs ++ (id, v) ∷ [] → length s < length bs → FieldsLeft (fields_before pushed) whole value after s
field_pushed vs pushed whole value ids after bs r s head id kind v now is e taken d added shorter =
    let at_some = subst (λ (h : Option (ℤ × TKind)). field_head ids bs ≡ Ok (h, r)) is e in
    let joined = subst (λ (h : Option (ℤ × TKind)). Adds (Ok h) ids after) is taken in
    let next = fields_more (fields_before vs) whole value ids bs (id, kind) r (view v) s now at_some d shorter in
    let pushed_in = fields_same (λ fs. fields_before vs (field id (view v) fs)) (fields_before (vs ++ (id, v) ∷ [])) whole value (ids ++ id ∷ []) s (fields_pushed vs (id, v)) next in
    let with_ids = subst (λ (x : List ℤ). FieldsLeft (fields_before (vs ++ (id, v) ∷ [])) whole value x s) (sym joined) pushed_in in
    subst (λ (us : List (ℤ × TVal)). FieldsLeft (fields_before us) whole value after s) (sym added) with_ids

pub struct_done : (fs : TFields) (whole : Result (Fields × List ℕ) Fault) (value : TKind → Read Tree) (ids : List ℤ) (bs r : List ℕ) → FieldsLeft (fields_before fs.fields) whole value ids bs → field_head ids bs ≡ Ok (None, r) → whole ≡ Ok (struct_view fs, r)
struct_done fs whole value ids bs r now e =
    fields_end (fields_before fs.fields) whole value ids bs r now e ∙ ap (λ x. Ok (x, r)) (struct_built fs.fields)
