-- The loops that skip the parts of a list, a map or a struct.
use Rattle.std.proofs.Common.{◌≡◌, ℕ, ◌+◌, ◌-◌, ◌<◌, ◌≤◌, suc, zero, ℤ, List, length, Option, Some, None, Result, Ok, Err, refl, sym, subst, arith}
use Rattle.thrift_compact.specs.declared.kind.TKind.{TKind}
use Rattle.thrift_compact.specs.Answers.{skipped, Adds}
use Rattle.thrift_compact.proofs.PartsLeft.{ItemsLeft, items_more, items_fail, EntriesLeft, entries_more, entries_no_key, entries_no_value, entries_end, FieldsLeft, fields_more, fields_no_value, fields_end}
use Rattle.thrift_compact.specs.Reading.{Fault, Read, element, nest, size_at, map_kinds, field_head}
use Rattle.thrift_compact.specs.Reading.{value as value_at}
use Rattle.thrift_compact.specs.Tree.{Tree}
use Rattle.thrift_compact.proofs.Steps.{skipped_ok, skipped_err}

-- the value of a loop that skips its parts
abbrev pub nothing : {X : Type 0} → X → Unit {0}
nothing x = tt

pub item_skipped : (whole : Result (Unit {0} × List ℕ) Fault) (one : Read Tree) (count turn : ℕ) (bs r : List ℕ) → turn < count → ItemsLeft nothing whole one (count - turn) bs → skipped (one bs) ≡ Ok (tt, r) → ItemsLeft nothing whole one (count - (turn + 1)) r
item_skipped whole one count turn bs r early now e =
    let left : count - turn ≡ suc (count - (turn + 1)) = omega arith in
    let at_one = subst (λ (n : ℕ). ItemsLeft nothing whole one n bs) left now in
    let t = skipped_ok (one bs) r e in
    items_more nothing whole one (count - (turn + 1)) bs t.0 r at_one t.1

pub item_not_skipped : (whole : Result (Unit {0} × List ℕ) Fault) (one : Read Tree) (count turn : ℕ) (bs : List ℕ) (f : Fault) → turn < count → ItemsLeft nothing whole one (count - turn) bs → skipped (one bs) ≡ Err f → whole ≡ Err f
item_not_skipped whole one count turn bs f early now e =
    let left : count - turn ≡ suc (count - (turn + 1)) = omega arith in
    let at_one = subst (λ (n : ℕ). ItemsLeft nothing whole one n bs) left now in
    items_fail nothing whole one (count - (turn + 1)) bs f at_one (skipped_err (one bs) f e)

pub map_skipping : (depth inner count : ℕ) (bs r s : List ℕ) (k v : TKind) → depth ≡ suc inner → size_at bs ≡ Ok (count, r) → 0 < count → map_kinds r ≡ Ok ((k, v), s) → EntriesLeft nothing (skipped ((nest depth).pairs bs)) (element (value_at inner) k) (element (value_at inner) v) (count - 0) s
map_skipping depth inner zero bs r s k v deep sized some kinds = absurd (omega arith)
map_skipping depth inner (suc n) bs r s k v deep sized some kinds =
    let left : suc n - 0 ≡ suc n = omega arith in
    rw (deep, left) (record { rest = sym (rw (sized, kinds) refl) })

pub pair_skipped : (whole : Result (Unit {0} × List ℕ) Fault) (key value : Read Tree) (count turn : ℕ) (bs r s : List ℕ) → turn < count → EntriesLeft nothing whole key value (count - turn) bs → skipped (key bs) ≡ Ok (tt, r) → skipped (value r) ≡ Ok (tt, s) → EntriesLeft nothing whole key value (count - (turn + 1)) s
pair_skipped whole key value count turn bs r s early now e d =
    let left : count - turn ≡ suc (count - (turn + 1)) = omega arith in
    let at_one = subst (λ (n : ℕ). EntriesLeft nothing whole key value n bs) left now in
    let k = skipped_ok (key bs) r e in
    let v = skipped_ok (value r) s d in
    entries_more nothing whole key value (count - (turn + 1)) bs k.0 v.0 r s at_one k.1 v.1

pub key_not_skipped : (whole : Result (Unit {0} × List ℕ) Fault) (key value : Read Tree) (count turn : ℕ) (bs : List ℕ) (f : Fault) → turn < count → EntriesLeft nothing whole key value (count - turn) bs → skipped (key bs) ≡ Err f → whole ≡ Err f
key_not_skipped whole key value count turn bs f early now e =
    let left : count - turn ≡ suc (count - (turn + 1)) = omega arith in
    let at_one = subst (λ (n : ℕ). EntriesLeft nothing whole key value n bs) left now in
    entries_no_key nothing whole key value (count - (turn + 1)) bs f at_one (skipped_err (key bs) f e)

pub value_not_skipped : (whole : Result (Unit {0} × List ℕ) Fault) (key value : Read Tree) (count turn : ℕ) (bs r : List ℕ) (f : Fault) → turn < count → EntriesLeft nothing whole key value (count - turn) bs → skipped (key bs) ≡ Ok (tt, r) → skipped (value r) ≡ Err f → whole ≡ Err f
value_not_skipped whole key value count turn bs r f early now e d =
    let left : count - turn ≡ suc (count - (turn + 1)) = omega arith in
    let at_one = subst (λ (n : ℕ). EntriesLeft nothing whole key value n bs) left now in
    let k = skipped_ok (key bs) r e in
    entries_no_value nothing whole key value (count - (turn + 1)) bs k.0 r f at_one k.1 (skipped_err (value r) f d)

pub map_skipped : (whole : Result (Unit {0} × List ℕ) Fault) (key value : Read Tree) (count turn : ℕ) (bs : List ℕ) → count ≤ turn → EntriesLeft nothing whole key value (count - turn) bs → whole ≡ Ok (tt, bs)
map_skipped whole key value count turn bs late now =
    let left : count - turn ≡ zero = omega arith in
    entries_end nothing whole key value bs (subst (λ (n : ℕ). EntriesLeft nothing whole key value n bs) left now)

pub field_skipped : (whole : Result (Unit {0} × List ℕ) Fault) (value : TKind → Read Tree) (ids after : List ℤ) (bs r s : List ℕ) (head : Option (ℤ × TKind)) (id : ℤ) (kind : TKind) → FieldsLeft nothing whole value ids bs → head ≡ Some (id, kind) → field_head ids bs ≡ Ok (head, r) → Adds (Ok head) ids after → skipped (value kind r) ≡ Ok (tt, s) → length s < length bs → FieldsLeft nothing whole value after s
field_skipped whole value ids after bs r s head id kind now is e taken d shorter =
    let at_some = subst (λ (h : Option (ℤ × TKind)). field_head ids bs ≡ Ok (h, r)) is e in
    let joined = subst (λ (h : Option (ℤ × TKind)). Adds (Ok h) ids after) is taken in
    let t = skipped_ok (value kind r) s d in
    let next = fields_more nothing whole value ids bs (id, kind) r t.0 s now at_some t.1 shorter in
    subst (λ (x : List ℤ). FieldsLeft nothing whole value x s) (sym joined) next

pub field_not_skipped : (whole : Result (Unit {0} × List ℕ) Fault) (value : TKind → Read Tree) (ids : List ℤ) (bs r : List ℕ) (head : Option (ℤ × TKind)) (id : ℤ) (kind : TKind) (f : Fault) → FieldsLeft nothing whole value ids bs → head ≡ Some (id, kind) → field_head ids bs ≡ Ok (head, r) → skipped (value kind r) ≡ Err f → whole ≡ Err f
field_not_skipped whole value ids bs r head id kind f now is e d =
    let at_some = subst (λ (h : Option (ℤ × TKind)). field_head ids bs ≡ Ok (h, r)) is e in
    fields_no_value nothing whole value ids bs (id, kind) r f now at_some (skipped_err (value kind r) f d)

pub struct_skipped : (whole : Result (Unit {0} × List ℕ) Fault) (value : TKind → Read Tree) (ids : List ℤ) (bs r : List ℕ) (head : Option (ℤ × TKind)) → FieldsLeft nothing whole value ids bs → head ≡ None → field_head ids bs ≡ Ok (head, r) → whole ≡ Ok (tt, r)
struct_skipped whole value ids bs r head now is e =
    fields_end nothing whole value ids bs r now (subst (λ (h : Option (ℤ × TKind)). field_head ids bs ≡ Ok (h, r)) is e)
