-- Values and items of another type than the wanted one, and structs as values.
use Rattle.std.proofs.Common.{◌≡◌, ◌≢◌, ℕ, Bool, true, false, List, Result, Ok, Err, refl, sym, ap, ◌∙◌, subst}
use Rattle.pme_base.specs.declared.refusal.Cause.{Cause}
use Rattle.pme_base.specs.declared.refusal.Cause.TheVariants.{BadThrift, MissingField, BadField, Unsupported, OutOfMemory}
use Rattle.pme_base.specs.Refusals.{is_fault}
use Rattle.thrift_compact.specs.declared.kind.TKind.{TKind}
use Rattle.thrift_compact.specs.declared.kind.TKind.TheVariants as kind
use Rattle.thrift_compact.specs.Answers.{mapped, skipped}
use Rattle.pme_base.proofs.Chain.{bind_ok, bind_at, ok_same}
use Rattle.thrift_compact.proofs.Steps.{skipped_ok}
use Rattle.thrift_compact.proofs.KindOfRead.{value_kind}
use Rattle.thrift_compact.specs.Reading.{Fault, nest, value, element, truth_at, as_tree}
use Rattle.thrift_compact.specs.Standing.{Standing, depth_left, Moves, GivesAt}
use Rattle.thrift_compact.specs.Tree.{Tree, truth, binary, struct, Fields, kind_of_tree}
use Rattle.parquet_fields.specs.declared.field_state.FieldState.{FieldState}
use Rattle.parquet_fields.specs.declared.field_state.FieldState.TheVariants.{WrongType}
use Rattle.parquet_types.specs.declared.field_refusals.FieldRefusal.{FieldRefusal}
use Rattle.parquet_fields.specs.Causes.{CheckedCause, is_field_cause, is_struct_cause}
use Rattle.parquet_fields.specs.Fields.{Checked, binary_of, of_checked, struct_of}
use Rattle.parquet_fields.proofs.Loops.{mapped_ok}

pub not_binary : (t : Tree) → kind_of_tree t ≢ kind.Binary → WrongType ≡ binary_of t
not_binary (binary bytes) other = absurd (other refl)
not_binary t other = refl

pub not_struct : {X : Type 0} (checked : Fields → Checked X) (t : Tree) → kind_of_tree t ≢ kind.Struct → ◌≡◌ {A = FieldState X} WrongType (struct_of checked t)
not_struct checked (struct fs) other = absurd (other refl)
not_struct checked t other = refl

-- An item that is a boolean.
truth_item : {X : Type 0} (gives : Tree → FieldState X) → ((b : Bool) → WrongType ≡ gives (truth b)) → (bs : List ℕ) (t : Tree) (r : List ℕ) → as_tree truth truth_at bs ≡ Ok (t, r) → WrongType ≡ gives t
truth_item gives wrong bs t r e =
    let x = bind_ok (truth_at bs) (λ b. Ok (truth b.0, b.1)) (t, r) e in
    let same : truth x.0.0 ≡ t = ap (λ p. p.0) (ok_same (truth x.0.0, x.0.1) (t, r) x.2) in
    wrong x.0.0 ∙ ap gives same

other_item : {X : Type 0} (gives : Tree → FieldState X) (wanted k : TKind) → ((t : Tree) → kind_of_tree t ≢ wanted → WrongType ≡ gives t) → k ≢ wanted → (depth_left : ℕ) (bs : List ℕ) (t : Tree) (r : List ℕ) → value depth_left k bs ≡ Ok (t, r) → WrongType ≡ gives t
other_item gives wanted k wrong other depth_left bs t r e = wrong t (λ same. other (sym (value_kind depth_left k bs t r e) ∙ same))

-- An item of another type than the wanted one has the wrong type.
item_wrong : {X : Type 0} (gives : Tree → FieldState X) (wanted k : TKind) → ((t : Tree) → kind_of_tree t ≢ wanted → WrongType ≡ gives t) → ((b : Bool) → WrongType ≡ gives (truth b)) → k ≢ wanted → (depth_left : ℕ) (bs : List ℕ) (t : Tree) (r : List ℕ) → element (value depth_left) k bs ≡ Ok (t, r) → WrongType ≡ gives t
item_wrong gives wanted kind.True wrong no_truth other depth_left bs t r e = truth_item gives no_truth bs t r e
item_wrong gives wanted kind.False wrong no_truth other depth_left bs t r e = truth_item gives no_truth bs t r e
item_wrong gives wanted kind.I8 wrong no_truth other depth_left bs t r e = other_item gives wanted kind.I8 wrong other depth_left bs t r e
item_wrong gives wanted kind.I16 wrong no_truth other depth_left bs t r e = other_item gives wanted kind.I16 wrong other depth_left bs t r e
item_wrong gives wanted kind.I32 wrong no_truth other depth_left bs t r e = other_item gives wanted kind.I32 wrong other depth_left bs t r e
item_wrong gives wanted kind.I64 wrong no_truth other depth_left bs t r e = other_item gives wanted kind.I64 wrong other depth_left bs t r e
item_wrong gives wanted kind.Double wrong no_truth other depth_left bs t r e = other_item gives wanted kind.Double wrong other depth_left bs t r e
item_wrong gives wanted kind.Binary wrong no_truth other depth_left bs t r e = other_item gives wanted kind.Binary wrong other depth_left bs t r e
item_wrong gives wanted kind.List wrong no_truth other depth_left bs t r e = other_item gives wanted kind.List wrong other depth_left bs t r e
item_wrong gives wanted kind.Set wrong no_truth other depth_left bs t r e = other_item gives wanted kind.Set wrong other depth_left bs t r e
item_wrong gives wanted kind.Map wrong no_truth other depth_left bs t r e = other_item gives wanted kind.Map wrong other depth_left bs t r e
item_wrong gives wanted kind.Struct wrong no_truth other depth_left bs t r e = other_item gives wanted kind.Struct wrong other depth_left bs t r e

pub item_passed_over : {X : Type 0} (gives : Tree → FieldState X) (wanted k : TKind) → ((t : Tree) → kind_of_tree t ≢ wanted → WrongType ≡ gives t) → ((b : Bool) → WrongType ≡ gives (truth b)) → k ≢ wanted → (before after : Standing) → GivesAt (λ (u : Unit {0}). u) before after (Ok tt) (skipped (element (value (depth_left before)) k before.rest))
    → (x : Tree) × (element (value (depth_left before)) k before.rest ≡ Ok (x, after.rest)) × (WrongType ≡ gives x) × Moves before after
item_passed_over gives wanted k wrong no_truth other before after given =
    let x = skipped_ok (element (value (depth_left before)) k before.rest) after.rest given.0 in
    (x.0, x.1, item_wrong gives wanted k wrong no_truth other (depth_left before) before.rest x.0 after.rest x.1, given.1)

-- A struct that has been read is the value of its field.
pub struct_value : {M X : Type 0} (make : Fields → M) (judged : M → Checked X) (k : TKind) (before after : Standing) (m : M) (state : FieldState X) → k ≡ kind.Struct → GivesAt (λ (x : M). x) before after (Ok m) (mapped make ((nest (depth_left before)).fields before.rest)) → state ≡ of_checked (judged m)
    → (t : Tree) × (value (depth_left before) k before.rest ≡ Ok (t, after.rest)) × (state ≡ struct_of (λ fs. judged (make fs)) t) × Moves before after
struct_value make judged k before after m state is given same =
    let x = mapped_ok make ((nest (depth_left before)).fields before.rest) m after.rest given.0 in
    let t : Tree = struct x.0 in
    let read : value (depth_left before) kind.Struct before.rest ≡ Ok (t, after.rest) = bind_at ((nest (depth_left before)).fields before.rest) (λ y. Ok (struct y.0, y.1)) (x.0, after.rest) x.1 in
    (t, subst (λ (other : TKind). value (depth_left before) other before.rest ≡ Ok (t, after.rest)) (sym is) read, same ∙ ap (λ y. of_checked (judged y)) x.2, given.1)

-- The refusal of a struct that has been read has one of the causes of a field.
pub struct_refused : {M X : Type 0} (make : Fields → M) (judged : M → Checked X) → ((fs : Fields) → CheckedCause (judged (make fs))) → (read : Result (Fields × List ℕ) Fault) (m : M) (rest : List ℕ) (r : FieldRefusal) → mapped make read ≡ Ok (m, rest) → judged m ≡ Err r → is_field_cause r.cause ≡ true
struct_refused {X = X} make judged causes read m rest r given refused =
    let x = mapped_ok make read m rest given in
    let here : judged (make x.0) ≡ Err r = ap judged (sym x.2) ∙ refused in
    subst (λ (c : Checked X). CheckedCause c) here (causes x.0)

pub struct_cause : (cause : Cause) → is_field_cause cause ≡ true → is_struct_cause cause ≡ true
struct_cause BadThrift known = refl
struct_cause OutOfMemory known = refl
struct_cause cause known = known

pub no_fault : (cause : Cause) → is_field_cause cause ≡ true → is_fault cause ≡ false
no_fault MissingField known = refl
no_fault BadField known = refl
no_fault Unsupported known = refl
no_fault cause known = absurd cc
