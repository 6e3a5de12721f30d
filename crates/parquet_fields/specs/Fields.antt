-- The fields of a struct by field id, and which refusal of a field comes first. A struct of the compact protocol has
-- each field id at most once.
use Rattle.std.specs.Prelude.{ℕ, ℤ, Bool, List, [], ◌∷◌, if◌then◌else◌, Option, Some, None, Result, Ok, Err}
use Rattle.pme_base.specs.declared.refusal.Cause.TheVariants.{MissingField, BadField}
use Rattle.pme_base.specs.declared.refusal.StructName.{StructName}
use Rattle.thrift_compact.specs.Reading.{same_id}
use Rattle.thrift_compact.specs.Tree.{Tree, truth, int16, int32, int64, binary, list, struct, Trees, no_trees, tree, Fields, no_fields, field}
use Rattle.parquet_types.specs.FieldRefusals.{refused}
use Rattle.parquet_types.specs.declared.field_refusals.FieldRefusal.{FieldRefusal}
use Rattle.parquet_fields.specs.declared.field_state.FieldState.{FieldState}
use Rattle.parquet_fields.specs.declared.field_state.FieldState.TheVariants as state

-- A value, or the refusal of a field.
abbrev pub Checked : Type 0 → Type 0
Checked X = Result X FieldRefusal

-- The state of a field that must have a given type.
abbrev pub binary_of : Tree → FieldState (List ℕ)
binary_of (binary bytes) = state.Value bytes
binary_of _ = state.WrongType

abbrev pub truth_of : Tree → FieldState Bool
truth_of (truth t) = state.Value t
truth_of _ = state.WrongType

abbrev pub int16_of : Tree → FieldState ℤ
int16_of (int16 z) = state.Value z
int16_of _ = state.WrongType

abbrev pub int32_of : Tree → FieldState ℤ
int32_of (int32 z) = state.Value z
int32_of _ = state.WrongType

abbrev pub int64_of : Tree → FieldState ℤ
int64_of (int64 z) = state.Value z
int64_of _ = state.WrongType

abbrev pub of_checked : {X : Type 0} → Checked X → FieldState X
of_checked (Ok x) = state.Value x
of_checked (Err r) = state.Refused r

-- A field that holds a struct, which is judged by its own fields.
abbrev pub struct_of : {X : Type 0} → (Fields → Checked X) → Tree → FieldState X
struct_of checked (struct fs) = of_checked (checked fs)
struct_of checked _ = state.WrongType

-- A field that holds a list, whose first bad item decides. An empty list may name any item type.
abbrev pub onto_items : {X : Type 0} → FieldState X → FieldState (List X) → FieldState (List X)
onto_items (state.Value x) (state.Value xs) = state.Value (x ∷ xs)
onto_items (state.Value x) others = others
onto_items (state.Refused r) others = state.Refused r
onto_items _ others = state.WrongType

abbrev pub items_of : {X : Type 0} → (Tree → FieldState X) → Trees → FieldState (List X)
items_of item no_trees = state.Value []
items_of item (tree t ts) = onto_items (item t) (items_of item ts)

abbrev pub list_of : {X : Type 0} → (Tree → FieldState X) → Tree → FieldState (List X)
list_of item (list ts) = items_of item ts
list_of item _ = state.WrongType

-- The state of the field with the given id after more fields have been read; `before` is its state before them.
abbrev pub pick : {X : Type 0} → (Tree → FieldState X) → ℤ → ℤ → Tree → FieldState X → FieldState X
pick value number id t before = if same_id id number then value t else before

abbrev pub under : {X : Type 0} → (Tree → FieldState X) → ℤ → FieldState X → Fields → FieldState X
under value number before no_fields = before
under value number before (field id t fs) = under value number (pick value number id t before) fs

-- The value of an optional field, and that of a required field.
abbrev pub optional : {X : Type 0} → StructName → ℤ → FieldState X → Checked (Option X)
optional name number state.Absent = Ok None
optional name number state.WrongType = Err (refused BadField name number)
optional name number (state.Refused r) = Err r
optional name number (state.Value x) = Ok (Some x)

abbrev pub needed : {X : Type 0} → StructName → ℤ → FieldState X → Checked X
needed name number state.Absent = Err (refused MissingField name number)
needed name number state.WrongType = Err (refused BadField name number)
needed name number (state.Refused r) = Err r
needed name number (state.Value x) = Ok x
