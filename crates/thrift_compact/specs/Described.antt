-- The structs that can be written by the writer's calls, the calls for each of them, and the laws on what the calls write.
use Rattle.std.specs.Prelude.{◌≡◌, ℕ, suc, ℤ, ◌<ℤ◌, FitsSigned, List, [], ◌∷◌, ◌++◌, length, Option, Some, None}
use Rattle.std.specs.Int.{w16}
use Rattle.thrift_compact.specs.declared.kind.TKind.{TKind}
use Rattle.thrift_compact.specs.declared.kind.TKind.TheVariants as kind
use Rattle.thrift_compact.specs.Calls as call
use Rattle.thrift_compact.specs.Grammar.{Spells}
use Rattle.thrift_compact.specs.Proper.{IsSmall}
use Rattle.thrift_compact.specs.Spelled.{AreBytes}
use Rattle.thrift_compact.specs.Spelling.{canonical, element_kind, items_kind}
use Rattle.thrift_compact.specs.Tree.{Tree, truth, int8, int16, int32, int64, double, binary, list, set, map, struct, Trees, no_trees, tree, Fields, no_fields, field, count}
use Rattle.thrift_compact.specs.Writing.{Draft, new_draft, finished, after, May, IsWhole}

-- the calls for a struct's fields, for a field, and for a list's items, in the order of the tree
abbrev mutual
  pub field_calls : Fields → List call.Call
  field_calls no_fields = []
  field_calls (field id t fs) = value_calls id t ++ field_calls fs

  pub value_calls : ℤ → Tree → List call.Call
  value_calls id (truth t) = call.truth id t ∷ []
  value_calls id (int8 z) = call.whole id kind.I8 z ∷ []
  value_calls id (int16 z) = call.whole id kind.I16 z ∷ []
  value_calls id (int32 z) = call.whole id kind.I32 z ∷ []
  value_calls id (int64 z) = call.whole id kind.I64 z ∷ []
  value_calls id (binary bytes) = call.binary id bytes ∷ []
  value_calls id (struct fs) = call.struct_field id ∷ (field_calls fs ++ call.struct_end ∷ [])
  value_calls id (list ts) = call.list_field id (items_kind ts) (count ts) ∷ item_calls ts
  value_calls id (double bytes) = []
  value_calls id (set ts) = []
  value_calls id (map ps) = []

  pub item_calls : Trees → List call.Call
  item_calls no_trees = []
  item_calls (tree t ts) = one_item_calls t ++ item_calls ts

  pub one_item_calls : Tree → List call.Call
  one_item_calls (int8 z) = call.item_whole z ∷ []
  one_item_calls (int16 z) = call.item_whole z ∷ []
  one_item_calls (int32 z) = call.item_whole z ∷ []
  one_item_calls (int64 z) = call.item_whole z ∷ []
  one_item_calls (binary bytes) = call.item_binary bytes ∷ []
  one_item_calls (struct fs) = call.struct_begin ∷ (field_calls fs ++ call.struct_end ∷ [])
  one_item_calls (truth t) = []
  one_item_calls (double bytes) = []
  one_item_calls (list ts) = []
  one_item_calls (set ts) = []
  one_item_calls (map ps) = []

-- the calls for the outermost struct
abbrev pub calls_of : Fields → List call.Call
calls_of fs = call.struct_begin ∷ (field_calls fs ++ call.struct_end ∷ [])

-- the id is greater than the last one, if there is one
abbrev pub IsAbove : Option ℤ → ℤ → Type 0
IsAbove None id = Unit {0}
IsAbove (Some last) id = last <ℤ id

-- a field's value that calls can write, with at most `depth` levels of structs and lists: a boolean, an integer, a
-- binary, a struct whose ids ascend, or a list of integers, binaries or structs. Doubles, sets and maps have no call,
-- and neither have lists of booleans or of lists.
abbrev mutual
  pub IsDescribed : ℕ → Tree → Type 0
  IsDescribed depth (truth t) = Unit {0}
  IsDescribed depth (int8 z) = IsWhole kind.I8 z
  IsDescribed depth (int16 z) = IsWhole kind.I16 z
  IsDescribed depth (int32 z) = IsWhole kind.I32 z
  IsDescribed depth (int64 z) = IsWhole kind.I64 z
  IsDescribed depth (binary bytes) = IsSmall (length bytes) × AreBytes bytes
  IsDescribed depth (struct fs) = (within : ℕ) × (depth ≡ suc within) × AreFields within None fs
  IsDescribed depth (list ts) = (within : ℕ) × (depth ≡ suc within) × IsSmall (count ts) × AreItems within (items_kind ts) ts
  IsDescribed depth (double bytes) = ⊥
  IsDescribed depth (set ts) = ⊥
  IsDescribed depth (map ps) = ⊥

  -- fields with ascending ids after the id `last`
  pub AreFields : ℕ → Option ℤ → Fields → Type 0
  AreFields depth last no_fields = Unit {0}
  AreFields depth last (field id t fs) = FitsSigned w16 id × IsAbove last id × IsDescribed depth t × AreFields depth (Some id) fs

  -- items that all have the kind k
  pub AreItems : ℕ → TKind → Trees → Type 0
  AreItems depth k no_trees = Unit {0}
  AreItems depth k (tree t ts) = (element_kind t ≡ k) × IsItem depth t × AreItems depth k ts

  pub IsItem : ℕ → Tree → Type 0
  IsItem depth (int8 z) = IsWhole kind.I8 z
  IsItem depth (int16 z) = IsWhole kind.I16 z
  IsItem depth (int32 z) = IsWhole kind.I32 z
  IsItem depth (int64 z) = IsWhole kind.I64 z
  IsItem depth (binary bytes) = IsSmall (length bytes) × AreBytes bytes
  IsItem depth (struct fs) = (within : ℕ) × (depth ≡ suc within) × AreFields within None fs
  IsItem depth (truth t) = ⊥
  IsItem depth (double bytes) = ⊥
  IsItem depth (list ts) = ⊥
  IsItem depth (set ts) = ⊥
  IsItem depth (map ps) = ⊥

-- the calls may be made one after another, and change the draft `from` into the draft `to`
abbrev pub Runs : List call.Call → Draft → Draft → Type 0
Runs [] from to = from ≡ to
Runs (c ∷ calls) from to = May c from × Runs calls (after c from) to

-- for each struct that calls can write, its calls may be made and write its canonical spelling
abbrev pub WritesCanonically : Type 0
WritesCanonically =
    (fs : Fields) → IsDescribed 32 (struct fs) → Runs (calls_of fs) new_draft (finished (canonical (struct fs)))

-- the canonical spelling of such a struct spells the struct itself, whose fields are in order already
abbrev pub WritesWhatIsDescribed : Type 0
WritesWhatIsDescribed =
    (fs : Fields) → IsDescribed 32 (struct fs) → Spells 32 kind.Struct (struct fs) (canonical (struct fs))
