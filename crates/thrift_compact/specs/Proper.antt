-- The trees that can be spelled: conditions on a tree's shape, and on its numbers and bytes.
use Rattle.std.specs.Prelude.{◌≡◌, ℕ, suc, ◌<◌, ℤ, false, FitsSigned, List, [], ◌∷◌, ◌++◌, length}
use Rattle.std.specs.Int.{w8, w16, w32, w64}
use Rattle.thrift_compact.specs.declared.kind.TKind.{TKind}
use Rattle.thrift_compact.specs.Reading.{is_among}
use Rattle.thrift_compact.specs.Spelling.{element_kind}
use Rattle.thrift_compact.specs.Spelled.{AreBytes}
use Rattle.thrift_compact.specs.Tree.{Tree, truth, int8, int16, int32, int64, double, binary, list, set, map, struct, Trees, no_trees, tree, Pairs, no_pairs, pair, Fields, no_fields, field, count, pair_count}

-- all elements are of the kind k; true and false have one kind as elements
abbrev pub AllOfKind : TKind → Trees → Type 0
AllOfKind k no_trees = Unit {0}
AllOfKind k (tree t ts) = (element_kind t ≡ k) × AllOfKind k ts

abbrev pub AreOfOneKind : Trees → Type 0
AreOfOneKind ts = (k : TKind) × AllOfKind k ts

-- all keys are of one kind, and all values are of one kind
abbrev pub PairsOfKinds : TKind → TKind → Pairs → Type 0
PairsOfKinds key_kind value_kind no_pairs = Unit {0}
PairsOfKinds key_kind value_kind (pair key value ps) =
    (element_kind key ≡ key_kind) × (element_kind value ≡ value_kind) × PairsOfKinds key_kind value_kind ps

abbrev pub ArePairsOfKinds : Pairs → Type 0
ArePairsOfKinds ps = (key_kind value_kind : TKind) × PairsOfKinds key_kind value_kind ps

-- the ids of a struct's fields, in the order of the fields
abbrev pub ids_of : Fields → List ℤ
ids_of no_fields = []
ids_of (field id t fs) = id ∷ ids_of fs

-- no id is one of the earlier ids or of the ids `before`
abbrev pub AreNew : List ℤ → List ℤ → Type 0
AreNew before [] = Unit {0}
AreNew before (id ∷ ids) = (is_among id before ≡ false) × AreNew (before ++ id ∷ []) ids

-- no id occurs twice
abbrev pub AreDistinct : List ℤ → Type 0
AreDistinct ids = AreNew [] ids

-- the limit of sizes and lengths
abbrev pub IsSmall : ℕ → Type 0
IsSmall n = n < 2147483648

-- a tree that keeps the limits on sizes, has distinct ids and elements of one kind, and has at most `depth` levels of
-- structs, lists, sets and maps
abbrev mutual
  pub IsProper : ℕ → Tree → Type 0
  IsProper depth (truth t) = Unit {0}
  IsProper depth (int8 z) = Unit {0}
  IsProper depth (int16 z) = Unit {0}
  IsProper depth (int32 z) = Unit {0}
  IsProper depth (int64 z) = Unit {0}
  IsProper depth (double bytes) = Unit {0}
  IsProper depth (binary bytes) = IsSmall (length bytes)
  IsProper depth (list ts) = (inner : ℕ) × (depth ≡ suc inner) × IsSmall (count ts) × AreOfOneKind ts × AllProper inner ts
  IsProper depth (set ts) = (inner : ℕ) × (depth ≡ suc inner) × IsSmall (count ts) × AreOfOneKind ts × AllProper inner ts
  IsProper depth (map ps) = (inner : ℕ) × (depth ≡ suc inner) × IsSmall (pair_count ps) × ArePairsOfKinds ps × PairsProper inner ps
  IsProper depth (struct fs) = (inner : ℕ) × (depth ≡ suc inner) × AreDistinct (ids_of fs) × FieldsProper inner fs

  pub AllProper : ℕ → Trees → Type 0
  AllProper depth no_trees = Unit {0}
  AllProper depth (tree t ts) = IsProper depth t × AllProper depth ts

  pub PairsProper : ℕ → Pairs → Type 0
  PairsProper depth no_pairs = Unit {0}
  PairsProper depth (pair key value ps) = IsProper depth key × IsProper depth value × PairsProper depth ps

  pub FieldsProper : ℕ → Fields → Type 0
  FieldsProper depth no_fields = Unit {0}
  FieldsProper depth (field id t fs) = IsProper depth t × FieldsProper depth fs

-- integers are in the range of their type, ids fit 16 bits, and a double has 8 bytes
abbrev mutual
  pub FitsTypes : Tree → Type 0
  FitsTypes (truth t) = Unit {0}
  FitsTypes (int8 z) = FitsSigned w8 z
  FitsTypes (int16 z) = FitsSigned w16 z
  FitsTypes (int32 z) = FitsSigned w32 z
  FitsTypes (int64 z) = FitsSigned w64 z
  FitsTypes (double bytes) = (length bytes ≡ 8) × AreBytes bytes
  FitsTypes (binary bytes) = AreBytes bytes
  FitsTypes (list ts) = AllFit ts
  FitsTypes (set ts) = AllFit ts
  FitsTypes (map ps) = PairsFit ps
  FitsTypes (struct fs) = FieldsFit fs

  pub AllFit : Trees → Type 0
  AllFit no_trees = Unit {0}
  AllFit (tree t ts) = FitsTypes t × AllFit ts

  pub PairsFit : Pairs → Type 0
  PairsFit no_pairs = Unit {0}
  PairsFit (pair key value ps) = FitsTypes key × FitsTypes value × PairsFit ps

  pub FieldsFit : Fields → Type 0
  FieldsFit no_fields = Unit {0}
  FieldsFit (field id t fs) = FitsSigned w16 id × FitsTypes t × FieldsFit fs
