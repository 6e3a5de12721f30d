-- Laws on the canonical spelling.
use Rattle.std.specs.Prelude.{◌≡◌, ◌⊎◌, ℕ, ℤ, ◌<ℤ◌, List, [], ◌∷◌}
use Rattle.thrift_compact.specs.declared.kind.TKind.{TKind}
use Rattle.thrift_compact.specs.declared.kind.TKind.TheVariants as kind
use Rattle.thrift_compact.specs.Grammar.{Spells}
use Rattle.thrift_compact.specs.Proper.{ids_of, IsProper, FitsTypes}
use Rattle.thrift_compact.specs.Spelled.{AreBytes}
use Rattle.thrift_compact.specs.Spelling.{ordered, canonical}
use Rattle.thrift_compact.specs.Tree.{Tree, truth, int8, int16, int32, int64, double, binary, list, set, map, struct, Trees, no_trees, tree, Pairs, no_pairs, pair, Fields, no_fields, field, kind_of_tree}

-- the canonical spelling of a proper struct spells it, with its fields in ascending order
abbrev pub CanonicalIsSpelled : Type 0
CanonicalIsSpelled =
    (t : Tree) → kind_of_tree t ≡ kind.Struct → IsProper 32 t → FitsTypes t → Spells 32 kind.Struct (ordered t) (canonical t)

-- each id is less than the next
abbrev pub AreAscending : List ℤ → Type 0
AreAscending [] = Unit {0}
AreAscending (id ∷ []) = Unit {0}
AreAscending (id ∷ next ∷ ids) = (id <ℤ next) × AreAscending (next ∷ ids)

-- one of the fields has this id and a value with the property
abbrev pub HasField : ℤ → (Tree → Type 0) → Fields → Type 0
HasField id P no_fields = ⊥
HasField id P (field other t fs) = ((other ≡ id) × P t) ⊎ HasField id P fs

-- each field has the property
abbrev pub EachField : (ℤ → Tree → Type 0) → Fields → Type 0
EachField P no_fields = Unit {0}
EachField P (field id t fs) = P id t × EachField P fs

-- the second tree is the first, with the fields of each struct in ascending order of their ids
abbrev mutual
  pub IsArranged : Tree → Tree → Type 0
  IsArranged (truth b) u = u ≡ truth b
  IsArranged (int8 z) u = u ≡ int8 z
  IsArranged (int16 z) u = u ≡ int16 z
  IsArranged (int32 z) u = u ≡ int32 z
  IsArranged (int64 z) u = u ≡ int64 z
  IsArranged (double bytes) u = u ≡ double bytes
  IsArranged (binary bytes) u = u ≡ binary bytes
  IsArranged (list ts) u = (us : Trees) × (u ≡ list us) × AllArranged ts us
  IsArranged (set ts) u = (us : Trees) × (u ≡ set us) × AllArranged ts us
  IsArranged (map ps) u = (qs : Pairs) × (u ≡ map qs) × PairsArranged ps qs
  IsArranged (struct fs) u =
      (gs : Fields) × (u ≡ struct gs) × AreAscending (ids_of gs) × FieldsStandIn fs gs × EachField (λ id v. IsFieldOf fs id v) gs

  pub AllArranged : Trees → Trees → Type 0
  AllArranged no_trees us = us ≡ no_trees
  AllArranged (tree t ts) us = (v : Tree) × (vs : Trees) × (us ≡ tree v vs) × IsArranged t v × AllArranged ts vs

  pub PairsArranged : Pairs → Pairs → Type 0
  PairsArranged no_pairs qs = qs ≡ no_pairs
  PairsArranged (pair key value ps) qs =
      (k v : Tree) × (others : Pairs) × (qs ≡ pair k v others) × IsArranged key k × IsArranged value v × PairsArranged ps others

  -- each of the first fields is one of the second fields, with its value arranged
  pub FieldsStandIn : Fields → Fields → Type 0
  FieldsStandIn no_fields gs = Unit {0}
  FieldsStandIn (field id t fs) gs = HasField id (λ u. IsArranged t u) gs × FieldsStandIn fs gs

  -- the id and the arranged value of one of the fields
  pub IsFieldOf : Fields → ℤ → Tree → Type 0
  IsFieldOf no_fields id v = ⊥
  IsFieldOf (field other t fs) id v = ((other ≡ id) × IsArranged t v) ⊎ IsFieldOf fs id v

-- the tree that is spelled canonically is the given tree with its fields in ascending order, none lost and none added
abbrev pub OrderedIsArranged : Type 0
OrderedIsArranged = (depth : ℕ) (t : Tree) → IsProper depth t → FitsTypes t → IsArranged t (ordered t)

-- a tree that bytes spell is proper, so a tree that was read can be spelled
abbrev pub SpelledIsProper : Type 0
SpelledIsProper = (depth : ℕ) (k : TKind) (t : Tree) (bs : List ℕ) → Spells depth k t bs → IsProper depth t

-- a tree that bytes spell fits its types
abbrev pub SpelledFits : Type 0
SpelledFits = (depth : ℕ) (k : TKind) (t : Tree) (bs : List ℕ) → AreBytes bs → Spells depth k t bs → FitsTypes t
