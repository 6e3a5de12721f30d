-- Trees of the compact protocol's values. A double is given by its 8 bytes.
use Rattle.std.specs.Prelude.{ℕ, zero, suc, ℤ, Bool, true, false, List}
use Rattle.thrift_compact.specs.declared.kind.TKind.{TKind}
use Rattle.thrift_compact.specs.declared.kind.TKind.TheVariants as kind

mutual
  pub data Tree : Type 0 where
    truth : Bool → Tree
    int8 : ℤ → Tree
    int16 : ℤ → Tree
    int32 : ℤ → Tree
    int64 : ℤ → Tree
    double : List ℕ → Tree
    binary : List ℕ → Tree
    list : Trees → Tree
    set : Trees → Tree
    map : Pairs → Tree
    struct : Fields → Tree

  -- the items of a list or a set
  pub data Trees : Type 0 where
    no_trees : Trees
    tree : Tree → Trees → Trees

  -- the pairs of a map, key before value
  pub data Pairs : Type 0 where
    no_pairs : Pairs
    pair : Tree → Tree → Pairs → Pairs

  -- the ids and values of a struct's fields, in stored order
  pub data Fields : Type 0 where
    no_fields : Fields
    field : ℤ → Tree → Fields → Fields

-- the number of items, and of pairs
abbrev pub count : Trees → ℕ
count no_trees = zero
count (tree t ts) = suc (count ts)

abbrev pub pair_count : Pairs → ℕ
pair_count no_pairs = zero
pair_count (pair key value ps) = suc (pair_count ps)

-- the kind of a field's value: True or False for a boolean
abbrev pub kind_of_tree : Tree → TKind
kind_of_tree (truth true) = kind.True
kind_of_tree (truth false) = kind.False
kind_of_tree (int8 z) = kind.I8
kind_of_tree (int16 z) = kind.I16
kind_of_tree (int32 z) = kind.I32
kind_of_tree (int64 z) = kind.I64
kind_of_tree (double bytes) = kind.Double
kind_of_tree (binary bytes) = kind.Binary
kind_of_tree (list ts) = kind.List
kind_of_tree (set ts) = kind.Set
kind_of_tree (map ps) = kind.Map
kind_of_tree (struct fs) = kind.Struct

-- the tree of an integer of a kind
abbrev pub whole_tree : TKind → ℤ → Tree
whole_tree kind.I8 z = int8 z
whole_tree kind.I16 z = int16 z
whole_tree kind.I32 z = int32 z
whole_tree k z = int64 z
