-- The tree that a value of the code stands for. There is a step for each of the four mutually recursive types.
use Rattle.std.specs.Prelude.{ℤ, List, [], ◌∷◌, map as map_list}
use Rattle.thrift_compact.specs.declared.tree.TVal.{TVal, fold-TVal}
use Rattle.thrift_compact.specs.declared.tree.TVal.TheOpen.{TVal-F, TList-F, TMap-F, TFields-F}
use Rattle.thrift_compact.specs.declared.tree.TList.{TList, fold-TList}
use Rattle.thrift_compact.specs.declared.tree.TMap.{TMap, fold-TMap}
use Rattle.thrift_compact.specs.declared.tree.TFields.{TFields, fold-TFields}
use Rattle.thrift_compact.specs.Tree.{Tree, truth, int8, int16, int32, int64, double, binary, list, set, map, struct, Trees, no_trees, tree, Pairs, no_pairs, pair, Fields, no_fields, field}

-- lists of items, pairs and fields in the types of Tree
abbrev pub trees_of : List Tree → Trees
trees_of [] = no_trees
trees_of (t ∷ ts) = tree t (trees_of ts)

abbrev pub pairs_of : List (Tree × Tree) → Pairs
pairs_of [] = no_pairs
pairs_of (p ∷ ps) = pair p.0 p.1 (pairs_of ps)

abbrev pub fields_of : List (ℤ × Tree) → Fields
fields_of [] = no_fields
fields_of (f ∷ fs) = field f.0 f.1 (fields_of fs)

abbrev pub view_step : TVal-F Tree Fields Trees Pairs → Tree
view_step (TVal-F.Bool b) = truth b
view_step (TVal-F.I8 z) = int8 z
view_step (TVal-F.I16 z) = int16 z
view_step (TVal-F.I32 z) = int32 z
view_step (TVal-F.I64 z) = int64 z
view_step (TVal-F.Double bytes) = double bytes
view_step (TVal-F.Binary bytes) = binary bytes
view_step (TVal-F.List items) = list items
view_step (TVal-F.Set items) = set items
view_step (TVal-F.Map pairs) = map pairs
view_step (TVal-F.Struct fields) = struct fields

abbrev pub list_step : TList-F Tree Fields Trees Pairs → Trees
list_step l = trees_of l.items

abbrev pub map_step : TMap-F Tree Fields Trees Pairs → Pairs
map_step m = pairs_of m.pairs

abbrev pub struct_step : TFields-F Tree Fields Trees Pairs → Fields
struct_step s = fields_of s.fields

-- the tree of a value, the items of a list, the pairs of a map, and the fields of a struct
abbrev pub view : TVal → Tree
view = fold-TVal Tree Fields Trees Pairs view_step struct_step list_step map_step

abbrev pub list_view : TList → Trees
list_view = fold-TList Tree Fields Trees Pairs view_step struct_step list_step map_step

abbrev pub map_view : TMap → Pairs
map_view = fold-TMap Tree Fields Trees Pairs view_step struct_step list_step map_step

abbrev pub struct_view : TFields → Fields
struct_view = fold-TFields Tree Fields Trees Pairs view_step struct_step list_step map_step

-- these views for the plain lists that the code's loops read
abbrev pub trees_view : List TVal → Trees
trees_view vs = trees_of (map_list view vs)

abbrev pub pair_view : TVal × TVal → Tree × Tree
pair_view p = (view p.0, view p.1)

abbrev pub pairs_view : List (TVal × TVal) → Pairs
pairs_view ps = pairs_of (map_list pair_view ps)

abbrev pub field_view : ℤ × TVal → ℤ × Tree
field_view f = (f.0, view f.1)

abbrev pub fields_view : List (ℤ × TVal) → Fields
fields_view fs = fields_of (map_list field_view fs)
