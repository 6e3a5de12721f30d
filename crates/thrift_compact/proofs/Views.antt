-- The trees of lists, maps and structs, in terms of their parts.
use Rattle.std.proofs.Common.{rules, ◌≡◌, List, ℤ}
use Rattle.thrift_compact.specs.declared.tree.TVal.{TVal, the_lemmas}
use Rattle.thrift_compact.specs.declared.tree.TList.{TList}
use Rattle.thrift_compact.specs.declared.tree.TMap.{TMap}
use Rattle.thrift_compact.specs.declared.tree.TFields.{TFields}
use Rattle.thrift_compact.specs.View.{list_view, map_view, struct_view, trees_view, pairs_view, fields_view}

abbrev pub list_of : List TVal → TList
list_of vs = record { items = vs }

abbrev pub map_of : List (TVal × TVal) → TMap
map_of ps = record { pairs = ps }

abbrev pub struct_of : List (ℤ × TVal) → TFields
struct_of fs = record { fields = fs }

pub list_view_is : (vs : List TVal) → list_view (list_of vs) ≡ trees_view vs
list_view_is vs = search (rules, the_lemmas)

pub map_view_is : (ps : List (TVal × TVal)) → map_view (map_of ps) ≡ pairs_view ps
map_view_is ps = search (rules, the_lemmas)

pub struct_view_is : (fs : List (ℤ × TVal)) → struct_view (struct_of fs) ≡ fields_view fs
struct_view_is fs = search (rules, the_lemmas)
