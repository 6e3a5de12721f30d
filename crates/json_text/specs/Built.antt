-- The contents of an ObjectBuilder and a ListBuilder.
use Rattle.std.specs.Prelude.{List, map}
use Rattle.serde_json.specs.Data.{Data, Members}
use Rattle.serde_json.specs.View.{view, members_view}
use Rattle.json_text.specs.declared.building.ObjectBuilder.{ObjectBuilder}
use Rattle.json_text.specs.declared.building.ListBuilder.{ListBuilder}

-- the members of an object, in ascending byte order of their names
unfoldable pub members_built : ObjectBuilder → Members
members_built b = members_view b.members.entries

-- the items of an array, in order
unfoldable pub items_built : ListBuilder → List Data
items_built b = map view b.items.items
