use Rattle.std.proofs.Common.{◌≤◌, length, ◌+◌, ◌-◌, ◌*◌}
use Rattle.thrift_compact.proofs.PartsLeft.{ItemsLeft, EntriesLeft, FieldsLeft}
use Rattle.thrift_compact.specs.Reading.{element, nest}
use Rattle.thrift_compact.specs.Reading.{value as value_at}
use Rattle.thrift_compact.proofs.Built.{trees_before, pairs_before, fields_before}
use Rattle.thrift_compact.proofs.read.+read.Given as goal

abbrev pub decreases-read_element : goal.decreases-read_element
decreases-read_element l = 3 * l.depth_left + 2

abbrev pub decreases-read_fields : goal.decreases-read_fields
decreases-read_fields l = 3 * l.depth_left

abbrev pub decreases-read_list : goal.decreases-read_list
decreases-read_list l = 3 * l.depth_left

abbrev pub decreases-read_map : goal.decreases-read_map
decreases-read_map l = 3 * l.depth_left

abbrev pub decreases-read_value : goal.decreases-read_value
decreases-read_value l = 3 * l.depth_left + 1

abbrev pub invariant-read_fields-loop-fields : goal.invariant-read_fields-loop-fields
invariant-read_fields-loop-fields l =
    FieldsLeft (fields_before l.fields.fields) ((nest l.depth_left).fields l.fn.cursor) (value_at l.inner) l.ids l.cursor
    × (length l.cursor ≤ length l.fn.cursor)

abbrev pub decreases-read_fields-loop-fields : goal.decreases-read_fields-loop-fields
decreases-read_fields-loop-fields l = length l.cursor

abbrev pub invariant-read_list-loop-turn : goal.invariant-read_list-loop-turn
invariant-read_list-loop-turn l =
    ItemsLeft (trees_before l.list.items) ((nest l.depth_left).trees l.fn.cursor) (element (value_at l.inner) l.kind) (l.count - l._turn) l.cursor
    × (length l.cursor ≤ length l.fn.cursor)

abbrev pub invariant-read_map-loop-turn : goal.invariant-read_map-loop-turn
invariant-read_map-loop-turn l =
    EntriesLeft (pairs_before l.map.pairs) ((nest l.depth_left).pairs l.fn.cursor) (element (value_at l.inner) l.key_kind) (element (value_at l.inner) l.value_kind) (l.count - l._turn) l.cursor
    × (length l.cursor ≤ length l.fn.cursor)
