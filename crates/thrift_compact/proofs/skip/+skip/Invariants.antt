use Rattle.std.proofs.Common.{◌≤◌, length, ◌+◌, ◌-◌, ◌*◌}
use Rattle.thrift_compact.proofs.PartsLeft.{ItemsLeft, EntriesLeft, FieldsLeft}
use Rattle.thrift_compact.specs.Reading.{element, nest}
use Rattle.thrift_compact.specs.Reading.{value as value_at}
use Rattle.thrift_compact.specs.Answers.{skipped}
use Rattle.thrift_compact.proofs.Skipped.{nothing}
use Rattle.thrift_compact.proofs.skip.+skip.Given as goal

abbrev pub decreases-skip_element : goal.decreases-skip_element
decreases-skip_element l = 3 * l.depth_left + 2

abbrev pub decreases-skip_fields : goal.decreases-skip_fields
decreases-skip_fields l = 3 * l.depth_left

abbrev pub decreases-skip_list : goal.decreases-skip_list
decreases-skip_list l = 3 * l.depth_left

abbrev pub decreases-skip_map : goal.decreases-skip_map
decreases-skip_map l = 3 * l.depth_left

abbrev pub decreases-skip_value : goal.decreases-skip_value
decreases-skip_value l = 3 * l.depth_left + 1

abbrev pub invariant-skip_fields-loop-ids : goal.invariant-skip_fields-loop-ids
invariant-skip_fields-loop-ids l =
    FieldsLeft nothing (skipped ((nest l.depth_left).fields l.fn.cursor)) (value_at l.inner) l.ids l.cursor
    × (length l.cursor ≤ length l.fn.cursor)

abbrev pub decreases-skip_fields-loop-ids : goal.decreases-skip_fields-loop-ids
decreases-skip_fields-loop-ids l = length l.cursor

abbrev pub invariant-skip_list-loop-turn : goal.invariant-skip_list-loop-turn
invariant-skip_list-loop-turn l =
    ItemsLeft nothing (skipped ((nest l.depth_left).trees l.fn.cursor)) (element (value_at l.inner) l.kind) (l.count - l._turn) l.cursor
    × (length l.cursor ≤ length l.fn.cursor)

abbrev pub invariant-skip_map-loop-turn : goal.invariant-skip_map-loop-turn
invariant-skip_map-loop-turn l =
    EntriesLeft nothing (skipped ((nest l.depth_left).pairs l.fn.cursor)) (element (value_at l.inner) l.key_kind) (element (value_at l.inner) l.value_kind) (l.count - l._turn) l.cursor
    × (length l.cursor ≤ length l.fn.cursor)
