use Rattle.std.proofs.Common.{◌-◌}
use Rattle.thrift_compact.specs.Answers.{skipped}
use Rattle.thrift_compact.specs.Reading.{value, element, elements}
use Rattle.thrift_compact.specs.Standing.{depth_left}
use Rattle.parquet_fields.proofs.ItemLoops.{Among, nothing}
use Rattle.parquet_fields.proofs.items.skip_items.Given as goal

abbrev pub invariant-loop-turn : goal.invariant-loop-turn
invariant-loop-turn l =
    Among nothing (skipped (elements (element (value (depth_left l.fn.reader)) l.kind) l.count l.fn.reader.rest)) l.kind l.fn.reader l.reader (l.count - l._turn)
