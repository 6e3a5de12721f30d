use Rattle.std.proofs.Common.{◌-◌}
use Rattle.thrift_compact.specs.Answers.{mapped}
use Rattle.thrift_compact.specs.Reading.{value, element, elements}
use Rattle.thrift_compact.specs.Standing.{depth_left}
use Rattle.parquet_fields.specs.Fields.{items_of}
use Rattle.parquet_fields.proofs.ItemLoops.{Among, made_with}
use Rattle.parquet_fields.proofs.items.read_items.Given as goal

abbrev pub invariant-loop-turn : goal.invariant-loop-turn
invariant-loop-turn g l =
    Among (made_with g.I.Item.item l.items) (mapped (items_of g.I.Item.item) (elements (element (value (depth_left l.fn.reader)) l.kind) l.count l.fn.reader.rest)) l.kind l.fn.reader l.reader (l.count - l.turn)
