use Rattle.std.proofs.Common.{◌≤◌, ◌-◌, length}
use Rattle.thrift_compact.specs.Reading.{varint_at}
use Rattle.thrift_compact.proofs.Varints.{IsPart}
use Rattle.thrift_compact.proofs.cursor.Cursor.long_varint.Given as goal

abbrev pub invariant-loop-turn : goal.invariant-loop-turn
invariant-loop-turn l =
    (l._turn ≤ 9) × IsPart (varint_at l.fn.self) l.start (9 - l._turn) l.value l.scale l.self × (length l.self ≤ length l.fn.self)
