use Rattle.std.proofs.Common.{◌≡◌, List, ℕ, length}
use Rattle.thrift_compact.specs.Writing.{resumed}
use Rattle.thrift_compact.proofs.writer.next_open.Given as goal

abbrev pub invariant-loop-part : goal.invariant-loop-part
invariant-loop-part l = (out : List ℕ) → resumed out l.outer.items ≡ resumed out l.fn.outer.items

abbrev pub decreases-loop-part : goal.decreases-loop-part
decreases-loop-part l = length l.outer.items
