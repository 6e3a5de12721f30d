use Rattle.std.proofs.Common.{◌≡◌, take}
use Rattle.thrift_compact.proofs.ids.Many.of.Given as goal

abbrev pub invariant-loop-id : goal.invariant-loop-id
invariant-loop-id l = l.many ≡ take l.id-index l.ids
