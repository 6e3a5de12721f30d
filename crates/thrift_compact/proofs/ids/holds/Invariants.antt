use Rattle.std.proofs.Common.{◌≡◌, drop}
use Rattle.thrift_compact.specs.Reading.{is_among}
use Rattle.thrift_compact.proofs.ids.holds.Given as goal

abbrev pub invariant-loop-item : goal.invariant-loop-item
invariant-loop-item l = is_among l.id (drop l.item-index l.items) ≡ is_among l.id l.items
