use Rattle.std.proofs.Common.{◌≡◌, ◌++◌, map}
use Rattle.key_material.specs.KeyLists.{under_key}
use Rattle.key_material.proofs.key_lists.push_group.Given as goal

abbrev pub invariant-loop-column : goal.invariant-loop-column
invariant-loop-column l = l.keys ≡ l.fn.keys ++ map (under_key l.id) (map (λ x. x.now) l.yielded)
