use Rattle.std.proofs.Common.{◌≡◌, ◌++◌, map}
use Rattle.std.specs.List.{flat_map}
use Rattle.key_material.specs.KeyLists.{keys_of_group}
use Rattle.key_material.proofs.key_lists.push_groups.Given as goal

abbrev pub invariant-loop-group : goal.invariant-loop-group
invariant-loop-group l = l.keys ≡ l.fn.keys ++ flat_map keys_of_group (map (λ x. x.now) l.yielded)
