use Rattle.std.proofs.Common.{◌≡◌, ◌++◌, map}
use Rattle.key_material.proofs.key_lists.push_names.Given as goal

abbrev pub invariant-loop-name : goal.invariant-loop-name
invariant-loop-name l = l.names ≡ l.fn.names ++ map (λ x. x.now) l.yielded
