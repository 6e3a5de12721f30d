use Rattle.std.proofs.Common.{◌≡◌, drop, length}
use Rattle.std.specs.List.{list_all}
use Rattle.key_material.specs.KeyLists.{parts, is_group, are_groups}
use Rattle.key_material.proofs.key_lists.are_groups.Given as goal

abbrev pub invariant-loop-group : goal.invariant-loop-group
invariant-loop-group l = are_groups l.text ≡ list_all is_group (drop (length l.yielded) (parts 59 l.text))
