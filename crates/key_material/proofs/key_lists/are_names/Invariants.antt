use Rattle.std.proofs.Common.{◌≡◌, drop, length}
use Rattle.std.specs.List.{list_all}
use Rattle.key_material.specs.KeyLists.{parts, is_name, are_names}
use Rattle.key_material.proofs.key_lists.are_names.Given as goal

abbrev pub invariant-loop-name : goal.invariant-loop-name
invariant-loop-name l = are_names l.text ≡ list_all is_name (drop (length l.yielded) (parts 44 l.text))
