use Rattle.std.proofs.Common.{ap, ◌∙◌, ◌++◌, lit<}
use Rattle.std.specs.List.{flat_map}
use Rattle.std.proofs.lemmas.Iterator.Consumers.{YieldsList-at, YieldsList-end}
use Rattle.std.proofs.lemmas.Iterator.Splits.{YieldsList-from_str_split}
use Rattle.key_material.specs.KeyLists.{keys_of_group}
use Rattle.key_material.proofs.key_lists.push_groups.Goals as goal

pub returns : goal.returns
returns c =
    let split = c.split-group-items.ensures in
    let given = YieldsList-at c.into_iter-group-iterator.ensures.into_iter_gives (YieldsList-from_str_split 59 c.args.text.now (lit< tt) split.text split.has_more split.pattern) in
    let seen = YieldsList-end given c.loop-group.yielded _ c.loop-group.yielded_by _ _ c.in-None.is c.next.ensures.steps in
    c.loop-group.invariant ∙ ap (λ groups. c.args.keys.now ++ flat_map keys_of_group groups) seen.0
