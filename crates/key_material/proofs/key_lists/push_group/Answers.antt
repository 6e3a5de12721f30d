use Rattle.std.proofs.Common.{ap, map, ◌∙◌, ◌++◌, lit<}
use Rattle.std.proofs.lemmas.Iterator.Consumers.{YieldsList-at, YieldsList-end}
use Rattle.std.proofs.lemmas.Iterator.Splits.{YieldsList-from_str_split}
use Rattle.key_material.specs.KeyLists.{under_key}
use Rattle.key_material.proofs.key_lists.push_group.Goals as goal

pub returns : goal.returns
returns c =
    let split = c.split-column-items.ensures in
    let given = YieldsList-at c.into_iter-column-iterator.ensures.into_iter_gives (YieldsList-from_str_split 44 c.args.columns.now (lit< tt) split.text split.has_more split.pattern) in
    let seen = YieldsList-end given c.loop-column.yielded _ c.loop-column.yielded_by _ _ c.in-None.is c.next.ensures.steps in
    c.loop-column.invariant ∙ ap (λ names. c.args.keys.now ++ map (under_key c.args.id.now) names) seen.0
