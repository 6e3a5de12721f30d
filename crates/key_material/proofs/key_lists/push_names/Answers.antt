use Rattle.std.proofs.Common.{ap, ◌∙◌, ◌++◌, lit<}
use Rattle.std.proofs.lemmas.Iterator.Consumers.{YieldsList-at, YieldsList-end}
use Rattle.std.proofs.lemmas.Iterator.Splits.{YieldsList-from_str_split}
use Rattle.key_material.proofs.key_lists.push_names.Goals as goal

pub returns : goal.returns
returns c =
    let split = c.split-name-items.ensures in
    let given = YieldsList-at c.into_iter-name-iterator.ensures.into_iter_gives (YieldsList-from_str_split 44 c.args.text.now (lit< tt) split.text split.has_more split.pattern) in
    let seen = YieldsList-end given c.loop-name.yielded _ c.loop-name.yielded_by _ _ c.in-None.is c.next.ensures.steps in
    c.loop-name.invariant ∙ ap (λ names. c.args.names.now ++ names) seen.0
