use Rattle.std.proofs.Common.{◌∙◌, length, sym, arith, lit<}
use Rattle.std.specs.List.{list_all}
use Rattle.std.proofs.lemmas.List.{at_drop_all, length_push}
use Rattle.std.proofs.lemmas.Iterator.Consumers.{YieldsList-at, YieldsList-end, YieldsList-turn}
use Rattle.std.proofs.lemmas.Iterator.Splits.{YieldsList-from_str_split}
use Rattle.key_material.specs.KeyLists.{parts, is_group}
use Rattle.key_material.proofs.Parts.{all-with, all-without}
use Rattle.key_material.proofs.key_lists.are_groups.Goals as goal

pub returns-then-not-is_group : goal.returns-then-not-is_group
returns-then-not-is_group c =
    let split = c.split-group-items.ensures in
    let given = YieldsList-at c.into_iter-group-iterator.ensures.into_iter_gives (YieldsList-from_str_split 59 c.args.text.now (lit< tt) split.text split.has_more split.pattern) in
    let turn = YieldsList-turn given c.loop-group.yielded _ c.loop-group.yielded_by _ _ c.in-Some.group c.in-Some.is c.next.ensures.steps in
    sym (c.loop-group.invariant ∙ all-without is_group (parts 59 c.args.text.now) (length c.loop-group.yielded) c.in-Some.group.now turn (sym c.is_group.ensures ∙ c.if-not-is_group.true))

pub loop-group-preserved : goal.loop-group-preserved
loop-group-preserved c =
    let split = c.split-group-items.ensures in
    let given = YieldsList-at c.into_iter-group-iterator.ensures.into_iter_gives (YieldsList-from_str_split 59 c.args.text.now (lit< tt) split.text split.has_more split.pattern) in
    let turn = YieldsList-turn given c.loop-group.yielded _ c.loop-group.yielded_by _ _ c.in-Some.group c.in-Some.is c.next.ensures.steps in
    rw (length_push c.loop-group.yielded c.in-Some.group) (c.loop-group.invariant
    ∙ all-with is_group (parts 59 c.args.text.now) (length c.loop-group.yielded) c.in-Some.group.now turn (sym c.is_group.ensures ∙ c.if-not-is_group.false))

pub returns : goal.returns
returns c =
    let split = c.split-group-items.ensures in
    let given = YieldsList-at c.into_iter-group-iterator.ensures.into_iter_gives (YieldsList-from_str_split 59 c.args.text.now (lit< tt) split.text split.has_more split.pattern) in
    let seen = YieldsList-end given c.loop-group.yielded _ c.loop-group.yielded_by _ _ c.in-None.is c.next.ensures.steps in
    sym (c.loop-group.invariant ∙ at_drop_all (list_all is_group) (parts 59 c.args.text.now) (length c.loop-group.yielded) (omega (arith, seen.1)))
