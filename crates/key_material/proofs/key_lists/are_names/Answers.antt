use Rattle.std.proofs.Common.{◌∙◌, ap, length, not, sym, arith, lit<}
use Rattle.std.specs.List.{list_all}
use Rattle.std.proofs.lemmas.List.{at_drop_all, length_push}
use Rattle.std.proofs.lemmas.Iterator.Consumers.{YieldsList-at, YieldsList-end, YieldsList-turn}
use Rattle.std.proofs.lemmas.Iterator.Splits.{YieldsList-from_str_split}
use Rattle.key_material.specs.KeyLists.{parts, is_name}
use Rattle.key_material.proofs.Parts.{all-with, all-without}
use Rattle.key_material.proofs.key_lists.are_names.Goals as goal

pub returns-then-is_empty : goal.returns-then-is_empty
returns-then-is_empty c =
    let split = c.split-name-items.ensures in
    let given = YieldsList-at c.into_iter-name-iterator.ensures.into_iter_gives (YieldsList-from_str_split 44 c.args.text.now (lit< tt) split.text split.has_more split.pattern) in
    let turn = YieldsList-turn given c.loop-name.yielded _ c.loop-name.yielded_by _ _ c.in-Some.name c.in-Some.is c.next.ensures.steps in
    sym (c.loop-name.invariant ∙ all-without is_name (parts 44 c.args.text.now) (length c.loop-name.yielded) c.in-Some.name.now turn (ap not (sym c.is_empty.ensures ∙ c.if-is_empty.true)))

pub loop-name-preserved : goal.loop-name-preserved
loop-name-preserved c =
    let split = c.split-name-items.ensures in
    let given = YieldsList-at c.into_iter-name-iterator.ensures.into_iter_gives (YieldsList-from_str_split 44 c.args.text.now (lit< tt) split.text split.has_more split.pattern) in
    let turn = YieldsList-turn given c.loop-name.yielded _ c.loop-name.yielded_by _ _ c.in-Some.name c.in-Some.is c.next.ensures.steps in
    rw (length_push c.loop-name.yielded c.in-Some.name) (c.loop-name.invariant
    ∙ all-with is_name (parts 44 c.args.text.now) (length c.loop-name.yielded) c.in-Some.name.now turn (ap not (sym c.is_empty.ensures ∙ c.if-is_empty.false)))

pub returns : goal.returns
returns c =
    let split = c.split-name-items.ensures in
    let given = YieldsList-at c.into_iter-name-iterator.ensures.into_iter_gives (YieldsList-from_str_split 44 c.args.text.now (lit< tt) split.text split.has_more split.pattern) in
    let seen = YieldsList-end given c.loop-name.yielded _ c.loop-name.yielded_by _ _ c.in-None.is c.next.ensures.steps in
    sym (c.loop-name.invariant ∙ at_drop_all (list_all is_name) (parts 44 c.args.text.now) (length c.loop-name.yielded) (omega (arith, seen.1)))
