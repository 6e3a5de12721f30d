use Rattle.std.proofs.Common.{arith, refl, ◌∙◌}
use Rattle.footer_rules.proofs.Lists.{onto_next}
use Rattle.footer_rules.proofs.Rows.{none_negative_next}
use Rattle.footer_rules.proofs.group_rules.groups_of.Goals as goal

pub loop-group-preserved : goal.loop-group-preserved
loop-group-preserved c =
    rw c.in-Ok.ensures.ok (
      onto_next _ _ _ _ (c.in_ok-meta.ensures.answer refl) ∙ (rw c.in-Some.ensures at c.loop-group.invariant.0),
      none_negative_next _ _ c.loop-group.invariant.1 c.in_ok-meta.ensures.least,
      omega (arith, rw c.in-Some.ensures at c.loop-group.invariant.2),
    )
