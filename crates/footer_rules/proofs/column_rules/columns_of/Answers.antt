use Rattle.std.proofs.Common.{refl, ◌∙◌}
use Rattle.footer_rules.proofs.Lists.{onto_next}
use Rattle.footer_rules.proofs.column_rules.columns_of.Goals as goal

pub loop-element-preserved : goal.loop-element-preserved
loop-element-preserved c =
    rw (c.in-Ok.ensures.ok, c.in_ok-column.ensures.added)
    (onto_next _ _ _ _ (c.in_ok-column.ensures.answer refl) ∙ (rw c.in-Some.ensures at c.loop-element.invariant))
