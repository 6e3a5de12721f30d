use Rattle.std.proofs.Common.{refl, ◌∙◌}
use Rattle.footer_rules.proofs.Chunks.{chunks_next}
use Rattle.footer_rules.proofs.Lists.{onto_next}
use Rattle.footer_rules.proofs.group_rules.chunks_of.Goals as goal

pub loop-columns-preserved : goal.loop-columns-preserved
loop-columns-preserved c =
    let now = chunks_next c.args.place c.loop-columns.columns.now c.column-item.result c.column-item.result c.in-Some.chunk c.next.new.self c.in-len1-up.len_at_least c.column-item.is in
    let made = rw c.as_slice.ensures at c.in_ok-meta.ensures.answer refl in
    rw c.in-Ok.ensures.ok (onto_next _ _ _ _ made ∙ (rw (c.in-Some.ensures, now) at c.loop-columns.invariant))
