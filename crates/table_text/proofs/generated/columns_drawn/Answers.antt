use Rattle.std.proofs.Common.{ap, add-one}
use Rattle.table_text.proofs.DrawLemmas.{row_more}
use Rattle.table_text.specs.Generated.{state_after_row}
use Rattle.table_text.proofs.generated.columns_drawn.Goals as goal

pub loop-number-preserved : goal.loop-number-preserved
loop-number-preserved c = (
  rw (add-one c.loop-number.number, c.in-Ok.ensures.pushed, c.draw-row.ensures.drawn, c.loop-number.invariant.0, c.loop-number.invariant.1) (row_more _ _),
  rw (add-one c.loop-number.number, c.draw-row.ensures.state) (ap state_after_row c.loop-number.invariant.1),
)
