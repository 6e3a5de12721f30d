use Rattle.std.proofs.Common.{◌≤◌, ◌∙◌, ap, sym, subst, length, FitsSigned, w64, arith}
use Rattle.parquet_writing.specs.Plans.{total_uncompressed, total_stored}
use Rattle.parquet_writing.proofs.PutSums.{total_before, total_next, total_over, within_nothing, within_more}
use Rattle.parquet_writing.proofs.put_group.size_of.Goals as goal

pub loop-chunk-init : goal.loop-chunk-init
loop-chunk-init c =
    let items = c.as_slice-items.result.now in
    (total_before (λ x. x.uncompressed) items, total_before (λ x. x.stored) items, within_nothing, within_nothing, c.as_slice-items.ensures)

pub with-size-requires : goal.with-size-requires
with-size-requires c =
    let up : c.loop-chunk.chunk-index ≤ 2147483648 = omega (arith, c.loop-chunk-test.true, ap length c.as_slice-items.ensures, c.requires.0) in
    (within_more c.loop-chunk.chunk-index _ _ up c.loop-chunk.invariant.2, within_more c.loop-chunk.chunk-index _ _ up c.loop-chunk.invariant.3)

pub loop-chunk-preserved : goal.loop-chunk-preserved
loop-chunk-preserved c =
    let i = c.loop-chunk.invariant in (
      total_next (λ x. x.uncompressed) _ _ c.chunk-item.result _ _ _ c.loop-chunk-test.true c.chunk-item.is i.0 c.with-size.ensures.uncompressed,
      total_next (λ x. x.stored) _ _ c.chunk-item.result _ _ _ c.loop-chunk-test.true c.chunk-item.is i.1 c.with-size.ensures.stored,
      c.with-size.ensures.within_uncompressed _ i.2,
      c.with-size.ensures.within_stored _ i.3,
      i.4,
    )

pub narrow-requires : goal.narrow-requires
narrow-requires c =
    let i = c.loop-chunk.invariant in (
      subst (FitsSigned w64) (sym (total_over (λ x. x.uncompressed) _ _ _ _ c.loop-chunk-test.false i.0 ∙ ap total_uncompressed i.4)) c.requires.1,
      subst (FitsSigned w64) (sym (total_over (λ x. x.stored) _ _ _ _ c.loop-chunk-test.false i.1 ∙ ap total_stored i.4)) c.requires.2,
    )

pub returns-clause-uncompressed : goal.returns-clause-uncompressed
returns-clause-uncompressed c =
    c.narrow.ensures.uncompressed ∙ (total_over (λ x. x.uncompressed) _ _ _ _ c.loop-chunk-test.false c.loop-chunk.invariant.0 ∙ ap total_uncompressed c.loop-chunk.invariant.4)

pub returns-clause-stored : goal.returns-clause-stored
returns-clause-stored c =
    c.narrow.ensures.stored ∙ (total_over (λ x. x.stored) _ _ _ _ c.loop-chunk-test.false c.loop-chunk.invariant.1 ∙ ap total_stored c.loop-chunk.invariant.4)
