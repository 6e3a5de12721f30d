use Rattle.std.proofs.Common.{arith, rules}
use Rattle.parquet_meta.specs.Ranges.{ChunkInRange}
use Rattle.parquet_meta.proofs.PlanNumbers.{all_more, all_over}
use Rattle.parquet_meta.proofs.number_ranges.group_in_range.Goals as goal

pub loop-chunk-init : goal.loop-chunk-init
loop-chunk-init c = ((λ k d h. absurd (omega (arith, h))), c.as_slice-items.ensures)

pub loop-chunk-preserved : goal.loop-chunk-preserved
loop-chunk-preserved c =
    (all_more ChunkInRange _ _ c.chunk-item.result c.loop-chunk-test.true c.chunk-item.is c.loop-chunk.invariant.0 c.chunk_in_range.ensures, c.loop-chunk.invariant.1)

pub returns : goal.returns
returns c = record {
  chunks = all_over ChunkInRange _ _ _ c.loop-chunk-test.false c.as_slice-items.ensures c.loop-chunk.invariant.0;
  num_rows = search rules;
}
