use Rattle.std.proofs.Common.{arith, rules}
use Rattle.parquet_meta.specs.Ranges.{GroupInRange}
use Rattle.parquet_meta.proofs.PlanNumbers.{all_more, all_over}
use Rattle.parquet_meta.proofs.number_ranges.plan_in_range.Goals as goal

pub loop-group-init : goal.loop-group-init
loop-group-init c = ((λ k d h. absurd (omega (arith, h))), c.as_slice-items.ensures)

pub loop-group-preserved : goal.loop-group-preserved
loop-group-preserved c =
    (all_more GroupInRange _ _ c.group-item.result c.loop-group-test.true c.group-item.is c.loop-group.invariant.0 c.group_in_range.ensures, c.loop-group.invariant.1)

pub returns : goal.returns
returns c = record {
  groups = all_over GroupInRange _ _ _ c.loop-group-test.false c.as_slice-items.ensures c.loop-group.invariant.0;
  num_rows = search rules;
}
