use Rattle.std.proofs.Common.{◌≡◌, ◌<◌, ℕ, get_or}
use Rattle.parquet_types.specs.declared.plan.WrittenGroup.{WrittenGroup}
use Rattle.parquet_meta.specs.Ranges.{GroupInRange}
use Rattle.parquet_meta.proofs.number_ranges.plan_in_range.Given as goal

-- The numbers of the row groups before this one are in range.
abbrev pub invariant-loop-group : goal.invariant-loop-group
invariant-loop-group l = ((k : ℕ) (d : WrittenGroup) → k < l.group-index → GroupInRange (get_or l.items k d)) × (l.items ≡ l.fn.plan.groups)
