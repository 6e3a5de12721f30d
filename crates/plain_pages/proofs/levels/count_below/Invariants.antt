use Rattle.std.proofs.Common.{◌≡◌, ◌+◌, ◌≤◌, drop}
use Rattle.plain_pages.specs.Pages.{count_below}
use Rattle.plain_pages.proofs.levels.count_below.Given as goal

abbrev pub invariant-loop-value : goal.invariant-loop-value
invariant-loop-value l = (count_below l.limit l.values ≡ l.count + count_below l.limit (drop l.value-index l.values)) × (l.count ≤ l.value-index)
