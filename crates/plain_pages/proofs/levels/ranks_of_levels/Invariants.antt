use Rattle.std.proofs.Common.{◌≡◌, ◌+◌, ◌≤◌, ◌++◌, map, drop, length}
use Rattle.plain_pages.specs.PageInside.{ranks_from}
use Rattle.plain_pages.specs.Pages.{defined}
use Rattle.plain_pages.specs.RanksInside.{rank_in}
use Rattle.plain_pages.proofs.levels.ranks_of_levels.Given as goal

abbrev pub invariant-loop-level : goal.invariant-loop-level
invariant-loop-level l =
    (l.defined ≤ l.level-index)
    × (ranks_from 0 l.levels ≡ map rank_in l.ranks.items ++ ranks_from l.defined (drop l.level-index l.levels))
    × (defined l.levels ≡ l.defined + defined (drop l.level-index l.levels))
    × (length l.ranks.items ≡ l.level-index)
