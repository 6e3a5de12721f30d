-- The ranks that a RankLayout represents: for each cell that isn't null the number of its value, counted from 0.
use Rattle.std.specs.Prelude.{ℕ, ◌==◌, if◌then◌else◌, List, map, Option, None, Some}
use Rattle.plain_pages.specs.declared.ranks.RankLayout.{RankLayout}
use Rattle.plain_pages.specs.declared.ranks.RankLayout.TheVariants.{Every, Listed}
use Rattle.plain_pages.specs.PlacesInside.{even}

-- the rank for a stored item: 2^32 - 1 stands for None
abbrev pub rank_in : ℕ → Option ℕ
rank_in item = if item == 4294967295 then None else Some item

-- the ranks that a layout represents
abbrev pub ranks_in : RankLayout → List (Option ℕ)
ranks_in (Every count) = map Some (even 0 1 count)
ranks_in (Listed items) = map rank_in items.items
