-- Pairs with a borrowed slice, as pairs with a list.
use Rattle.std.specs.Prelude.{ℕ, List}
use Rattle.std.specs.Borrow.{Bor}

-- A number and a borrowed slice.
abbrev pub seen_pair : ℕ × Bor (List ℕ) → ℕ × List ℕ
seen_pair pair = (pair.0, pair.1.now)
