-- Look-ups in tables of 16 entries: an index is a half byte, or at least 128, which gives 0.
use Rattle.std.specs.Prelude.{ℕ, cond, ◌||◌, T, nat_le, nat_lt, List, slice_index}

abbrev pub IsIndex : ℕ → Type 0
IsIndex j = T (nat_le 128 j || nat_lt j 16)

-- the table's entry at an index
abbrev pub found : List ℕ → ℕ → ℕ
found table j = cond (nat_le 128 j) 0 (slice_index table j)
