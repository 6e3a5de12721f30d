-- Vectors of 64 bytes as four blocks of 16 bytes.
use Rattle.std.specs.Prelude.{ℕ, ◌*◌, List, ◌++◌, take, drop}

-- block number b of a vector
abbrev pub lane_block : List ℕ → ℕ → List ℕ
lane_block v b = take 16 (drop (16 * b) v)

-- four copies of a block
abbrev pub four_times : List ℕ → List ℕ
four_times block = block ++ (block ++ (block ++ block))
