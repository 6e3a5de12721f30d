-- Bits as bytes, eight in each from the lowest bit on, and as one bit-packed run of width 1.
use Rattle.std.specs.Prelude.{◌≡◌, ℕ, zero, suc, ◌+◌, ◌*◌, ◌/◌, ◌%◌, ◌<◌, ◌≤◌, nat_lt, if◌then◌else◌, List, [], ◌∷◌, ◌++◌, take, drop, length, slice_index}
use Rattle.hybrid_runs.specs.Hybrid.{hybrid}

-- The number with these bits, from the lowest on.
abbrev pub bits_number : List ℕ → ℕ
bits_number [] = 0
bits_number (bit ∷ bits) = bit % 2 + 2 * bits_number bits

-- The given number of bytes with eight bits each. Missing bits are 0.
abbrev pub grouped : ℕ → List ℕ → List ℕ
grouped zero bits = []
grouped (suc n) bits = bits_number (take 8 bits) ∷ grouped n (drop 8 bits)

-- The number of groups of eight that hold `count` values.
abbrev pub groups_of : ℕ → ℕ
groups_of count = (count + 7) / 8

abbrev pub bits_text : List ℕ → List ℕ
bits_text bits = grouped (groups_of (length bits)) bits

-- A number as a varint of at most the given number of bytes.
abbrev pub varint_text : ℕ → ℕ → List ℕ
varint_text zero number = []
varint_text (suc n) number = if nat_lt number 128 then number ∷ [] else (number % 128 + 128) ∷ varint_text n (number / 128)

-- The header of one bit-packed run that holds `count` values.
unfoldable pub header_text : ℕ → List ℕ
header_text count = varint_text 5 (2 * groups_of count + 1)

-- One bit-packed run of width 1.
abbrev pub run_text : List ℕ → List ℕ
run_text bits = header_text (length bits) ++ bits_text bits

-- Bits written as a run are read back, whatever bytes follow.
abbrev pub BitsReadBack : Type 0
BitsReadBack = (bits rest : List ℕ) → length bits ≤ 16777216 → ((i : ℕ) → slice_index bits i < 2) → take (length bits) (hybrid 1 (run_text bits ++ rest)) ≡ bits
