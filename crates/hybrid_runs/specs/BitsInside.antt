-- A stream of bits, some of them held in a number and the others in the bytes after it.
use Rattle.std.specs.Prelude.{ℕ, ◌+◌, ◌*◌, ◌^◌, List, length}
use Rattle.hybrid_runs.specs.Hybrid.{le_number}

-- The number whose binary digits are the bits of the stream, from the lowest on.
abbrev pub number_in : ℕ → ℕ → List ℕ → ℕ
number_in held count rest = held + 2 ^ count * le_number rest

-- The number of bits in the stream.
abbrev pub bits_in : ℕ → List ℕ → ℕ
bits_in count rest = count + 8 * length rest
