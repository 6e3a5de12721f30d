-- The example vectors of FIPS 197, appendix C: one block, encrypted with a key of each length.
use Rattle.std.specs.Prelude.{ℕ, List}
use Rattle.std.specs.Int.{to_be_bytes, w128}
use Rattle.std.specs.List.{range_with_len}

-- the bytes 00 11 22 .. ff
abbrev pub example_block : List ℕ
example_block = to_be_bytes w128 0x00112233445566778899aabbccddeeff

-- the n bytes 00 01 02 ..
abbrev pub example_key : ℕ → List ℕ
example_key n = range_with_len 0 n

abbrev pub example_128 : List ℕ
example_128 = to_be_bytes w128 0x69c4e0d86a7b0430d8cdb78070b4c55a

abbrev pub example_192 : List ℕ
example_192 = to_be_bytes w128 0xdda97ca4864cdfe06eaf70a0ec0d7191

abbrev pub example_256 : List ℕ
example_256 = to_be_bytes w128 0x8ea2b7ca516745bfeafc49904b496089
