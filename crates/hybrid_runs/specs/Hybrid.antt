-- Parquet's RLE / bit-packing hybrid (parquet-format, Encodings.md): runs of values of one width, from 0 to 32 bits,
-- each with a header.
use Rattle.std.specs.Prelude.{ℕ, zero, suc, ◌+◌, ◌-◌, ◌*◌, ◌/◌, ◌%◌, ◌^◌, ◌==◌, nat_lt, nat_le, if◌then◌else◌, List, [], ◌∷◌, ◌++◌, take, drop, replicate, length, Option, None, Some}

-- The little-endian number in some bytes.
abbrev pub le_number : List ℕ → ℕ
le_number [] = 0
le_number (byte ∷ bytes) = byte + 256 * le_number bytes

-- A byte with its high bit set, followed by the rest of its varint.
abbrev pub onto_varint : ℕ → Option (ℕ × List ℕ) → Option (ℕ × List ℕ)
onto_varint byte None = None
onto_varint byte (Some (number, rest)) = Some (byte - 128 + 128 * number, rest)

-- A varint of at most the given number of bytes, and the bytes after it.
abbrev pub varint : ℕ → List ℕ → Option (ℕ × List ℕ)
varint zero bytes = None
varint (suc n) [] = None
varint (suc n) (byte ∷ bytes) = if nat_lt byte 128 then Some (byte, bytes) else onto_varint byte (varint n bytes)

-- The header of a run fits 32 bits.
abbrev pub within_32_bits : Option (ℕ × List ℕ) → Option (ℕ × List ℕ)
within_32_bits None = None
within_32_bits (Some (number, rest)) = if nat_lt number (2 ^ 32) then Some (number, rest) else None

unfoldable pub header : List ℕ → Option (ℕ × List ℕ)
header bytes = within_32_bits (varint 5 bytes)

-- Values bit-packed into a number of `bits` bits, from its lowest bit on: as many as asked for, or as many as there
-- are.
abbrev pub packed : ℕ → ℕ → ℕ → ℕ → List ℕ
packed width zero number bits = []
packed width (suc n) number bits =
    if nat_le width bits then number % 2 ^ width ∷ packed width n (number / 2 ^ width) (bits - width) else []

-- The size in bytes of the value of an RLE run.
abbrev pub value_size : ℕ → ℕ
value_size width = (width + 7) / 8

-- `count` copies of the value at the start of the bytes, or none if the bytes are too few for a value.
abbrev pub copies : ℕ → ℕ → List ℕ → List ℕ
copies width count bytes =
    if nat_lt (length bytes) (value_size width) then [] else replicate count (le_number (take (value_size width) bytes))

-- The values of the run with header `h` whose bytes start here. In an RLE run `h` is twice the count of copies; in a
-- bit-packed run it is twice the count of groups of eight values, plus 1.
unfoldable pub run_values : ℕ → ℕ → List ℕ → List ℕ
run_values width h bytes =
    if h % 2 == 0 then copies width (h / 2) bytes else packed width (8 * (h / 2)) (le_number bytes) (8 * length bytes)

-- The size in bytes of a run without its header.
unfoldable pub run_size : ℕ → ℕ → ℕ
run_size width h = if h % 2 == 0 then value_size width else width * (h / 2)

-- The values of a run, and then those of the runs after it.
abbrev pub with_run : ℕ → Option (ℕ × List ℕ) → (List ℕ → List ℕ) → List ℕ
with_run width None following = []
with_run width (Some (h, bytes)) following = run_values width h bytes ++ following (drop (run_size width h) bytes)

-- The values of at most the given number of runs, up to the first header that is invalid.
abbrev pub runs : ℕ → ℕ → List ℕ → List ℕ
runs width zero bytes = []
runs width (suc n) bytes = with_run width (header bytes) (runs width n)

-- The values that bytes encode, up to the first header that is invalid. Each run takes at least one byte.
abbrev pub hybrid : ℕ → List ℕ → List ℕ
hybrid width bytes = runs width (length bytes) bytes
