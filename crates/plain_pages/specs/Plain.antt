-- The PLAIN encoding (parquet-format, Encodings.md): values one after another. The place of a value is the position at
-- which it begins: for BOOLEAN a bit position, counted from the lowest bit of the first byte, otherwise a byte offset.
use Rattle.std.specs.Prelude.{ℕ, zero, suc, ◌+◌, ◌*◌, ◌/◌, ◌%◌, ◌==◌, nat_lt, nat_le, if◌then◌else◌, Bool, List, [], ◌∷◌, take, drop, length, slice_index, Option, None, Some}
use Rattle.std.specs.Int.{w32, w64, from_le_bytes, cast_signed, bit_at}
use Rattle.parquet_types.specs.declared.column.ColumnKind.{ColumnKind}
use Rattle.parquet_types.specs.declared.column.ColumnKind.TheVariants.{Boolean, Int32, Int64, Int96, Float, Double, ByteArray, Fixed}
use Rattle.plain_pages.specs.Cells.{Cell, null, bool, int32, int64, bytes}

-- the length of the byte array at the front of these bytes
abbrev pub array_length : List ℕ → ℕ
array_length front = from_le_bytes w32 (take 4 front)

-- the size of the value at the front: bits for BOOLEAN, otherwise bytes
abbrev pub value_size : ColumnKind → List ℕ → ℕ
value_size Boolean front = 1
value_size Int32 front = 4
value_size Int64 front = 8
value_size Int96 front = 12
value_size Float front = 4
value_size Double front = 8
value_size ByteArray front = 4 + array_length front
value_size (Fixed n) front = n

-- the size of every value of a type; None for byte arrays, whose sizes differ
abbrev pub fixed_size : ColumnKind → Option ℕ
fixed_size ByteArray = None
fixed_size kind = Some (value_size kind [])

-- the value at the front of these bytes
abbrev pub value_of : ColumnKind → List ℕ → Cell
value_of Boolean front = bool (slice_index front 0 % 2 == 1)
value_of Int32 front = int32 (cast_signed w32 (from_le_bytes w32 (take 4 front)))
value_of Int64 front = int64 (cast_signed w64 (from_le_bytes w64 (take 8 front)))
value_of Int96 front = bytes (take 12 front)
value_of Float front = bytes (take 4 front)
value_of Double front = bytes (take 8 front)
value_of ByteArray front = bytes (take (array_length front) (drop 4 front))
value_of (Fixed n) front = bytes (take n front)

-- the bit at a bit position
abbrev pub bit_there : ℕ → List ℕ → Bool
bit_there place body = bit_at (slice_index body (place / 8)) (place % 8) == 1

-- the place of a value that begins at a byte offset
abbrev pub place_of_byte : ColumnKind → ℕ → ℕ
place_of_byte Boolean byte = 8 * byte
place_of_byte _ byte = byte

-- the place at which the value at `place` ends
abbrev pub next_place : ColumnKind → ℕ → List ℕ → ℕ
next_place Boolean place body = place + 1
next_place kind place body = place + value_size kind (drop place body)

-- the value at a place, or null if the body doesn't hold it completely
abbrev pub cell_at : ColumnKind → ℕ → List ℕ → Cell
cell_at Boolean place body = if nat_lt place (8 * length body) then bool (bit_there place body) else null
cell_at kind place body = if nat_le (next_place kind place body) (length body) then value_of kind (drop place body) else null

-- the places of the first n values from a place on, up to the first value that the body doesn't hold completely
abbrev pub places : ColumnKind → ℕ → ℕ → List ℕ → List ℕ
places kind zero place body = []
places kind (suc n) place body =
    if nat_le (next_place kind place body) (place_of_byte kind (length body)) then place ∷ places kind n (next_place kind place body) body else []
