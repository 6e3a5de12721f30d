-- The cells that the fields of a record stand for.
use Rattle.std.specs.Prelude.{◌≡◌, ℕ, Bool, true, false, ◌==◌, if◌then◌else◌, List, [], ◌∷◌, drop, length, slice_index, codes, Option, Some, None, option_map}
use Rattle.std.specs.Result.{result_ok}
use Rattle.std.specs.Option.{option_and_then}
use Rattle.std.specs.List.{list_any}
use Rattle.std.specs.Char.{is_ascii_uppercase}
use Rattle.std.specs.Str.{bytes_eq, is_utf8}
use Rattle.std.specs.Int.{w32, w64}
use Rattle.hex.specs.Hex.{decode_of}
use Rattle.parquet_types.specs.declared.column.ColumnKind.{ColumnKind}
use Rattle.parquet_types.specs.declared.column.ColumnKind.TheVariants.{Boolean, Int32, Int64, Int96, Float, Double, ByteArray, Fixed}
use Rattle.parquet_types.specs.declared.column.ColumnSpec.{ColumnSpec}
use Rattle.plain_pages.specs.Cells.{Cell, null, bool, int32, int64, bytes}
use Rattle.table_text.specs.Numbers.{number_read}

-- the field `\N`, which stands for a null
abbrev pub null_text : List ℕ
null_text = 92 ∷ 78 ∷ []

-- the boolean for `true` or `false`
unfoldable pub truth_read : List ℕ → Option Bool
truth_read field = if bytes_eq field (codes "true") then Some true else if bytes_eq field (codes "false") then Some false else None

-- the bytes that lower-case hex stands for
unfoldable pub hex_read : List ℕ → Option (List ℕ)
hex_read field = if list_any is_ascii_uppercase field then None else result_ok (decode_of field)

-- these bytes, if there are exactly `size`
abbrev pub of_size : ℕ → List ℕ → Option (List ℕ)
of_size size xs = if length xs == size then Some xs else None

-- exactly `size` bytes of lower-case hex
unfoldable pub hex_of_size_read : ℕ → List ℕ → Option (List ℕ)
hex_of_size_read size field = option_and_then (of_size size) (hex_read field)

-- UTF-8 text; a leading backslash must be doubled, and one of the two is dropped
unfoldable pub text_read : List ℕ → Option (List ℕ)
text_read field =
    if is_utf8 field
    then (if slice_index field 0 == 92 then (if slice_index field 1 == 92 then Some (drop 1 field) else None) else Some field)
    else None

-- each value of this physical type has `size` bytes
abbrev pub IsOfSize : ℕ → ColumnKind → Type 0
IsOfSize size Int96 = size ≡ 12
IsOfSize size Float = size ≡ 4
IsOfSize size Double = size ≡ 8
IsOfSize size (Fixed n) = size ≡ n
IsOfSize size _ = ⊥

-- the value that a field stands for in a column of this type
abbrev pub value_of_kind : ColumnKind → Bool → List ℕ → Option Cell
value_of_kind Boolean text field = option_map bool (truth_read field)
value_of_kind Int32 text field = option_map int32 (number_read w32 field)
value_of_kind Int64 text field = option_map int64 (number_read w64 field)
value_of_kind Int96 text field = option_map bytes (hex_of_size_read 12 field)
value_of_kind Float text field = option_map bytes (hex_of_size_read 4 field)
value_of_kind Double text field = option_map bytes (hex_of_size_read 8 field)
value_of_kind ByteArray true field = option_map bytes (text_read field)
value_of_kind ByteArray false field = option_map bytes (hex_read field)
value_of_kind (Fixed size) text field = option_map bytes (hex_of_size_read size field)

-- the cell that a field stands for: `\N` is a null and valid only in an OPTIONAL column
unfoldable pub cell_read : ColumnSpec → List ℕ → Option Cell
cell_read spec field =
    if bytes_eq field null_text then (if spec.optional then Some null else None)
    else value_of_kind spec.kind spec.text field
