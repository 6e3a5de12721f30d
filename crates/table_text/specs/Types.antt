-- The column types that a table's header can name.
use Rattle.std.specs.Prelude.{ℕ, ◌-◌, nat_le, Bool, true, false, ◌&&◌, ◌==◌, if◌then◌else◌, List, take, drop, length, slice_index, codes, Option, Some, None, option_map}
use Rattle.std.specs.Str.{bytes_eq}
use Rattle.std.specs.Str.Parse.{digits_value}
use Rattle.parquet_types.specs.declared.column.ColumnKind.{ColumnKind}
use Rattle.parquet_types.specs.declared.column.ColumnKind.TheVariants.{Boolean, Int32, Int64, Int96, Float, Double, ByteArray, Fixed}
use Rattle.table_text.specs.declared.column_type.ColumnType.{ColumnType}
use Rattle.table_text.specs.Numbers.{is_plain}

abbrev pub column_type : Bool → Bool → ColumnKind → ColumnType
column_type optional text kind = record { kind = kind; optional = optional; text = text }

-- a valid size of a fixed type: 1 to 65,536 bytes
abbrev pub when_size : ℕ → Option ℕ
when_size size = if nat_le 1 size && nat_le size 65536 then Some size else None

-- the size that decimal digits stand for
unfoldable pub size_read : List ℕ → Option ℕ
size_read digits = if is_plain digits then when_size (digits_value 10 digits) else None

-- the size in `fixed(SIZE)`
unfoldable pub fixed_read : List ℕ → Option ℕ
fixed_read word =
    if bytes_eq (take 6 word) (codes "fixed(") && (slice_index word (length word - 1) == 41)
    then size_read (drop 6 (take (length word - 1) word)) else None

-- the type with this name, without `?`
unfoldable pub type_named : Bool → List ℕ → Option ColumnType
type_named optional word =
    if bytes_eq word (codes "bool") then Some (column_type optional false Boolean)
    else if bytes_eq word (codes "int32") then Some (column_type optional false Int32)
    else if bytes_eq word (codes "int64") then Some (column_type optional false Int64)
    else if bytes_eq word (codes "int96") then Some (column_type optional false Int96)
    else if bytes_eq word (codes "float") then Some (column_type optional false Float)
    else if bytes_eq word (codes "double") then Some (column_type optional false Double)
    else if bytes_eq word (codes "bytes") then Some (column_type optional false ByteArray)
    else if bytes_eq word (codes "text") then Some (column_type optional true ByteArray)
    else option_map (λ size. column_type optional false (Fixed size)) (fixed_read word)

-- the type with this name; a trailing `?` makes the column OPTIONAL
unfoldable pub type_read : List ℕ → Option ColumnType
type_read word =
    if slice_index word (length word - 1) == 63 then type_named true (take (length word - 1) word) else type_named false word
