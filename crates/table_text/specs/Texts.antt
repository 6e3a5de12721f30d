-- The text of cells and headers.
use Rattle.std.specs.Prelude.{ℕ, Bool, true, false, ◌==◌, if◌then◌else◌, List, [], ◌∷◌, ◌++◌, map, slice_get, slice_index, codes, Some, Option, None}
use Rattle.std.specs.Fmt.{decimal, signed_decimal}
use Rattle.hex.specs.Hex.{encode_lower}
use Rattle.parquet_types.specs.declared.column.ColumnKind.{ColumnKind}
use Rattle.parquet_types.specs.declared.column.ColumnKind.TheVariants.{Boolean, Int32, Int64, Int96, Float, Double, ByteArray, Fixed}
use Rattle.parquet_types.specs.declared.column.ColumnSpec.{ColumnSpec}
use Rattle.plain_pages.specs.Cells.{Cell, null, bool, int32, int64, bytes}
use Rattle.table_text.specs.Cells.{null_text}

-- text with a leading backslash doubled
abbrev pub escaped : List ℕ → List ℕ
escaped text = if slice_index text 0 == 92 then 92 ∷ text else text

-- the text of a byte array: text in a text column, otherwise lower-case hex
abbrev pub bytes_text : ColumnKind → Bool → List ℕ → List ℕ
bytes_text ByteArray true xs = escaped xs
bytes_text _ _ xs = encode_lower xs

-- the text of a cell
abbrev pub cell_text : ColumnSpec → Cell → List ℕ
cell_text spec null = null_text
cell_text spec (bool b) = if b then codes "true" else codes "false"
cell_text spec (int32 n) = signed_decimal n
cell_text spec (int64 n) = signed_decimal n
cell_text spec (bytes xs) = bytes_text spec.kind spec.text xs

-- the name of a type
abbrev pub kind_text : ColumnKind → Bool → List ℕ
kind_text Boolean text = codes "bool"
kind_text Int32 text = codes "int32"
kind_text Int64 text = codes "int64"
kind_text Int96 text = codes "int96"
kind_text Float text = codes "float"
kind_text Double text = codes "double"
kind_text ByteArray true = codes "text"
kind_text ByteArray false = codes "bytes"
kind_text (Fixed size) text = codes "fixed(" ++ decimal size ++ codes ")"

-- the heading of a column: `name:type`, followed by `?` if it is OPTIONAL
abbrev pub heading_text : ColumnSpec → List ℕ
heading_text spec = spec.name ++ codes ":" ++ kind_text spec.kind spec.text ++ (if spec.optional then codes "?" else [])

-- the heading of a column, if there is one
abbrev pub heading_of : Option ColumnSpec → List ℕ
heading_of None = []
heading_of (Some spec) = heading_text spec

-- the fields of the header of the chosen columns
abbrev pub headings : List ColumnSpec → List ℕ → List (List ℕ)
headings schema chosen = map (λ column. heading_of (slice_get schema column)) chosen
