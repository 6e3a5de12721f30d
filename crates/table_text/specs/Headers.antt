-- The header of a table: its first record, which gives the names and types of the columns.
use Rattle.std.specs.Prelude.{ℕ, ◌+◌, Bool, true, false, not, ◌&&◌, ◌==◌, if◌then◌else◌, List, [], ◌∷◌, ◌++◌, take, drop, length, Option, Some, None, Result, Ok}
use Rattle.std.specs.Option.{ok_or, option_and_then}
use Rattle.std.specs.Cmp.Lexicographic.{slice_cmp}
use Rattle.std.specs.FinSet.{FinSet, contains, insert}
use Rattle.std.specs.Ordering.{nat_cmp}
use Rattle.std.specs.Str.{is_utf8}
use Rattle.parquet_types.specs.declared.column.ColumnSpec.{ColumnSpec}
use Rattle.plain_pages.specs.Columns.{Column}
use Rattle.pme_base.specs.Steps.{◌>>=◌}
use Rattle.table_text.specs.declared.column_type.ColumnType.{ColumnType}
use Rattle.table_text.specs.Types.{type_read}

-- the position of the last colon in a list, given whether its first byte is a colon and the position in the rest
abbrev pub last_colon_step : Bool → Option ℕ → Option ℕ
last_colon_step colon (Some place) = Some (place + 1)
last_colon_step true None = Some 0
last_colon_step false None = None

-- the position of the last colon
abbrev pub last_colon : List ℕ → Option ℕ
last_colon [] = None
last_colon (byte ∷ rest) = last_colon_step (byte == 58) (last_colon rest)

-- the name and the type of a column
abbrev pub Heading : Type 0
Heading = List ℕ × ColumnType

-- a valid column name: UTF-8 text that isn't empty
unfoldable pub is_name : List ℕ → Bool
is_name name = not (length name == 0) && is_utf8 name

-- the heading with this name and type, if both are valid
abbrev pub heading : List ℕ → Option ColumnType → Option Heading
heading name None = None
heading name (Some type) = if is_name name then Some (name, type) else None

-- the heading in a field, given the position of its last colon
abbrev pub heading_at : List ℕ → Option ℕ → Option Heading
heading_at field None = None
heading_at field (Some colon) = heading (take colon field) (type_read (drop (colon + 1) field))

-- the heading in a field: the name before the last colon and the type after it
unfoldable pub heading_read : List ℕ → Option Heading
heading_read field = heading_at field (last_colon field)

abbrev pub spec_of : List ℕ → ColumnType → ColumnSpec
spec_of name type = record { name = name; kind = type.kind; optional = type.optional; text = type.text }

abbrev pub empty_column : List ℕ → ColumnType → Column
empty_column name type = record { spec = spec_of name type; cells = [] }

-- the set of the earlier columns' names
abbrev pub Names : Type 0
Names = FinSet (slice_cmp nat_cmp)

abbrev pub when_new : Names → Heading → Option Heading
when_new earlier h = if contains earlier h.0 then None else Some h

-- the heading in a field, if no earlier column has its name
abbrev pub new_heading : Names → List ℕ → Option Heading
new_heading earlier field = option_and_then (when_new earlier) (heading_read field)

-- the columns for the fields of a header, given the names of earlier columns; or the number of the first field that is
-- malformed or repeats a name
abbrev pub columns_read : ℕ → Names → List (List ℕ) → Result (List Column) ℕ
columns_read place earlier [] = Ok []
columns_read place earlier (field ∷ fields) = do
  head ← ok_or (new_heading earlier field) place
  columns ← columns_read (place + 1) (insert earlier head.0) fields
  Ok (empty_column head.0 head.1 ∷ columns)

-- the columns and the set of their names, with one more column
abbrev pub with_heading : List Column → Names → Heading → List Column × Names
with_heading columns earlier head = (columns ++ empty_column head.0 head.1 ∷ [], insert earlier head.0)
