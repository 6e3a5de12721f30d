-- Column descriptions that the header of a table (in CSV) can express.
use Rattle.std.specs.Prelude.{◌≡◌, ℕ, ◌<◌, ◌≤◌, Bool, true, false, List, length}
use Rattle.std.specs.Str.{is_utf8}
use Rattle.parquet_types.specs.declared.column.ColumnKind.{ColumnKind}
use Rattle.parquet_types.specs.declared.column.ColumnKind.TheVariants.{ByteArray, Fixed}
use Rattle.parquet_types.specs.declared.column.ColumnSpec.{ColumnSpec}

-- a valid column name: UTF-8 text of 1 to 268,435,456 bytes
pub record IsColumnName (name : List ℕ) : Type 0 where
  pub not_empty : 0 < length name
  pub utf8 : is_utf8 name ≡ true
  pub short : length name ≤ 268435456

-- a type that the header has a word for: only byte arrays can be text, and a fixed size is 1 to 65,536 bytes
abbrev pub HasWord : ColumnKind → Bool → Type 0
HasWord ByteArray text = Unit {0}
HasWord (Fixed size) text = (text ≡ false) × (1 ≤ size) × (size ≤ 65536)
HasWord _ text = text ≡ false

-- a column description that the header can express
pub record IsColumnSpec (spec : ColumnSpec) : Type 0 where
  pub name : IsColumnName spec.name
  pub word : HasWord spec.kind spec.text
