-- The cells of a column: nulls and values. Types other than BOOLEAN, INT32 and INT64 are kept as bytes.
use Rattle.std.specs.Prelude.{ℕ, ℤ, Bool, List}
use Rattle.plain_pages.specs.declared.cell_ref.CellRef.{CellRef}
use Rattle.plain_pages.specs.declared.cell_ref.CellRef.TheVariants.{Null, Bool as BoolRef, Int32, Int64, Bytes}

pub data Cell : Type 0 where
  null : Cell
  bool : Bool → Cell
  int32 : ℤ → Cell
  int64 : ℤ → Cell
  bytes : List ℕ → Cell

-- the cell that a CellRef borrows
abbrev pub cell_of : CellRef → Cell
cell_of Null = null
cell_of (BoolRef b) = bool b
cell_of (Int32 n) = int32 n
cell_of (Int64 n) = int64 n
cell_of (Bytes b) = bytes b.now
