-- The table that is generated from a seed. Each row is made from four words of PCG32, so that it is the same on every
-- machine.
use Rattle.std.specs.Prelude.{◌≡◌, ℕ, zero, suc, ◌%◌, ◌==◌, ℤ, pos, ◌-ℤ◌, Bool, true, false, if◌then◌else◌, List, [], ◌∷◌, ◌++◌, map, codes}
use Rattle.std.specs.Fmt.{decimal}
use Rattle.std.specs.Int.{w32, to_be_bytes}
use Rattle.rand_pcg.specs.Lcg.{Lcg, increment_of, started}
use Rattle.rand_pcg.specs.Pcg.{multiplier_64, pcg32}
use Rattle.parquet_types.specs.declared.column.ColumnKind.{ColumnKind}
use Rattle.parquet_types.specs.declared.column.ColumnKind.TheVariants as kind_of
use Rattle.parquet_types.specs.declared.column.ColumnSpec.{ColumnSpec}
use Rattle.plain_pages.specs.Cells.{Cell, null, bool, int32, int64, bytes}
use Rattle.plain_pages.specs.Columns.{Column}
use Rattle.table_text.specs.declared.generated.Columns.{Columns}
use Rattle.table_text.specs.declared.generated.Draws.{Draws}
use Rattle.table_text.specs.Tables.{with_cell}

-- the next word of a generator, and the generator's state after it
unfoldable pub word : Lcg → ℕ
word generator = (pcg32 generator).0

unfoldable pub later : Lcg → Lcg
later generator = (pcg32 generator).1

-- the generator with state `seed` and stream 1
unfoldable pub seeded : ℕ → Lcg
seeded seed = started 64 multiplier_64 seed (increment_of 64 1)

-- a row: its number and its four words
unfoldable pub row_at : ℕ → Lcg → Draws
row_at number g = record { number = number; first = word g; second = word (later g); third = word (later (later g)); fourth = word (later (later (later g))) }

-- the generator's state after the four words of a row
unfoldable pub state_after_row : Lcg → Lcg
state_after_row g = later (later (later (later g)))

-- the generator's state after `rows` rows
abbrev pub state_after_rows : ℕ → Lcg → Lcg
state_after_rows zero g = g
state_after_rows (suc rows) g = state_after_row (state_after_rows rows g)

-- the first `rows` rows, numbered from 0
abbrev pub rows_drawn : ℕ → Lcg → List Draws
rows_drawn zero g = []
rows_drawn (suc rows) g = rows_drawn rows g ++ row_at rows (state_after_rows rows g) ∷ []

-- ---- cells
-- column `id`: the number of the row
abbrev pub id_of : ℕ → Cell
id_of number = int64 (pos number)

-- column `flag`: null if the word is a multiple of 8, otherwise whether it is odd
abbrev pub flag_of : ℕ → Cell
flag_of word = if word % 8 == 0 then null else bool (word % 2 == 1)

abbrev pub city_text : ℕ → List ℕ
city_text word = codes "city-" ++ decimal (word % 1000)

-- column `city`: null if the word is a multiple of 16, otherwise `city-` and a number below 1,000
abbrev pub city_of : ℕ → Cell
city_of word = if word % 16 == 0 then null else bytes (city_text word)

-- column `amount`: -1,000,000 to 1,000,000
abbrev pub amount_in : ℕ → ℤ
amount_in word = pos (word % 2000001) -ℤ pos 1000000

abbrev pub amount_of : ℕ → Cell
amount_of word = int32 (amount_in word)

-- column `blob`: the four bytes of the word, big-endian
abbrev pub blob_of : ℕ → Cell
blob_of word = bytes (to_be_bytes w32 word)

abbrev pub id_cell : Draws → Cell
id_cell row = id_of row.number

abbrev pub flag_cell : Draws → Cell
flag_cell row = flag_of row.first

abbrev pub city_cell : Draws → Cell
city_cell row = city_of row.second

abbrev pub amount_cell : Draws → Cell
amount_cell row = amount_of row.third

abbrev pub blob_cell : Draws → Cell
blob_cell row = blob_of row.fourth

-- ---- columns
abbrev pub spec_as : List ℕ → ColumnKind → Bool → Bool → ColumnSpec
spec_as name kind optional text = record { name = name; kind = kind; optional = optional; text = text }

abbrev pub id_spec : ColumnSpec
id_spec = spec_as (codes "id") kind_of.Int64 false false

abbrev pub flag_spec : ColumnSpec
flag_spec = spec_as (codes "flag") kind_of.Boolean true false

abbrev pub city_spec : ColumnSpec
city_spec = spec_as (codes "city") kind_of.ByteArray true true

abbrev pub amount_spec : ColumnSpec
amount_spec = spec_as (codes "amount") kind_of.Int32 false false

abbrev pub blob_spec : ColumnSpec
blob_spec = spec_as (codes "blob") kind_of.ByteArray false false

abbrev pub empty : ColumnSpec → Column
empty spec = record { spec = spec; cells = [] }

abbrev pub column_of : ColumnSpec → (Draws → Cell) → List Draws → Column
column_of spec cell rows = record { spec = spec; cells = map cell rows }

abbrev pub columns_of : List Draws → Columns
columns_of rows = record {
  id = column_of id_spec id_cell rows;
  flag = column_of flag_spec flag_cell rows;
  city = column_of city_spec city_cell rows;
  amount = column_of amount_spec amount_cell rows;
  blob = column_of blob_spec blob_cell rows;
}

-- the columns have the descriptions above, with any cells
pub record AreGenerated (columns : Columns) : Type 0 where
  pub id : columns.id.spec ≡ id_spec
  pub flag : columns.flag.spec ≡ flag_spec
  pub city : columns.city.spec ≡ city_spec
  pub amount : columns.amount.spec ≡ amount_spec
  pub blob : columns.blob.spec ≡ blob_spec

-- the columns with the cells of one more row
abbrev pub with_row : Columns → Draws → Columns
with_row columns row = record {
  id = with_cell columns.id (id_cell row);
  flag = with_cell columns.flag (flag_cell row);
  city = with_cell columns.city (city_cell row);
  amount = with_cell columns.amount (amount_cell row);
  blob = with_cell columns.blob (blob_cell row);
}

abbrev pub column_list : Columns → List Column
column_list columns = columns.id ∷ columns.flag ∷ columns.city ∷ columns.amount ∷ columns.blob ∷ []

-- the table with `rows` rows that is generated from a seed
abbrev pub generated : ℕ → ℕ → List Column
generated seed rows = column_list (columns_of (rows_drawn rows (seeded seed)))
