-- The records of a CSV text, defined by the state machine of the `csv` crate without headers.
use Rattle.std.specs.Prelude.{◌≡◌, ℕ, ◌+◌, ◌≤◌, List, [], length, true, ⊤, Option, Some, None}
use Rattle.std.specs.List.{AllByRecursion}
use denote.Ref.{Bor}
use Rattle.csv.specs.Reading.{Ready, default_config, is_flexible, records, records_from, source_of, strip_bom}
use Rattle.csv.specs.declared.error.ErrorKind.{ErrorKind}
use Rattle.csv.specs.declared.error.ErrorKind.TheVariants.{Io, OutOfMemory}
use Rattle.csv.specs.declared.parser.State.{State}
use Rattle.csv.specs.declared.reader.Reader.{Reader}
use Rattle.csv.specs.declared.reader.Trim.TheVariants as trim

-- the records of a text after an optional byte order mark; empty lines are no records
unfoldable pub records_of : List ℕ → List (List (List ℕ))
records_of text = records default_config (strip_bom text)

-- the records of the rest of a text, from a state of the machine; none if there is no rest
unfoldable pub records_left : State → Option (List ℕ) → List (List (List ℕ))
records_left state None = []
records_left state (Some rest) = records_from default_config (length rest + 1) state rest

abbrev pub SliceReader : Type 0
SliceReader = Reader (Bor (List ℕ))

-- the bytes that a reader has not read yet
abbrev pub left_of : SliceReader → Option (List ℕ)
left_of reader = source_of (λ s. Some s.now) reader

-- the records that a reader has not given yet
abbrev pub to_come : SliceReader → List (List (List ℕ))
to_come reader = records_left reader.state (left_of reader)

-- the size limit of a table's text, in bytes
abbrev pub table_limit : ℕ
table_limit = 268435456

-- a reader with the default configuration, which neither trims fields nor checks that records have equal lengths
pub record IsReading (reader : SliceReader) : Type 0 where
  pub ready : Ready reader
  pub trim : reader.trim ≡ trim.None
  pub config : reader.config ≡ default_config
  pub flexible : is_flexible reader ≡ true
  pub left : List ℕ
  pub left_is : left_of reader ≡ Some left
  pub small : length left ≤ table_limit

-- no field is longer than the size limit
abbrev pub AreShort : List (List ℕ) → Type 0
AreShort fields = AllByRecursion (λ (field : List ℕ). length field ≤ table_limit) fields

-- an error of the allocator or of the underlying reader
abbrev pub IsOutside : ErrorKind → Type 0
IsOutside (Io e) = ⊤
IsOutside OutOfMemory = ⊤
IsOutside _ = ⊥
