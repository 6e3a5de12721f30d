-- The rules on the values of a footer, in their order, and the footer that passes them. A Mismatch reports the number
-- found and then the number wanted.
use Rattle.std.specs.Prelude.{ℕ, ◌+◌, ℤ, pos, ◌+ℤ◌, ◌≤ℤ◌, int_lt, Bool, true, false, nat_lt, not, ◌&&◌, if◌then◌else◌, List, [], ◌∷◌, length, nat_abs, unwrap_or, Option, Some, None, Result, Ok, Err}
use Rattle.std.specs.Cmp.Lexicographic.{slice_cmp}
use Rattle.std.specs.FinSet.{FinSet, contains, empty, insert}
use Rattle.std.specs.List.{join_by}
use Rattle.std.specs.Ordering.{int_eq, nat_cmp}
use Rattle.std.specs.Str.{bytes_eq, is_utf8}
use Rattle.pme_base.specs.declared.limits.TheConstants.{COLUMN_LIMIT}
use Rattle.pme_base.specs.declared.place.Place.{Place}
use Rattle.pme_base.specs.declared.refusal.Cause.{Cause}
use Rattle.pme_base.specs.declared.refusal.Cause.TheVariants.{MissingField, BadField, Unsupported, Mismatch, TooLarge, OutOfMemory}
use Rattle.pme_base.specs.declared.refusal.Detail.{Detail}
use Rattle.pme_base.specs.declared.refusal.Detail.TheVariants as tells
use Rattle.pme_base.specs.declared.refusal.Refusal.{Refusal}
use Rattle.pme_base.specs.declared.refusal.StructName.{StructName}
use Rattle.pme_base.specs.declared.refusal.StructName.TheVariants as name
use Rattle.pme_base.specs.Refusals.{refusal_at}
use Rattle.pme_base.specs.Steps.{◌>>=◌}
use Rattle.parquet_types.specs.declared.column.ColumnKind.{ColumnKind}
use Rattle.parquet_types.specs.declared.column.ColumnKind.TheVariants as kind
use Rattle.parquet_types.specs.declared.column.ColumnSpec.{ColumnSpec}
use Rattle.parquet_types.specs.declared.file_meta.ChunkCrypto.{ChunkCrypto}
use Rattle.parquet_types.specs.declared.file_meta.ChunkCrypto.TheVariants as chunk_key
use Rattle.parquet_types.specs.declared.file_meta.ChunkMeta.{ChunkMeta}
use Rattle.parquet_types.specs.declared.file_meta.FileMeta.{FileMeta}
use Rattle.parquet_types.specs.declared.file_meta.RowGroupMeta.{RowGroupMeta}
use Rattle.parquet_types.specs.declared.raw_footer.ColumnChunk.{ColumnChunk}
use Rattle.parquet_types.specs.declared.raw_footer.ColumnCrypto.{ColumnCrypto}
use Rattle.parquet_types.specs.declared.raw_footer.ColumnCrypto.TheVariants as crypto
use Rattle.parquet_types.specs.declared.raw_footer.RawFileMeta.{RawFileMeta}
use Rattle.parquet_types.specs.declared.raw_footer.RowGroup.{RowGroup}
use Rattle.parquet_types.specs.declared.raw_footer.SchemaElement.{SchemaElement}
use Rattle.parquet_types.specs.FieldRefusals.{field_refusal, refused}

abbrev pub bad_value : {T : Type 0} → Place → Cause → StructName → ℤ → Result T Refusal
bad_value place cause struct number = Err (field_refusal place (refused cause struct number))

abbrev pub element_refusal : Place → Cause → ℤ → Refusal
element_refusal place cause number = field_refusal place (refused cause name.SchemaElement number)

abbrev pub bad_element : {T : Type 0} → Place → Cause → ℤ → Result T Refusal
bad_element place cause number = Err (element_refusal place cause number)

abbrev pub differs : {T : Type 0} → Place → ℤ → ℤ → Result T Refusal
differs place found wanted = Err (refusal_at Mismatch place 0 (tells.Signed found wanted))

-- Two numbers must be equal.
abbrev pub check_equal : Place → ℤ → ℤ → Result Unit Refusal
check_equal place found wanted = if int_eq found wanted then Ok tt else differs place found wanted

abbrev pub check_count : Place → ℕ → Result Unit Refusal
check_count place n = if nat_lt COLUMN_LIMIT n then Err (refusal_at TooLarge place 0 (tells.Pair n COLUMN_LIMIT)) else Ok tt

-- The count in a field must not be negative.
abbrev pub check_not_negative : Place → StructName → ℤ → ℤ → Result Unit Refusal
check_not_negative place struct number z = if int_lt z (pos 0) then bad_value place BadField struct number else Ok tt

-- A column has no children.
abbrev pub check_is_leaf : Place → Option ℤ → Result Unit Refusal
check_is_leaf place None = Ok tt
check_is_leaf place (Some children) =
    if int_eq children (pos 0) then Ok tt else bad_element place Unsupported (pos 5)

-- The length in bytes of FIXED_LEN_BYTE_ARRAY.
abbrev pub fixed_length : Place → Option ℤ → Result ColumnKind Refusal
fixed_length place None = bad_element place MissingField (pos 2)
fixed_length place (Some length) =
    if int_lt length (pos 1) then bad_element place BadField (pos 2) else Ok (kind.Fixed (nat_abs length))

-- The physical types, by their numbers in parquet.thrift.
abbrev pub kind_by : Place → Option ℤ → ℤ → Result ColumnKind Refusal
kind_by place length n =
    if int_eq n (pos 0) then Ok kind.Boolean
    else if int_eq n (pos 1) then Ok kind.Int32
    else if int_eq n (pos 2) then Ok kind.Int64
    else if int_eq n (pos 3) then Ok kind.Int96
    else if int_eq n (pos 4) then Ok kind.Float
    else if int_eq n (pos 5) then Ok kind.Double
    else if int_eq n (pos 6) then Ok kind.ByteArray
    else if int_eq n (pos 7) then fixed_length place length
    else bad_element place BadField (pos 1)

abbrev pub kind_of : Place → Option ℤ → Option ℤ → Result ColumnKind Refusal
kind_of place None length = bad_element place MissingField (pos 1)
kind_of place (Some n) length = kind_by place length n

-- Whether a column may be null. A REPEATED column is unsupported.
abbrev pub optional_by : Place → ℤ → Result Bool Refusal
optional_by place n =
    if int_eq n (pos 0) then Ok false
    else if int_eq n (pos 1) then Ok true
    else if int_eq n (pos 2) then bad_element place Unsupported (pos 3)
    else bad_element place BadField (pos 3)

abbrev pub optional_of : Place → Option ℤ → Result Bool Refusal
optional_of place None = bad_element place MissingField (pos 3)
optional_of place (Some n) = optional_by place n

-- The names of the earlier columns.
abbrev pub Names : Type 0
Names = FinSet (slice_cmp nat_cmp)

-- The name of a column is UTF-8, and no earlier column has it.
abbrev pub check_name : Place → List ℕ → Names → Result Unit Refusal
check_name place text earlier =
    if is_utf8 text && not (contains earlier text) then Ok tt else bad_element place BadField (pos 4)

-- Byte arrays are text if their converted type is UTF8, which is 0.
abbrev pub is_text : ColumnKind → Option ℤ → Bool
is_text kind.ByteArray (Some converted) = int_eq converted (pos 0)
is_text _ converted = false

-- A column; `earlier` holds the names of the columns before it.
abbrev pub column_of : Place → Names → SchemaElement → Result ColumnSpec Refusal
column_of place earlier element = do
  one ← check_is_leaf place element.num_children
  kind ← kind_of place element.kind element.type_length
  optional ← optional_of place element.repetition
  new ← check_name place element.name earlier
  Ok (record { name = element.name; kind = kind; optional = optional; text = is_text kind element.converted })

abbrev pub columns_of : Place → Names → List SchemaElement → Result (List ColumnSpec) Refusal
columns_of place earlier [] = Ok []
columns_of place earlier (element ∷ elements) = do
  column ← column_of place earlier element
  columns ← columns_of place (insert earlier element.name) elements
  Ok (column ∷ columns)

-- The schema: a root whose count of children is the number of columns, and the columns.
abbrev pub schema_of : Place → List SchemaElement → Result (List ColumnSpec) Refusal
schema_of place [] = bad_element place MissingField (pos 4)
schema_of place (root ∷ elements) = do
  counted ← check_equal place (unwrap_or root.num_children (pos 0)) (pos (length elements))
  few ← check_count place (length elements)
  columns_of place empty elements

-- The names of a path joined by dots.
abbrev pub path_text : List (List ℕ) → List ℕ
path_text path = join_by (λ part. part) (46 ∷ []) path

abbrev pub is_path_of : List (List ℕ) → List ℕ → Bool
is_path_of (part ∷ []) text = bytes_eq part text
is_path_of _ text = false

-- The detail of a path that isn't the path of its column.
abbrev pub names_detail : List (List ℕ) → List ℕ → Detail
names_detail path column = tells.Names (path_text path) column

-- The path in a ColumnCryptoMetaData is the single name of the chunk's column.
abbrev pub check_path : Place → List (List ℕ) → List ℕ → Result Unit Refusal
check_path place path column =
    if is_path_of path column then Ok tt else Err (refusal_at Mismatch place 0 (names_detail path column))

-- The key of a column chunk.
abbrev pub chunk_crypto : Place → List ℕ → Option ColumnCrypto → Result ChunkCrypto Refusal
chunk_crypto place column None = Ok chunk_key.Plain
chunk_crypto place column (Some crypto.FooterKey) = Ok chunk_key.FooterKey
chunk_crypto place column (Some (crypto.ColumnKey path metadata)) = do
  own ← check_path place path column
  Ok (chunk_key.ColumnKey metadata)

-- A column chunk is stored in the same file.
abbrev pub check_same_file : Place → Option (List ℕ) → Result Unit Refusal
check_same_file place None = Ok tt
check_same_file place (Some path) = bad_value place Unsupported name.ColumnChunk (pos 1)

abbrev pub chunk_of : Place → List ℕ → ColumnChunk → Result ChunkMeta Refusal
chunk_of place column chunk = do
  here ← check_same_file place chunk.file_path
  key ← chunk_crypto place column chunk.crypto
  Ok (record { crypto = key; plain_meta = chunk.plain_meta; sealed_meta = chunk.sealed_meta })

-- The column chunks of the given columns. Their numbers have been compared before.
abbrev pub chunks_of : Place → List ColumnSpec → List ColumnChunk → Result (List ChunkMeta) Refusal
chunks_of place [] chunks = Ok []
chunks_of place (column ∷ columns) [] = Ok []
chunks_of place (column ∷ columns) (chunk ∷ chunks) = do
  c ← chunk_of place column.name chunk
  cs ← chunks_of place columns chunks
  Ok (c ∷ cs)

-- The ordinal of a row group, if there is one, is its position.
abbrev pub check_ordinal : Place → ℕ → Option ℤ → Result Unit Refusal
check_ordinal place i None = Ok tt
check_ordinal place i (Some ordinal) = check_equal place ordinal (pos i)

abbrev pub group_of : Place → List ColumnSpec → ℕ → RowGroup → Result RowGroupMeta Refusal
group_of place columns i group = do
  whole ← check_equal place (pos (length group.chunks)) (pos (length columns))
  counted ← check_not_negative place name.RowGroup (pos 3) group.num_rows
  placed ← check_ordinal place i group.ordinal
  chunks ← chunks_of place columns group.chunks
  Ok (record { chunks = chunks; num_rows = group.num_rows; ordinal = group.ordinal })

abbrev pub groups_of : Place → List ColumnSpec → ℕ → List RowGroup → Result (List RowGroupMeta) Refusal
groups_of place columns i [] = Ok []
groups_of place columns i (group ∷ groups) = do
  g ← group_of place columns i group
  gs ← groups_of place columns (i + 1) groups
  Ok (g ∷ gs)

-- The sum of the row groups' counts of rows.
abbrev pub all_rows : List RowGroupMeta → ℤ
all_rows [] = pos 0
all_rows (group ∷ groups) = group.num_rows +ℤ all_rows groups

-- The row groups' counts add up to the count of the file. A sum of 2^63 or more is a BadField.
abbrev pub check_rows : Place → ℤ → ℤ → Result Unit Refusal
check_rows place sum rows =
    if int_lt (pos 9223372036854775807) sum then bad_value place BadField name.FileMetaData (pos 3)
    else check_equal place sum rows

abbrev pub file_of : Place → RawFileMeta → Result FileMeta Refusal
file_of place file = do
  columns ← schema_of place file.schema
  counted ← check_not_negative place name.FileMetaData (pos 3) file.num_rows
  few ← check_count place (length file.groups)
  groups ← groups_of place columns 0 file.groups
  summed ← check_rows place (all_rows groups) file.num_rows
  Ok (record { schema = columns; num_rows = file.num_rows; groups = groups; algorithm = file.algorithm; signing_key_metadata = file.signing_key_metadata })

-- No row group has a negative count of rows.
abbrev pub NoneNegative : List RowGroupMeta → Type 0
NoneNegative [] = Unit {0}
NoneNegative (group ∷ groups) = (pos 0 ≤ℤ group.num_rows) × NoneNegative groups

-- the causes with which a rule can end
abbrev pub is_rule_cause : Cause → Bool
is_rule_cause MissingField = true
is_rule_cause BadField = true
is_rule_cause Unsupported = true
is_rule_cause Mismatch = true
is_rule_cause TooLarge = true
is_rule_cause OutOfMemory = true
is_rule_cause _ = false
