-- The trees of the structs that are written, in the terms of parquet.thrift.
use Rattle.std.specs.Prelude.{ℕ, ◌+◌, ℤ, pos, ◌+ℤ◌, Bool, true, false, List, [], ◌∷◌, length, map, Option, Some, None}
use Rattle.thrift_compact.specs.Tree.{Tree, truth, int16, int32, int64, binary, list, struct, Trees, no_trees, tree, Fields, no_fields, field}
use Rattle.parquet_types.specs.declared.column.ColumnKind.{ColumnKind}
use Rattle.parquet_types.specs.declared.column.ColumnKind.TheVariants as kind
use Rattle.parquet_types.specs.declared.column.ColumnSpec.{ColumnSpec}
use Rattle.parquet_types.specs.declared.file_meta.AlgorithmMeta.{AlgorithmMeta}
use Rattle.parquet_types.specs.declared.file_meta.ChunkCrypto.{ChunkCrypto}
use Rattle.parquet_types.specs.declared.file_meta.ChunkCrypto.TheVariants as key
use Rattle.parquet_types.specs.declared.page_head.DataHead.{DataHead}
use Rattle.parquet_types.specs.declared.plan.FooterPlan.{FooterPlan}
use Rattle.parquet_types.specs.declared.plan.WrittenChunk.{WrittenChunk}
use Rattle.parquet_types.specs.declared.plan.WrittenGroup.{WrittenGroup}

-- A field that is written if there is a value, and one that is written if a flag is set; the other fields follow.
abbrev pub where_some : {X : Type 0} → ℤ → (X → Tree) → Option X → Fields → Fields
where_some id value None others = others
where_some id value (Some x) others = field id (value x) others

abbrev pub where_true : ℤ → Tree → Bool → Fields → Fields
where_true id t false others = others
where_true id t true others = field id t others

-- A list of structs.
abbrev pub structs : List Fields → Trees
structs [] = no_trees
structs (fs ∷ fss) = tree (struct fs) (structs fss)

-- DataPageHeader. Encoding 3 is RLE, here for repetition levels, of which a flat schema has none.
abbrev pub data_page_header : DataHead → Fields
data_page_header head =
    field (pos 1) (int32 head.num_values)
    (field (pos 2) (int32 head.encoding)
    (field (pos 3) (int32 head.level_encoding)
    (field (pos 4) (int32 (pos 3)) no_fields)))

-- PageHeader of a data page, whose type is 0.
abbrev pub page_header : DataHead → Fields
page_header head =
    field (pos 1) (int32 (pos 0))
    (field (pos 2) (int32 head.uncompressed)
    (field (pos 3) (int32 head.compressed)
    (field (pos 5) (struct (data_page_header head)) no_fields)))

-- AesGcmV1 and AesGcmCtrV1
abbrev pub aes_gcm : AlgorithmMeta → Fields
aes_gcm algorithm =
    where_some (pos 1) binary algorithm.prefix
    (field (pos 2) (binary algorithm.unique)
    (where_true (pos 3) (truth true) algorithm.supply no_fields))

-- EncryptionAlgorithm
abbrev pub algorithm_id : Bool → ℤ
algorithm_id false = pos 1
algorithm_id true = pos 2

abbrev pub encryption_algorithm : AlgorithmMeta → Fields
encryption_algorithm algorithm = field (algorithm_id algorithm.ctr) (struct (aes_gcm algorithm)) no_fields

-- FileCryptoMetaData
abbrev pub file_crypto_meta_data : AlgorithmMeta → List ℕ → Fields
file_crypto_meta_data algorithm key_metadata =
    field (pos 1) (struct (encryption_algorithm algorithm))
    (field (pos 2) (binary key_metadata) no_fields)

-- The physical types, by their numbers.
abbrev pub kind_number : ColumnKind → ℤ
kind_number kind.Boolean = pos 0
kind_number kind.Int32 = pos 1
kind_number kind.Int64 = pos 2
kind_number kind.Int96 = pos 3
kind_number kind.Float = pos 4
kind_number kind.Double = pos 5
kind_number kind.ByteArray = pos 6
kind_number (kind.Fixed length) = pos 7

-- The encodings PLAIN for values and RLE for levels.
abbrev pub encodings : Trees
encodings = tree (int32 (pos 0)) (tree (int32 (pos 3)) no_trees)

abbrev pub path_in_schema : List ℕ → Trees
path_in_schema name = tree (binary name) no_trees

-- ColumnMetaData. Codec 0 is UNCOMPRESSED.
abbrev pub column_meta_data : WrittenChunk → Fields
column_meta_data chunk =
    field (pos 1) (int32 (kind_number chunk.spec.kind))
    (field (pos 2) (list encodings)
    (field (pos 3) (list (path_in_schema chunk.spec.name))
    (field (pos 4) (int32 (pos 0))
    (field (pos 5) (int64 chunk.num_values)
    (field (pos 6) (int64 chunk.uncompressed)
    (field (pos 7) (int64 chunk.stored)
    (field (pos 9) (int64 chunk.start) no_fields)))))))

-- EncryptionWithColumnKey
abbrev pub column_key : List ℕ → Option (List ℕ) → Fields
column_key name metadata =
    field (pos 1) (list (path_in_schema name))
    (where_some (pos 2) binary metadata no_fields)

-- ColumnCryptoMetaData of an encrypted column chunk.
abbrev pub column_crypto : List ℕ → ChunkCrypto → Option Fields
column_crypto name key.Plain = None
column_crypto name key.FooterKey = Some (field (pos 1) (struct no_fields) no_fields)
column_crypto name (key.ColumnKey metadata) = Some (field (pos 2) (struct (column_key name metadata)) no_fields)

-- ColumnChunk
abbrev pub column_chunk : WrittenChunk → Fields
column_chunk chunk =
    field (pos 2) (int64 chunk.start)
    (where_true (pos 3) (struct (column_meta_data chunk)) chunk.show_meta
    (where_some (pos 8) struct (column_crypto chunk.spec.name chunk.crypto)
    (where_some (pos 9) binary chunk.sealed_meta no_fields)))

-- The sum of a size over column chunks.
abbrev pub total : (WrittenChunk → ℤ) → List WrittenChunk → ℤ
total size [] = pos 0
total size (chunk ∷ chunks) = size chunk +ℤ total size chunks

abbrev pub total_uncompressed : List WrittenChunk → ℤ
total_uncompressed chunks = total (λ chunk. chunk.uncompressed) chunks

abbrev pub total_stored : List WrittenChunk → ℤ
total_stored chunks = total (λ chunk. chunk.stored) chunks

-- The offset of the first column chunk.
abbrev pub first_start : List WrittenChunk → ℤ
first_start [] = pos 0
first_start (chunk ∷ chunks) = chunk.start

-- RowGroup at a position in the file.
abbrev pub row_group : ℕ → WrittenGroup → Fields
row_group position group =
    field (pos 1) (list (structs (map column_chunk group.chunks)))
    (field (pos 2) (int64 (total_uncompressed group.chunks))
    (field (pos 3) (int64 group.num_rows)
    (field (pos 5) (int64 (first_start group.chunks))
    (field (pos 6) (int64 (total_stored group.chunks))
    (field (pos 7) (int16 (pos position)) no_fields)))))

abbrev pub row_groups : ℕ → List WrittenGroup → List Fields
row_groups position [] = []
row_groups position (group ∷ groups) = row_group position group ∷ row_groups (position + 1) groups

-- SchemaElement of the root, `schema`, whose count of children is the number of columns.
abbrev pub schema_root : ℕ → Fields
schema_root columns =
    field (pos 4) (binary (115 ∷ 99 ∷ 104 ∷ 101 ∷ 109 ∷ 97 ∷ []))
    (field (pos 5) (int32 (pos columns)) no_fields)

-- The length in bytes of a FIXED_LEN_BYTE_ARRAY.
abbrev pub fixed_length : ColumnKind → Option ℤ
fixed_length (kind.Fixed length) = Some (pos length)
fixed_length _ = None

-- REQUIRED is 0 and OPTIONAL is 1.
abbrev pub repetition : Bool → ℤ
repetition false = pos 0
repetition true = pos 1

-- SchemaElement of a column. Converted type 0 is UTF8.
abbrev pub schema_column : ColumnSpec → Fields
schema_column column =
    field (pos 1) (int32 (kind_number column.kind))
    (where_some (pos 2) int32 (fixed_length column.kind)
    (field (pos 3) (int32 (repetition column.optional))
    (field (pos 4) (binary column.name)
    (where_true (pos 6) (int32 (pos 0)) column.text no_fields))))

abbrev pub schema : List ColumnSpec → List Fields
schema columns = schema_root (length columns) ∷ map schema_column columns

-- The algorithm of a signed footer.
abbrev pub signing_algorithm : Option AlgorithmMeta → Option Fields
signing_algorithm None = None
signing_algorithm (Some algorithm) = Some (encryption_algorithm algorithm)

-- FileMetaData of version 1, created by `pme`.
abbrev pub file_meta_data : FooterPlan → Fields
file_meta_data plan =
    field (pos 1) (int32 (pos 1))
    (field (pos 2) (list (structs (schema plan.schema)))
    (field (pos 3) (int64 plan.num_rows)
    (field (pos 4) (list (structs (row_groups 0 plan.groups)))
    (field (pos 6) (binary (112 ∷ 109 ∷ 101 ∷ []))
    (where_some (pos 8) struct (signing_algorithm plan.algorithm)
    (where_some (pos 9) binary plan.signing_key_metadata no_fields))))))
