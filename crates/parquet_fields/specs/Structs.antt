-- The structs of parquet.thrift that are read. For a struct X, X_none has no fields; X_after is the table of its fields,
-- each with its type and field id, and adds those that follow; X_of judges them by ascending field id, nested structs at
-- their own field, and the first refusal is the result; X judges all fields of a struct. A union's rule precedes its fields.
use Rattle.std.specs.Prelude.{ℕ, ℤ, pos, Bool, true, false, List, ◌||◌, if◌then◌else◌, unwrap_or, Option, Some, None, Ok, Err}
use Rattle.std.specs.Ordering.{int_eq}
use Rattle.pme_base.specs.declared.refusal.Cause.TheVariants.{MissingField, BadField, Unsupported}
use Rattle.pme_base.specs.declared.refusal.StructName.TheVariants as name
use Rattle.pme_base.specs.Steps.{◌>>=◌}
use Rattle.thrift_compact.specs.Tree.{Fields}
use Rattle.parquet_fields.specs.declared.algorithm.AesGcm.{AesGcm}
use Rattle.parquet_types.specs.declared.raw_footer.ColumnChunk.{ColumnChunk}
use Rattle.parquet_types.specs.declared.raw_footer.ColumnCrypto.{ColumnCrypto}
use Rattle.parquet_types.specs.declared.raw_footer.ColumnCrypto.TheVariants as crypto
use Rattle.parquet_types.specs.declared.raw_footer.RawFileMeta.{RawFileMeta}
use Rattle.parquet_types.specs.declared.raw_footer.RowGroup.{RowGroup}
use Rattle.parquet_types.specs.declared.raw_footer.SchemaElement.{SchemaElement}
use Rattle.parquet_types.specs.declared.file_meta.AlgorithmMeta.{AlgorithmMeta}
use Rattle.parquet_types.specs.declared.file_meta.ColumnMeta.{ColumnMeta}
use Rattle.parquet_types.specs.declared.file_meta.FileCrypto.{FileCrypto}
use Rattle.parquet_fields.specs.declared.field_state.FieldState.{FieldState}
use Rattle.parquet_fields.specs.declared.field_state.FieldState.TheVariants.{Absent}
use Rattle.parquet_types.specs.declared.page_head.PageHead.{PageHead}
use Rattle.parquet_types.specs.declared.page_head.PageHead.TheVariants as head
use Rattle.parquet_fields.specs.declared.page_parts.DataCounts.{DataCounts}
use Rattle.parquet_fields.specs.declared.page_parts.DictionaryCounts.{DictionaryCounts}
use Rattle.parquet_types.specs.FieldRefusals.{refused}
use Rattle.parquet_fields.specs.declared.algorithm.AesGcmFields.{AesGcmFields}
use Rattle.parquet_fields.specs.declared.algorithm.AlgorithmFields.{AlgorithmFields}
use Rattle.parquet_fields.specs.declared.file_crypto.FileCryptoFields.{FileCryptoFields}
use Rattle.parquet_fields.specs.declared.footer.SchemaElementFields.{SchemaElementFields}
use Rattle.parquet_fields.specs.declared.chunk.ColumnMetaFields.{ColumnMetaFields}
use Rattle.parquet_fields.specs.declared.chunk.ColumnKeyFields.{ColumnKeyFields}
use Rattle.parquet_fields.specs.declared.chunk.FooterKeyFields.{FooterKeyFields}
use Rattle.parquet_fields.specs.declared.chunk.ColumnCryptoFields.{ColumnCryptoFields}
use Rattle.parquet_fields.specs.declared.chunk.ColumnChunkFields.{ColumnChunkFields}
use Rattle.parquet_fields.specs.declared.footer.RowGroupFields.{RowGroupFields}
use Rattle.parquet_fields.specs.declared.footer.FileMetaFields.{FileMetaFields}
use Rattle.parquet_fields.specs.declared.signing.SigningFields.{SigningFields}
use Rattle.parquet_fields.specs.declared.page.DataCountsFields.{DataCountsFields}
use Rattle.parquet_fields.specs.declared.page.DictionaryCountsFields.{DictionaryCountsFields}
use Rattle.parquet_fields.specs.declared.page.PageHeadFields.{PageHeadFields}
use Rattle.parquet_fields.specs.Fields.{Checked, binary_of, truth_of, int16_of, int32_of, int64_of, struct_of, list_of, under, optional, needed}

-- AesGcmV1 and AesGcmCtrV1
abbrev pub aes_gcm_none : AesGcmFields
aes_gcm_none = record { prefix = Absent; unique = Absent; supply = Absent }

abbrev pub aes_gcm_after : AesGcmFields → Fields → AesGcmFields
aes_gcm_after known fs = record {
  prefix = under binary_of (pos 1) known.prefix fs;
  unique = under binary_of (pos 2) known.unique fs;
  supply = under truth_of (pos 3) known.supply fs;
}

abbrev pub aes_gcm_of : AesGcmFields → Checked AesGcm
aes_gcm_of known = do
  p ← optional name.AesGcm (pos 1) known.prefix
  u ← needed name.AesGcm (pos 2) known.unique
  s ← optional name.AesGcm (pos 3) known.supply
  Ok (record { prefix = p; unique = u; supply = unwrap_or s false })

abbrev pub aes_gcm : Fields → Checked AesGcm
aes_gcm fs = aes_gcm_of (aes_gcm_after aes_gcm_none fs)

-- EncryptionAlgorithm, a union.
abbrev pub algorithm_with : Bool → AesGcm → AlgorithmMeta
algorithm_with ctr part = record { ctr = ctr; prefix = part.prefix; unique = part.unique; supply = part.supply }

abbrev pub one_algorithm : Option AesGcm → Option AesGcm → Checked AlgorithmMeta
one_algorithm None None = Err (refused Unsupported name.EncryptionAlgorithm (pos 1))
one_algorithm (Some gcm) None = Ok (algorithm_with false gcm)
one_algorithm None (Some ctr) = Ok (algorithm_with true ctr)
one_algorithm (Some gcm) (Some ctr) = Err (refused BadField name.EncryptionAlgorithm (pos 2))

abbrev pub algorithm_none : AlgorithmFields
algorithm_none = record { gcm = Absent; ctr = Absent }

abbrev pub algorithm_after : AlgorithmFields → Fields → AlgorithmFields
algorithm_after known fs = record {
  gcm = under (struct_of aes_gcm) (pos 1) known.gcm fs;
  ctr = under (struct_of aes_gcm) (pos 2) known.ctr fs;
}

abbrev pub algorithm_of : AlgorithmFields → Checked AlgorithmMeta
algorithm_of known = do
  g ← optional name.EncryptionAlgorithm (pos 1) known.gcm
  c ← optional name.EncryptionAlgorithm (pos 2) known.ctr
  one_algorithm g c

abbrev pub algorithm : Fields → Checked AlgorithmMeta
algorithm fs = algorithm_of (algorithm_after algorithm_none fs)

-- FileCryptoMetaData
abbrev pub file_crypto_none : FileCryptoFields
file_crypto_none = record { algorithm = Absent; key_metadata = Absent }

abbrev pub file_crypto_after : FileCryptoFields → Fields → FileCryptoFields
file_crypto_after known fs = record {
  algorithm = under (struct_of algorithm) (pos 1) known.algorithm fs;
  key_metadata = under binary_of (pos 2) known.key_metadata fs;
}

abbrev pub file_crypto_of : FileCryptoFields → Checked FileCrypto
file_crypto_of known = do
  a ← needed name.FileCryptoMetaData (pos 1) known.algorithm
  m ← optional name.FileCryptoMetaData (pos 2) known.key_metadata
  Ok (record { algorithm = a; key_metadata = m })

abbrev pub file_crypto : Fields → Checked FileCrypto
file_crypto fs = file_crypto_of (file_crypto_after file_crypto_none fs)

-- SchemaElement
abbrev pub schema_element_none : SchemaElementFields
schema_element_none = record { kind = Absent; type_length = Absent; repetition = Absent; name = Absent; num_children = Absent; converted = Absent }

abbrev pub schema_element_after : SchemaElementFields → Fields → SchemaElementFields
schema_element_after known fs = record {
  kind = under int32_of (pos 1) known.kind fs;
  type_length = under int32_of (pos 2) known.type_length fs;
  repetition = under int32_of (pos 3) known.repetition fs;
  name = under binary_of (pos 4) known.name fs;
  num_children = under int32_of (pos 5) known.num_children fs;
  converted = under int32_of (pos 6) known.converted fs;
}

abbrev pub schema_element_of : SchemaElementFields → Checked SchemaElement
schema_element_of known = do
  k ← optional name.SchemaElement (pos 1) known.kind
  l ← optional name.SchemaElement (pos 2) known.type_length
  r ← optional name.SchemaElement (pos 3) known.repetition
  n ← needed name.SchemaElement (pos 4) known.name
  c ← optional name.SchemaElement (pos 5) known.num_children
  t ← optional name.SchemaElement (pos 6) known.converted
  Ok (record { kind = k; type_length = l; repetition = r; name = n; num_children = c; converted = t })

abbrev pub schema_element : Fields → Checked SchemaElement
schema_element fs = schema_element_of (schema_element_after schema_element_none fs)

-- ColumnMetaData
abbrev pub column_meta_none : ColumnMetaFields
column_meta_none = record { kind = Absent; path = Absent; codec = Absent; num_values = Absent; data_page_offset = Absent; dictionary_page_offset = Absent }

abbrev pub column_meta_after : ColumnMetaFields → Fields → ColumnMetaFields
column_meta_after known fs = record {
  kind = under int32_of (pos 1) known.kind fs;
  path = under (list_of binary_of) (pos 3) known.path fs;
  codec = under int32_of (pos 4) known.codec fs;
  num_values = under int64_of (pos 5) known.num_values fs;
  data_page_offset = under int64_of (pos 9) known.data_page_offset fs;
  dictionary_page_offset = under int64_of (pos 11) known.dictionary_page_offset fs;
}

abbrev pub column_meta_of : ColumnMetaFields → Checked ColumnMeta
column_meta_of known = do
  k ← needed name.ColumnMetaData (pos 1) known.kind
  p ← needed name.ColumnMetaData (pos 3) known.path
  c ← needed name.ColumnMetaData (pos 4) known.codec
  v ← needed name.ColumnMetaData (pos 5) known.num_values
  d ← needed name.ColumnMetaData (pos 9) known.data_page_offset
  o ← optional name.ColumnMetaData (pos 11) known.dictionary_page_offset
  Ok (record { kind = k; path = p; codec = c; num_values = v; data_page_offset = d; dictionary_page_offset = o })

abbrev pub column_meta : Fields → Checked ColumnMeta
column_meta fs = column_meta_of (column_meta_after column_meta_none fs)

-- EncryptionWithColumnKey
abbrev pub column_key_none : ColumnKeyFields
column_key_none = record { path = Absent; key_metadata = Absent }

abbrev pub column_key_after : ColumnKeyFields → Fields → ColumnKeyFields
column_key_after known fs = record {
  path = under (list_of binary_of) (pos 1) known.path fs;
  key_metadata = under binary_of (pos 2) known.key_metadata fs;
}

abbrev pub column_key_of : ColumnKeyFields → Checked ColumnCrypto
column_key_of known = do
  p ← needed name.EncryptionWithColumnKey (pos 1) known.path
  m ← optional name.EncryptionWithColumnKey (pos 2) known.key_metadata
  Ok (crypto.ColumnKey p m)

abbrev pub column_key : Fields → Checked ColumnCrypto
column_key fs = column_key_of (column_key_after column_key_none fs)

-- EncryptionWithFooterKey has no fields.
abbrev pub footer_key_none : FooterKeyFields
footer_key_none = record {}

abbrev pub footer_key_after : FooterKeyFields → Fields → FooterKeyFields
footer_key_after known fs = known

abbrev pub footer_key : Fields → Checked ColumnCrypto
footer_key fs = Ok crypto.FooterKey

-- ColumnCryptoMetaData, a union.
abbrev pub one_key : Option ColumnCrypto → Option ColumnCrypto → Checked ColumnCrypto
one_key None None = Err (refused Unsupported name.ColumnCryptoMetaData (pos 1))
one_key (Some footer) None = Ok footer
one_key None (Some column) = Ok column
one_key (Some footer) (Some column) = Err (refused BadField name.ColumnCryptoMetaData (pos 2))

abbrev pub column_crypto_none : ColumnCryptoFields
column_crypto_none = record { footer = Absent; column = Absent }

abbrev pub column_crypto_after : ColumnCryptoFields → Fields → ColumnCryptoFields
column_crypto_after known fs = record {
  footer = under (struct_of footer_key) (pos 1) known.footer fs;
  column = under (struct_of column_key) (pos 2) known.column fs;
}

abbrev pub column_crypto_of : ColumnCryptoFields → Checked ColumnCrypto
column_crypto_of known = do
  f ← optional name.ColumnCryptoMetaData (pos 1) known.footer
  c ← optional name.ColumnCryptoMetaData (pos 2) known.column
  one_key f c

abbrev pub column_crypto : Fields → Checked ColumnCrypto
column_crypto fs = column_crypto_of (column_crypto_after column_crypto_none fs)

-- ColumnChunk
abbrev pub column_chunk_none : ColumnChunkFields
column_chunk_none = record { file_path = Absent; plain_meta = Absent; crypto = Absent; sealed_meta = Absent }

abbrev pub column_chunk_after : ColumnChunkFields → Fields → ColumnChunkFields
column_chunk_after known fs = record {
  file_path = under binary_of (pos 1) known.file_path fs;
  plain_meta = under (struct_of column_meta) (pos 3) known.plain_meta fs;
  crypto = under (struct_of column_crypto) (pos 8) known.crypto fs;
  sealed_meta = under binary_of (pos 9) known.sealed_meta fs;
}

abbrev pub column_chunk_of : ColumnChunkFields → Checked ColumnChunk
column_chunk_of known = do
  p ← optional name.ColumnChunk (pos 1) known.file_path
  m ← optional name.ColumnChunk (pos 3) known.plain_meta
  k ← optional name.ColumnChunk (pos 8) known.crypto
  s ← optional name.ColumnChunk (pos 9) known.sealed_meta
  Ok (record { file_path = p; plain_meta = m; crypto = k; sealed_meta = s })

abbrev pub column_chunk : Fields → Checked ColumnChunk
column_chunk fs = column_chunk_of (column_chunk_after column_chunk_none fs)

-- RowGroup
abbrev pub row_group_none : RowGroupFields
row_group_none = record { chunks = Absent; num_rows = Absent; ordinal = Absent }

abbrev pub row_group_after : RowGroupFields → Fields → RowGroupFields
row_group_after known fs = record {
  chunks = under (list_of (struct_of column_chunk)) (pos 1) known.chunks fs;
  num_rows = under int64_of (pos 3) known.num_rows fs;
  ordinal = under int16_of (pos 7) known.ordinal fs;
}

abbrev pub row_group_of : RowGroupFields → Checked RowGroup
row_group_of known = do
  c ← needed name.RowGroup (pos 1) known.chunks
  r ← needed name.RowGroup (pos 3) known.num_rows
  o ← optional name.RowGroup (pos 7) known.ordinal
  Ok (record { chunks = c; num_rows = r; ordinal = o })

abbrev pub row_group : Fields → Checked RowGroup
row_group fs = row_group_of (row_group_after row_group_none fs)

-- FileMetaData
abbrev pub raw_file_meta_none : FileMetaFields
raw_file_meta_none = record { schema = Absent; num_rows = Absent; groups = Absent; algorithm = Absent; signing_key_metadata = Absent }

abbrev pub raw_file_meta_after : FileMetaFields → Fields → FileMetaFields
raw_file_meta_after known fs = record {
  schema = under (list_of (struct_of schema_element)) (pos 2) known.schema fs;
  num_rows = under int64_of (pos 3) known.num_rows fs;
  groups = under (list_of (struct_of row_group)) (pos 4) known.groups fs;
  algorithm = under (struct_of algorithm) (pos 8) known.algorithm fs;
  signing_key_metadata = under binary_of (pos 9) known.signing_key_metadata fs;
}

abbrev pub raw_file_meta_of : FileMetaFields → Checked RawFileMeta
raw_file_meta_of known = do
  s ← needed name.FileMetaData (pos 2) known.schema
  r ← needed name.FileMetaData (pos 3) known.num_rows
  g ← needed name.FileMetaData (pos 4) known.groups
  a ← optional name.FileMetaData (pos 8) known.algorithm
  m ← optional name.FileMetaData (pos 9) known.signing_key_metadata
  Ok (record { schema = s; num_rows = r; groups = g; algorithm = a; signing_key_metadata = m })

abbrev pub raw_file_meta : Fields → Checked RawFileMeta
raw_file_meta fs = raw_file_meta_of (raw_file_meta_after raw_file_meta_none fs)

-- The fields of FileMetaData that describe the signature of a footer. Without an algorithm no other field is judged.
abbrev pub signing_with : FieldState (List ℕ) → Option AlgorithmMeta → Checked (Option AlgorithmMeta × Option (List ℕ))
signing_with metadata None = Ok (None, None)
signing_with metadata (Some algorithm) = do
  m ← optional name.FileMetaData (pos 9) metadata
  Ok (Some algorithm, m)

abbrev pub signing_none : SigningFields
signing_none = record { algorithm = Absent; key_metadata = Absent }

abbrev pub signing_after : SigningFields → Fields → SigningFields
signing_after known fs = record {
  algorithm = under (struct_of algorithm) (pos 8) known.algorithm fs;
  key_metadata = under binary_of (pos 9) known.key_metadata fs;
}

abbrev pub signing_of : SigningFields → Checked (Option AlgorithmMeta × Option (List ℕ))
signing_of known = do
  a ← optional name.FileMetaData (pos 8) known.algorithm
  signing_with known.key_metadata a

abbrev pub signing : Fields → Checked (Option AlgorithmMeta × Option (List ℕ))
signing fs = signing_of (signing_after signing_none fs)

-- DataPageHeader
abbrev pub data_counts_none : DataCountsFields
data_counts_none = record { num_values = Absent; encoding = Absent; level_encoding = Absent }

abbrev pub data_counts_after : DataCountsFields → Fields → DataCountsFields
data_counts_after known fs = record {
  num_values = under int32_of (pos 1) known.num_values fs;
  encoding = under int32_of (pos 2) known.encoding fs;
  level_encoding = under int32_of (pos 3) known.level_encoding fs;
}

abbrev pub data_counts_of : DataCountsFields → Checked DataCounts
data_counts_of known = do
  v ← needed name.DataPageHeader (pos 1) known.num_values
  e ← needed name.DataPageHeader (pos 2) known.encoding
  l ← needed name.DataPageHeader (pos 3) known.level_encoding
  Ok (record { num_values = v; encoding = e; level_encoding = l })

abbrev pub data_counts : Fields → Checked DataCounts
data_counts fs = data_counts_of (data_counts_after data_counts_none fs)

-- DictionaryPageHeader
abbrev pub dictionary_counts_none : DictionaryCountsFields
dictionary_counts_none = record { num_values = Absent; encoding = Absent }

abbrev pub dictionary_counts_after : DictionaryCountsFields → Fields → DictionaryCountsFields
dictionary_counts_after known fs = record {
  num_values = under int32_of (pos 1) known.num_values fs;
  encoding = under int32_of (pos 2) known.encoding fs;
}

abbrev pub dictionary_counts_of : DictionaryCountsFields → Checked DictionaryCounts
dictionary_counts_of known = do
  v ← needed name.DictionaryPageHeader (pos 1) known.num_values
  e ← needed name.DictionaryPageHeader (pos 2) known.encoding
  Ok (record { num_values = v; encoding = e })

abbrev pub dictionary_counts : Fields → Checked DictionaryCounts
dictionary_counts fs = dictionary_counts_of (dictionary_counts_after dictionary_counts_none fs)

-- PageHeader. The page types are 0 for a data page, 1 for an index page, 2 for a dictionary page and 3 for a data
-- page of version 2.
abbrev pub data_page : ℤ → ℤ → Option DataCounts → Checked PageHead
data_page uncompressed compressed None = Err (refused MissingField name.PageHeader (pos 5))
data_page uncompressed compressed (Some counts) = Ok (head.Data (record {
  uncompressed = uncompressed;
  compressed = compressed;
  num_values = counts.num_values;
  encoding = counts.encoding;
  level_encoding = counts.level_encoding;
}))

abbrev pub dictionary_page : ℤ → ℤ → Option DictionaryCounts → Checked PageHead
dictionary_page uncompressed compressed None = Err (refused MissingField name.PageHeader (pos 7))
dictionary_page uncompressed compressed (Some counts) = Ok (head.Dictionary (record {
  uncompressed = uncompressed;
  compressed = compressed;
  num_values = counts.num_values;
  encoding = counts.encoding;
}))

abbrev pub page_of_type : ℤ → ℤ → ℤ → Option DataCounts → Option DictionaryCounts → Checked PageHead
page_of_type type uncompressed compressed counts dictionary =
    if int_eq type (pos 0) then data_page uncompressed compressed counts
    else if int_eq type (pos 2) then dictionary_page uncompressed compressed dictionary
    else if int_eq type (pos 1) || int_eq type (pos 3) then Err (refused Unsupported name.PageHeader (pos 1))
    else Err (refused BadField name.PageHeader (pos 1))

abbrev pub page_head_none : PageHeadFields
page_head_none = record { page_type = Absent; uncompressed = Absent; compressed = Absent; counts = Absent; dictionary = Absent }

abbrev pub page_head_after : PageHeadFields → Fields → PageHeadFields
page_head_after known fs = record {
  page_type = under int32_of (pos 1) known.page_type fs;
  uncompressed = under int32_of (pos 2) known.uncompressed fs;
  compressed = under int32_of (pos 3) known.compressed fs;
  counts = under (struct_of data_counts) (pos 5) known.counts fs;
  dictionary = under (struct_of dictionary_counts) (pos 7) known.dictionary fs;
}

abbrev pub page_head_of : PageHeadFields → Checked PageHead
page_head_of known = do
  t ← needed name.PageHeader (pos 1) known.page_type
  u ← needed name.PageHeader (pos 2) known.uncompressed
  c ← needed name.PageHeader (pos 3) known.compressed
  d ← optional name.PageHeader (pos 5) known.counts
  o ← optional name.PageHeader (pos 7) known.dictionary
  page_of_type t u c d o

abbrev pub page_head : Fields → Checked PageHead
page_head fs = page_head_of (page_head_after page_head_none fs)
