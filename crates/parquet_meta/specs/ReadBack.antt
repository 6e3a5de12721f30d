-- The values of a plan as a reader gets them, and the laws that they are read back from what is written.
use Rattle.std.specs.Prelude.{◌≡◌, ℕ, ◌+◌, ℤ, pos, Bool, true, false, FitsSigned, List, [], ◌∷◌, ◌++◌, length, map, Option, Some, None, Ok}
use Rattle.std.specs.Int.{w8, w16, w32, w64}
use Rattle.pme_base.specs.declared.place.Place.{Place}
use Rattle.pme_base.specs.Steps.{◌>>=◌}
use Rattle.thrift_compact.specs.Proper.{IsSmall}
use Rattle.thrift_compact.specs.Spelling.{canonical}
use Rattle.thrift_compact.specs.Tree.{Tree, truth, int8, int16, int32, int64, double, binary, list, set, map as map_tree, struct, Trees, no_trees, tree, Fields, no_fields, field}
use Rattle.parquet_types.specs.declared.column.ColumnSpec.{ColumnSpec}
use Rattle.parquet_types.specs.declared.file_meta.AlgorithmMeta.{AlgorithmMeta}
use Rattle.parquet_types.specs.declared.file_meta.ChunkCrypto.{ChunkCrypto}
use Rattle.parquet_types.specs.declared.file_meta.ChunkCrypto.TheVariants as key
use Rattle.parquet_types.specs.declared.file_meta.ColumnMeta.{ColumnMeta}
use Rattle.parquet_types.specs.declared.raw_footer.ColumnChunk.{ColumnChunk}
use Rattle.parquet_types.specs.declared.raw_footer.ColumnCrypto.{ColumnCrypto}
use Rattle.parquet_types.specs.declared.raw_footer.ColumnCrypto.TheVariants as crypto
use Rattle.parquet_types.specs.declared.raw_footer.RawFileMeta.{RawFileMeta}
use Rattle.parquet_types.specs.declared.raw_footer.RowGroup.{RowGroup}
use Rattle.parquet_types.specs.declared.raw_footer.SchemaElement.{SchemaElement}
use Rattle.parquet_types.specs.declared.page_head.DataHead.{DataHead}
use Rattle.parquet_types.specs.declared.page_head.PageHead.TheVariants.{Data}
use Rattle.parquet_types.specs.declared.plan.FooterPlan.{FooterPlan}
use Rattle.parquet_types.specs.declared.plan.WrittenChunk.{WrittenChunk}
use Rattle.parquet_types.specs.declared.plan.WrittenGroup.{WrittenGroup}
use Rattle.parquet_fields.specs.Calls.{struct_at, column_meta_at, page_head_at, file_crypto_at, signing_at}
use Rattle.parquet_meta.specs.Footer.{file_meta_at}
use Rattle.footer_rules.specs.FileRules.{file_of}
use Rattle.parquet_writing.specs.Fitting.{FitsAlgorithm, FitsChunk, FitsFooter}
use Rattle.parquet_writing.specs.Plans.{page_header, file_crypto_meta_data, kind_number, column_meta_data, fixed_length, repetition, file_meta_data}
use Rattle.parquet_fields.specs.Structs.{raw_file_meta}

-- Each number lies in the range of its type.
abbrev mutual
  pub NumbersFit : Tree → Type 0
  NumbersFit (truth t) = Unit {0}
  NumbersFit (int8 z) = FitsSigned w8 z
  NumbersFit (int16 z) = FitsSigned w16 z
  NumbersFit (int32 z) = FitsSigned w32 z
  NumbersFit (int64 z) = FitsSigned w64 z
  NumbersFit (double bytes) = Unit {0}
  NumbersFit (binary bytes) = Unit {0}
  NumbersFit (list ts) = EachFits ts
  NumbersFit (set ts) = EachFits ts
  NumbersFit (map_tree ps) = ⊥
  NumbersFit (struct fs) = FieldsFit fs

  pub EachFits : Trees → Type 0
  EachFits no_trees = Unit {0}
  EachFits (tree t ts) = NumbersFit t × EachFits ts

  pub FieldsFit : Fields → Type 0
  FieldsFit no_fields = Unit {0}
  FieldsFit (field id t fs) = NumbersFit t × FieldsFit fs

-- The bytes that are written for a struct.
abbrev pub written : Fields → List ℕ
written fs = canonical (struct fs)

-- The metadata of a column chunk.
abbrev pub chunk_meta : WrittenChunk → ColumnMeta
chunk_meta chunk = record {
  kind = kind_number chunk.spec.kind;
  path = chunk.spec.name ∷ [];
  codec = pos 0;
  num_values = chunk.num_values;
  data_page_offset = chunk.start;
  dictionary_page_offset = None;
}

abbrev pub shown_meta : WrittenChunk → Bool → Option ColumnMeta
shown_meta chunk false = None
shown_meta chunk true = Some (chunk_meta chunk)

abbrev pub chunk_key : List ℕ → ChunkCrypto → Option ColumnCrypto
chunk_key name key.Plain = None
chunk_key name key.FooterKey = Some crypto.FooterKey
chunk_key name (key.ColumnKey metadata) = Some (crypto.ColumnKey (name ∷ []) metadata)

abbrev pub chunk_part : WrittenChunk → ColumnChunk
chunk_part chunk = record {
  file_path = None;
  plain_meta = shown_meta chunk chunk.show_meta;
  crypto = chunk_key chunk.spec.name chunk.crypto;
  sealed_meta = chunk.sealed_meta;
}

abbrev pub group_part : ℕ → WrittenGroup → RowGroup
group_part position group =
    record { chunks = map chunk_part group.chunks; num_rows = group.num_rows; ordinal = Some (pos position) }

abbrev pub group_parts : ℕ → List WrittenGroup → List RowGroup
group_parts position [] = []
group_parts position (group ∷ groups) = group_part position group ∷ group_parts (position + 1) groups

-- The root and the columns of a schema.
abbrev pub root_part : ℕ → SchemaElement
root_part columns = record {
  kind = None;
  type_length = None;
  repetition = None;
  name = 115 ∷ 99 ∷ 104 ∷ 101 ∷ 109 ∷ 97 ∷ [];
  num_children = Some (pos columns);
  converted = None;
}

abbrev pub converted_part : Bool → Option ℤ
converted_part false = None
converted_part true = Some (pos 0)

abbrev pub column_part : ColumnSpec → SchemaElement
column_part column = record {
  kind = Some (kind_number column.kind);
  type_length = fixed_length column.kind;
  repetition = Some (repetition column.optional);
  name = column.name;
  num_children = None;
  converted = converted_part column.text;
}

abbrev pub plan_fields : FooterPlan → RawFileMeta
plan_fields plan = record {
  schema = root_part (length plan.schema) ∷ map column_part plan.schema;
  num_rows = plan.num_rows;
  groups = group_parts 0 plan.groups;
  algorithm = plan.algorithm;
  signing_key_metadata = plan.signing_key_metadata;
}

-- The signing algorithm and key of a footer: no key if there is no algorithm.
abbrev pub signed_by : Option AlgorithmMeta → Option (List ℕ) → Option AlgorithmMeta × Option (List ℕ)
signed_by None metadata = (None, None)
signed_by (Some algorithm) metadata = (Some algorithm, metadata)

-- Bytes from which a value is read, whatever bytes follow.
abbrev pub IsPageHeadOf : DataHead → List ℕ → Type 0
IsPageHeadOf head bytes = (place : Place) (rest : List ℕ) → page_head_at place (bytes ++ rest) ≡ Ok (Data head, length bytes)

abbrev pub IsFileCryptoOf : AlgorithmMeta → List ℕ → List ℕ → Type 0
IsFileCryptoOf algorithm key_metadata bytes =
    (place : Place) (rest : List ℕ) → file_crypto_at place (bytes ++ rest)
    ≡ Ok (record { algorithm = algorithm; key_metadata = Some key_metadata }, length bytes)

abbrev pub IsColumnMetaOf : WrittenChunk → List ℕ → Type 0
IsColumnMetaOf chunk bytes = (place : Place) (rest : List ℕ) → column_meta_at place (bytes ++ rest) ≡ Ok (chunk_meta chunk)

-- A page header is read back, whatever bytes follow.
abbrev pub PageHeadIsRead : Type 0
PageHeadIsRead =
    (place : Place) (head : DataHead) (rest : List ℕ) → NumbersFit (struct (page_header head))
    → page_head_at place (written (page_header head) ++ rest) ≡ Ok (Data head, length (written (page_header head)))

abbrev pub FileCryptoIsRead : Type 0
FileCryptoIsRead =
    (place : Place) (algorithm : AlgorithmMeta) (key_metadata rest : List ℕ) → FitsAlgorithm algorithm → IsSmall (length key_metadata)
    → file_crypto_at place (written (file_crypto_meta_data algorithm key_metadata) ++ rest)
    ≡ Ok (record { algorithm = algorithm; key_metadata = Some key_metadata }, length (written (file_crypto_meta_data algorithm key_metadata)))

abbrev pub ColumnMetaIsRead : Type 0
ColumnMetaIsRead =
    (place : Place) (chunk : WrittenChunk) (rest : List ℕ) → FitsChunk chunk → NumbersFit (struct (column_meta_data chunk))
    → column_meta_at place (written (column_meta_data chunk) ++ rest) ≡ Ok (chunk_meta chunk)

-- The fields of a footer are read back as those of its plan.
abbrev pub RawFileMetaIsRead : Type 0
RawFileMetaIsRead =
    (place : Place) (plan : FooterPlan) (rest : List ℕ) → FitsFooter plan → NumbersFit (struct (file_meta_data plan))
    → struct_at place raw_file_meta (written (file_meta_data plan) ++ rest) ≡ Ok (plan_fields plan, length (written (file_meta_data plan)))

-- The footer is read back as the result of the rules on those fields.
abbrev pub FileMetaIsRead : Type 0
FileMetaIsRead =
    (place : Place) (plan : FooterPlan) (rest : List ℕ) → FitsFooter plan → NumbersFit (struct (file_meta_data plan))
    → file_meta_at place (written (file_meta_data plan) ++ rest)
    ≡ (file_of place (plan_fields plan) >>= λ file. Ok (file, length (written (file_meta_data plan))))

abbrev pub SigningIsRead : Type 0
SigningIsRead =
    (place : Place) (plan : FooterPlan) (rest : List ℕ) → FitsFooter plan → NumbersFit (struct (file_meta_data plan))
    → signing_at place (written (file_meta_data plan) ++ rest)
    ≡ Ok (signed_by plan.algorithm plan.signing_key_metadata, length (written (file_meta_data plan)))
