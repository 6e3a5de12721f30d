-- The limits on a plan within which each of its numbers, lists and byte arrays fits its field: lengths and counts are
-- below 2^31, positions below 2^15, and sums fit 64 bits with sign. Each row group has a column chunk.
use Rattle.std.specs.Prelude.{ℕ, ◌+◌, ◌<◌, ◌≤◌, FitsSigned, List, length, Option, Some, None}
use Rattle.std.specs.Int.{w64}
use Rattle.std.specs.List.{All}
use Rattle.thrift_compact.specs.Proper.{IsSmall}
use Rattle.parquet_types.specs.declared.column.ColumnKind.{ColumnKind}
use Rattle.parquet_types.specs.declared.column.ColumnKind.TheVariants as kind
use Rattle.parquet_types.specs.declared.column.ColumnSpec.{ColumnSpec}
use Rattle.parquet_types.specs.declared.file_meta.AlgorithmMeta.{AlgorithmMeta}
use Rattle.parquet_types.specs.declared.file_meta.ChunkCrypto.{ChunkCrypto}
use Rattle.parquet_types.specs.declared.file_meta.ChunkCrypto.TheVariants as key
use Rattle.parquet_types.specs.declared.plan.FooterPlan.{FooterPlan}
use Rattle.parquet_types.specs.declared.plan.WrittenChunk.{WrittenChunk}
use Rattle.parquet_types.specs.declared.plan.WrittenGroup.{WrittenGroup}
use Rattle.parquet_writing.specs.Plans.{total_uncompressed, total_stored}

-- The bytes of an optional field.
abbrev pub FitsOptional : Option (List ℕ) → Type 0
FitsOptional None = Unit {0}
FitsOptional (Some bytes) = IsSmall (length bytes)

pub record FitsAlgorithm (algorithm : AlgorithmMeta) : Type 0 where
  pub prefix : FitsOptional algorithm.prefix
  pub unique : IsSmall (length algorithm.unique)

abbrev pub FitsKind : ColumnKind → Type 0
FitsKind (kind.Fixed length) = IsSmall length
FitsKind k = Unit {0}

pub record FitsColumn (column : ColumnSpec) : Type 0 where
  pub name : IsSmall (length column.name)
  pub kind : FitsKind column.kind

abbrev pub FitsCrypto : ChunkCrypto → Type 0
FitsCrypto (key.ColumnKey metadata) = FitsOptional metadata
FitsCrypto k = Unit {0}

pub record FitsChunk (chunk : WrittenChunk) : Type 0 where
  pub name : IsSmall (length chunk.spec.name)
  pub crypto : FitsCrypto chunk.crypto
  pub sealed_meta : FitsOptional chunk.sealed_meta

pub record FitsGroup (group : WrittenGroup) : Type 0 where
  pub some : 0 < length group.chunks
  pub few : IsSmall (length group.chunks)
  pub chunks : All FitsChunk group.chunks
  pub uncompressed : FitsSigned w64 (total_uncompressed group.chunks)
  pub stored : FitsSigned w64 (total_stored group.chunks)

abbrev pub FitsIfSome : Option AlgorithmMeta → Type 0
FitsIfSome None = Unit {0}
FitsIfSome (Some algorithm) = FitsAlgorithm algorithm

pub record FitsFooter (plan : FooterPlan) : Type 0 where
  pub few : IsSmall (length plan.schema + 1)
  pub schema : All FitsColumn plan.schema
  pub positions : length plan.groups ≤ 32768
  pub groups : All FitsGroup plan.groups
  pub algorithm : FitsIfSome plan.algorithm
  pub signing_key_metadata : FitsOptional plan.signing_key_metadata
