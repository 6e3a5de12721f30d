-- The numbers of a plan lie in the ranges of their types, which holds for every value in the program.
use Rattle.std.specs.Prelude.{FitsSigned}
use Rattle.std.specs.Int.{w32, w64}
use Rattle.std.specs.List.{All}
use Rattle.parquet_types.specs.declared.page_head.DataHead.{DataHead}
use Rattle.parquet_types.specs.declared.plan.FooterPlan.{FooterPlan}
use Rattle.parquet_types.specs.declared.plan.WrittenChunk.{WrittenChunk}
use Rattle.parquet_types.specs.declared.plan.WrittenGroup.{WrittenGroup}

pub record HeadInRange (head : DataHead) : Type 0 where
  pub uncompressed : FitsSigned w32 head.uncompressed
  pub compressed : FitsSigned w32 head.compressed
  pub num_values : FitsSigned w32 head.num_values
  pub encoding : FitsSigned w32 head.encoding
  pub level_encoding : FitsSigned w32 head.level_encoding

pub record ChunkInRange (chunk : WrittenChunk) : Type 0 where
  pub num_values : FitsSigned w64 chunk.num_values
  pub uncompressed : FitsSigned w64 chunk.uncompressed
  pub stored : FitsSigned w64 chunk.stored
  pub start : FitsSigned w64 chunk.start

pub record GroupInRange (group : WrittenGroup) : Type 0 where
  pub chunks : All ChunkInRange group.chunks
  pub num_rows : FitsSigned w64 group.num_rows

pub record PlanInRange (plan : FooterPlan) : Type 0 where
  pub groups : All GroupInRange plan.groups
  pub num_rows : FitsSigned w64 plan.num_rows
