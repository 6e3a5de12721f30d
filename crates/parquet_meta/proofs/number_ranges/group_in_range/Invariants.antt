use Rattle.std.proofs.Common.{◌≡◌, ◌<◌, ℕ, get_or}
use Rattle.parquet_types.specs.declared.plan.WrittenChunk.{WrittenChunk}
use Rattle.parquet_meta.specs.Ranges.{ChunkInRange}
use Rattle.parquet_meta.proofs.number_ranges.group_in_range.Given as goal

-- The numbers of the chunks before this one are in range.
abbrev pub invariant-loop-chunk : goal.invariant-loop-chunk
invariant-loop-chunk l = ((k : ℕ) (d : WrittenChunk) → k < l.chunk-index → ChunkInRange (get_or l.items k d)) × (l.items ≡ l.fn.group.chunks)
