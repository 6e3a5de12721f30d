use Rattle.std.proofs.Common.{◌≡◌, ◌+◌, pos, length, drop, map}
use Rattle.thrift_compact.specs.Tree.{list}
use Rattle.parquet_writing.specs.Plans.{structs, column_chunk}
use Rattle.parquet_writing.specs.Putting.{with_value}
use Rattle.parquet_writing.proofs.PutLists.{StillToWrite}
use Rattle.parquet_writing.proofs.put_group.put_chunks.Given as goal

-- The column chunks from this one on are still to be written.
abbrev pub invariant-loop-chunk : goal.invariant-loop-chunk
invariant-loop-chunk l =
    StillToWrite (map column_chunk (drop l.chunk-index l.items)) (with_value (pos 1) (list (structs (map column_chunk l.items))) l.fn.writer) (length l.fn.writer.outer + 1) l.writer
    × (l.items ≡ l.fn.chunks)
