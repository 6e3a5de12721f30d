use Rattle.std.proofs.Common.{◌≡◌, ◌+ℤ◌, drop}
use Rattle.parquet_writing.specs.Plans.{total_uncompressed, total_stored}
use Rattle.parquet_writing.specs.Putting.{IsWithin}
use Rattle.parquet_writing.proofs.put_group.size_of.Given as goal

-- The sums so far plus the sums of the remaining chunks are the sums of all chunks.
abbrev pub invariant-loop-chunk : goal.invariant-loop-chunk
invariant-loop-chunk l =
    (l.size.uncompressed +ℤ total_uncompressed (drop l.chunk-index l.items) ≡ total_uncompressed l.items)
    × (l.size.stored +ℤ total_stored (drop l.chunk-index l.items) ≡ total_stored l.items)
    × IsWithin l.chunk-index l.size.uncompressed × IsWithin l.chunk-index l.size.stored × (l.items ≡ l.fn.chunks)
