use Rattle.std.proofs.Common.{◌≡◌, ◌+◌, pos, length, drop}
use Rattle.thrift_compact.specs.Tree.{list}
use Rattle.parquet_writing.specs.Plans.{structs, row_groups}
use Rattle.parquet_writing.specs.Putting.{with_value}
use Rattle.parquet_writing.proofs.PutLists.{StillToWrite}
use Rattle.parquet_writing.proofs.put_group.put_groups.Given as goal

-- The row groups from this position on are still to be written.
abbrev pub invariant-loop-position : goal.invariant-loop-position
invariant-loop-position l =
    StillToWrite (row_groups l.position (drop l.position l.items)) (with_value (pos 4) (list (structs (row_groups 0 l.items))) l.fn.writer) (length l.fn.writer.outer + 1) l.writer
    × (l.items ≡ l.fn.groups)
