use Rattle.std.proofs.Common.{◌≡◌, ◌+◌, pos, length, drop, map}
use Rattle.thrift_compact.specs.Tree.{list}
use Rattle.parquet_writing.specs.Plans.{structs, schema_column, schema}
use Rattle.parquet_writing.specs.Putting.{with_value}
use Rattle.parquet_writing.proofs.PutLists.{StillToWrite}
use Rattle.parquet_writing.proofs.put_schema.put_schema.Given as goal

-- The columns from this one on are still to be written.
abbrev pub invariant-loop-column : goal.invariant-loop-column
invariant-loop-column l =
    StillToWrite (map schema_column (drop l.column-index l.items)) (with_value (pos 2) (list (structs (schema l.items))) l.fn.writer) (length l.fn.writer.outer + 1) l.writer
    × (l.items ≡ l.fn.columns)
