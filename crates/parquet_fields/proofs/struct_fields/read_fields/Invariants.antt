use Rattle.std.proofs.Common.{length}
use Rattle.thrift_compact.specs.Answers.{mapped}
use Rattle.thrift_compact.specs.Reading.{nest}
use Rattle.thrift_compact.specs.Standing.{depth_left}
use Rattle.parquet_fields.proofs.Loops.{Inside}
use Rattle.parquet_fields.proofs.struct_fields.read_fields.Given as goal

abbrev pub invariant-loop-fields : goal.invariant-loop-fields
invariant-loop-fields g l =
    Inside (g.M.StructFields.after l.fields) (mapped (g.M.StructFields.after g.M.StructFields.none) ((nest (depth_left l.fn.reader)).fields l.fn.reader.rest)) l.fn.reader l.reader

abbrev pub decreases-loop-fields : goal.decreases-loop-fields
decreases-loop-fields g l = length l.reader.rest
