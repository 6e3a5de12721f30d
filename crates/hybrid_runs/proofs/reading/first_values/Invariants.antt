use Rattle.std.proofs.Common.{length, take}
use Rattle.hybrid_runs.specs.Hybrid.{hybrid}
use Rattle.hybrid_runs.proofs.Runs.{Reads}
use Rattle.hybrid_runs.proofs.reading.first_values.Given as goal

abbrev pub invariant-loop-rest : goal.invariant-loop-rest
invariant-loop-rest l = Reads l.count l.width (take l.count (hybrid l.width l.bytes)) l.values.items l.rest

abbrev pub decreases-loop-rest : goal.decreases-loop-rest
decreases-loop-rest l = length l.rest
