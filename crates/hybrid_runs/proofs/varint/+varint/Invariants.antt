use Rattle.hybrid_runs.proofs.varint.+varint.Given as goal

abbrev pub decreases-varint : goal.decreases-varint
decreases-varint l = l.turns
