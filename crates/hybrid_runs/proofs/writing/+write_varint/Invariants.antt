use Rattle.hybrid_runs.proofs.writing.+write_varint.Given as goal

abbrev pub decreases-write_varint : goal.decreases-write_varint
decreases-write_varint l = l.turns
