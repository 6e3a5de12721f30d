use Rattle.hybrid_runs.proofs.ReadBack.{bits_read_back}
use Rattle.hybrid_runs.proofs.bits_are_read_back.Goals as goal

pub returns : goal.returns
returns c = bits_read_back
