use Rattle.thrift_compact.proofs.OneSpelling.{one_front}
use Rattle.thrift_compact.proofs.laws.one_spelling.Goals as goal

pub returns : goal.returns
returns c = one_front
