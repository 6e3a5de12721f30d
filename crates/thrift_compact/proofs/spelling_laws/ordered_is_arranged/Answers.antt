use Rattle.thrift_compact.proofs.InOrder.{arranged}
use Rattle.thrift_compact.proofs.spelling_laws.ordered_is_arranged.Goals as goal

pub returns : goal.returns
returns c = arranged
