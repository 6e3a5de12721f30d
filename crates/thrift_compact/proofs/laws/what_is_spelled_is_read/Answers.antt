use Rattle.thrift_compact.proofs.Again.{value_again}
use Rattle.thrift_compact.proofs.laws.what_is_spelled_is_read.Goals as goal

pub returns : goal.returns
returns c depth k t front rest spelled = value_again t depth k front rest spelled
