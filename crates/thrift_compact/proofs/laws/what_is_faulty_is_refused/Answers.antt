use Rattle.thrift_compact.proofs.Refused.{refuses}
use Rattle.thrift_compact.proofs.laws.what_is_faulty_is_refused.Goals as goal

pub returns : goal.returns
returns c depth k bytes f fault = refuses depth k bytes f fault
