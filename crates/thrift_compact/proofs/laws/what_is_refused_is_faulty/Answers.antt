use Rattle.thrift_compact.proofs.Faulty.{refused_is_faulty}
use Rattle.thrift_compact.proofs.laws.what_is_refused_is_faulty.Goals as goal

pub returns : goal.returns
returns c depth k bytes f each refused = refused_is_faulty depth k bytes f each refused
