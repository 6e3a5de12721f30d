use Rattle.thrift_compact.proofs.ReadAs.{spelled_at_front, read_as_spelled}
use Rattle.thrift_compact.proofs.RefusedAs.{fault_reported, refused_for}
use Rattle.thrift_compact.proofs.read.read_tree.Goals as goal

pub returns-clause-found : goal.returns-clause-found
returns-clause-found c = spelled_at_front _ _ c.read_struct.ensures.bytes c.read_struct.ensures.exact

pub returns-clause-only : goal.returns-clause-only
returns-clause-only c = read_as_spelled _ _ c.read_struct.ensures.exact

pub returns-clause-refused : goal.returns-clause-refused
returns-clause-refused c = fault_reported _ _ c.read_struct.ensures.bytes c.read_struct.ensures.exact

pub returns-clause-faulty : goal.returns-clause-faulty
returns-clause-faulty c = refused_for _ _ c.read_struct.ensures.exact
