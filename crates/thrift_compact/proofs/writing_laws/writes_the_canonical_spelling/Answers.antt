use Rattle.thrift_compact.proofs.Written.{writes-canonically, writes-what-is-described}
use Rattle.thrift_compact.proofs.writing_laws.writes_the_canonical_spelling.Goals as goal

pub returns : goal.returns
returns c = record { canonical = writes-canonically; spelled = writes-what-is-described }
