use Rattle.thrift_compact.proofs.FromSpelled.{proper_from}
use Rattle.metadata_tests.proofs.spellings.spelled_again.Goals as goal

pub spell-requires-clause-proper : goal.spell-requires-clause-proper
spell-requires-clause-proper c = proper_from _ _ _ _ c.in-Ok.ensures.found
