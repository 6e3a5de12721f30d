use Rattle.pme_cli.proofs.Every.{no_memory}
use Rattle.pme_cli.proofs.run.obey.Goals as goal

pub returns-in-Err-clause-guarantees : goal.returns-in-Err-clause-guarantees
returns-in-Err-clause-guarantees g c = rw c.plain_stop-in-Err.ensures.stop (no_memory _ _)
