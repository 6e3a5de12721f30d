use Rattle.command_parts.specs.World.{sink_state}
use Rattle.command_parts.proofs.Prints.{followed_by_none, puts_nothing}
use Rattle.pme_cli.proofs.run.run.Goals as goal

pub returns-in-Ok-clause-guarantees : goal.returns-in-Ok-clause-guarantees
returns-in-Ok-clause-guarantees g c = record {
  noted = sink_state g.E.Sink.written g.E.Sink.faults c.obey.new.err;
  by_command = c.in-Ok.ensures.guarantees;
  whole = λ _. followed_by_none _;
  part = puts_nothing _ _;
  failed = tt;
}
