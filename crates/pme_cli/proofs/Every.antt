-- Each command guarantees what every run does.
use Rattle.std.proofs.Common.{rules, Option, Some, None, Result, Err}
use Rattle.command_line.specs.declared.command.Command.{Command}
use Rattle.command_line.specs.declared.command.Command.TheVariants.{Module, Thrift, Footer}
use Rattle.pme_base.specs.declared.refusal.Cause.TheVariants.{OutOfMemory}
use Rattle.command_parts.specs.declared.stop.Stop.{Stop}
use Rattle.command_parts.specs.Stops.{plain_stop}
use Rattle.command_parts.specs.World.{World, EveryRun}
use Rattle.pme_cli.specs.Guarantees.{Guarantees}

pub every_of : (command : Command) (old new : World) (outcome : Result Unit Stop) → Guarantees (Some command) old new outcome → EveryRun old new outcome
every_of (Module args) old new outcome held = held.text.every
every_of (Thrift args) old new outcome held = held.text.every
every_of (Footer args) old new outcome held = held.text.every

-- a command may run out of memory before it touches anything
pub no_memory : (command : Option Command) (world : World) → Guarantees command world world (Err (plain_stop OutOfMemory))
no_memory None world = search rules
no_memory (Some (Module args)) world = search rules
no_memory (Some (Thrift args)) world = search rules
no_memory (Some (Footer args)) world = search rules
