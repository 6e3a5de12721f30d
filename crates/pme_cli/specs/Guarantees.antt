-- What a run guarantees, by its command.
use Rattle.std.specs.Prelude.{◌≡◌, ℕ, Bool, true, false, Option, Some, None, IsNone, IfSome, Result, Ok, Err}
use Rattle.command_line.specs.declared.command.Command.{Command}
use Rattle.command_line.specs.declared.command.Command.TheVariants.{Module, Thrift, Footer}
use Rattle.pme_base.specs.declared.outside.Trouble.{Trouble}
use Rattle.pme_base.specs.declared.outside.Trouble.TheVariants.{Failed}
use Rattle.pme_base.specs.declared.refusal.Cause.{Cause}
use Rattle.pme_base.specs.declared.refusal.Cause.TheVariants.{Usage, OutOfMemory}
use Rattle.pme_base.specs.Outside.{followed_by, PutsFront}
use Rattle.pme_base.specs.Counts.{Rose}
use Rattle.command_parts.specs.declared.stop.Stop.{Stop}
use Rattle.command_parts.specs.Stops.{plain_stop}
use Rattle.command_parts.specs.World.{World, SinkState}
use Rattle.read_commands.specs.ModuleCommand.{ModuleGuarantees}
use Rattle.read_commands.specs.ThriftCommand.{ThriftGuarantees}
use Rattle.read_commands.specs.FooterCommand.{FooterGuarantees}
use Rattle.pme_cli.specs.Outcomes.{last_line}

abbrev pub is_memory_cause : Cause → Bool
is_memory_cause OutOfMemory = true
is_memory_cause _ = false

abbrev pub is_memory_outcome : Result Unit Stop → Bool
is_memory_outcome (Ok _) = false
is_memory_outcome (Err stop) = is_memory_cause stop.refusal.cause

-- words that are no valid command are refused as Usage, unless an allocation failed, and no object outside is touched
pub record UsageGuarantees (old new : World) (outcome : Result Unit Stop) : Type 0 where
  pub answered : is_memory_outcome outcome ≡ false → outcome ≡ Err (plain_stop Usage)
  pub untouched : new ≡ old

-- what each command guarantees: the one list of commands
abbrev pub Guarantees : Option Command → World → World → Result Unit Stop → Type 0
Guarantees None old new outcome = UsageGuarantees old new outcome
Guarantees (Some (Module args)) old new outcome = ModuleGuarantees args old new outcome
Guarantees (Some (Thrift args)) old new outcome = ThriftGuarantees args old new outcome
Guarantees (Some (Footer args)) old new outcome = FooterGuarantees args old new outcome

-- what a run guarantees: all that its command does, and the line of the refusal as the last that is written to the error text.
-- `line` is the failure that kept the line from being written whole.
pub record RunGuarantees (command : Option Command) (old new : World) (outcome : Result Unit Stop) (line : Option Trouble) : Type 0 where
  -- the error text before the line
  pub noted : SinkState
  pub by_command : Guarantees command old (record new { err = noted }) outcome
  pub whole : IsNone line → new.err.written ≡ followed_by (last_line outcome) noted.written
  pub part : PutsFront (last_line outcome) noted.written new.err.written
  pub failed : IfSome line (λ trouble. trouble ≡ Failed → Rose noted.faults new.err.faults)
