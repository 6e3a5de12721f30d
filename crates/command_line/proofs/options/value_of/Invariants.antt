use Rattle.std.proofs.Common.{◌≡◌, length}
use Rattle.command_line.specs.Options.{value_of}
use Rattle.command_line.proofs.options.value_of.Given as goal

-- the answer for all words is the answer for the remaining words
abbrev pub invariant-loop-rest : goal.invariant-loop-rest
invariant-loop-rest l = value_of l.verb l.name l.options ≡ value_of l.verb l.name l.rest

abbrev pub decreases-loop-rest : goal.decreases-loop-rest
decreases-loop-rest l = length l.rest
