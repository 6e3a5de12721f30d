use Rattle.std.proofs.Common.{◌≡◌, length}
use Rattle.command_line.specs.Options.{are_options}
use Rattle.command_line.proofs.options.are_options.Given as goal

-- the answer for all words is the answer for the remaining words
abbrev pub invariant-loop-rest : goal.invariant-loop-rest
invariant-loop-rest l = are_options l.verb l.options ≡ are_options l.verb l.rest

abbrev pub decreases-loop-rest : goal.decreases-loop-rest
decreases-loop-rest l = length l.rest
