use Rattle.std.proofs.Common.{◌≡◌, length}
use Rattle.command_line.specs.Options.{has_flag}
use Rattle.command_line.proofs.options.has_flag.Given as goal

-- the answer for all words is the answer for the remaining words
abbrev pub invariant-loop-rest : goal.invariant-loop-rest
invariant-loop-rest l = has_flag l.verb l.name l.options ≡ has_flag l.verb l.name l.rest

abbrev pub decreases-loop-rest : goal.decreases-loop-rest
decreases-loop-rest l = length l.rest
