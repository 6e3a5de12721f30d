use Rattle.std.proofs.Common.{◌≡◌, length}
use Rattle.footer_rules.specs.FileRules as rules
use Rattle.footer_rules.proofs.Lists.{onto}
use Rattle.footer_rules.proofs.group_rules.chunks_of.Given as goal

abbrev pub invariant-loop-columns : goal.invariant-loop-columns
invariant-loop-columns l =
    (onto l.list (rules.chunks_of l.place l.columns l.rest) ≡ rules.chunks_of l.place l.fn.columns l.fn.chunks)

abbrev pub decreases-loop-columns : goal.decreases-loop-columns
decreases-loop-columns l = length l.columns
