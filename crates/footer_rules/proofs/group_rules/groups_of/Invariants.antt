use Rattle.std.proofs.Common.{◌≡◌, ◌+◌, length}
use Rattle.footer_rules.specs.FileRules as rules
use Rattle.footer_rules.proofs.Lists.{onto}
use Rattle.footer_rules.proofs.group_rules.groups_of.Given as goal

abbrev pub invariant-loop-group : goal.invariant-loop-group
invariant-loop-group l =
    (onto l.list (rules.groups_of l.place l.columns l.position l.rest) ≡ rules.groups_of l.place l.fn.columns 0 l.fn.groups)
    × rules.NoneNegative l.list × (l.position + length l.rest ≡ length l.fn.groups)

abbrev pub decreases-loop-group : goal.decreases-loop-group
decreases-loop-group l = length l.rest
