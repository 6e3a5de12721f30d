use Rattle.std.proofs.Common.{◌≡◌, length}
use Rattle.std.specs.FinSet as set
use Rattle.footer_rules.specs.FileRules as rules
use Rattle.footer_rules.proofs.Lists.{onto}
use Rattle.footer_rules.proofs.column_rules.columns_of.Given as goal

abbrev pub invariant-loop-element : goal.invariant-loop-element
invariant-loop-element l =
    (onto l.columns (rules.columns_of l.place l.earlier l.rest) ≡ rules.columns_of l.place set.empty l.fn.elements)

abbrev pub decreases-loop-element : goal.decreases-loop-element
decreases-loop-element l = length l.rest
