use Rattle.std.proofs.Common.{◌≡◌, ◌+◌, ◌*◌, ◌^◌, ◌≤◌, length, pos, ◌+ℤ◌}
use Rattle.footer_rules.specs.FileRules as rules
use Rattle.footer_rules.proofs.group_rules.all_rows.Given as goal

abbrev pub invariant-loop-rest : goal.invariant-loop-rest
invariant-loop-rest l =
    (pos l.sum +ℤ rules.all_rows l.rest ≡ rules.all_rows l.groups) × rules.NoneNegative l.rest
    × (l.sum + 2 ^ 63 * length l.rest ≤ 2 ^ 63 * length l.groups)

abbrev pub decreases-loop-rest : goal.decreases-loop-rest
decreases-loop-rest l = length l.rest
