use Rattle.std.proofs.Common.{◌≡◌, ◌∷◌, [], ◌++◌, length}
use Rattle.std.specs.List.{flat_map}
use Rattle.footer_rules.specs.FileRules as rules
use Rattle.footer_rules.proofs.group_rules.path_text.Given as goal

abbrev pub invariant-loop-rest : goal.invariant-loop-rest
invariant-loop-rest l = (l.text ++ flat_map (λ part. (46 ∷ []) ++ part) l.rest ≡ rules.path_text l.path)

abbrev pub decreases-loop-rest : goal.decreases-loop-rest
decreases-loop-rest l = length l.rest
