use Rattle.std.proofs.Common.{◌≡◌}
use Rattle.json_text.specs.View.{members_view}
use Rattle.json_text.specs.Members.{first_bad}
use Rattle.key_material.specs.PolicyText.{is_good}
use Rattle.key_material.proofs.policy.first_bad_name.Given as goal

abbrev pub invariant-loop-name : goal.invariant-loop-name
invariant-loop-name l = first_bad (is_good l.uniform) (members_view l.members.entries) ≡ first_bad (is_good l.uniform) (members_view l.name-iterator)
