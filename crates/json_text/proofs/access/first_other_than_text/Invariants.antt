use Rattle.std.proofs.Common.{◌≡◌}
use Rattle.serde_json.specs.View.{members_view}
use Rattle.json_text.specs.Members.{first_bad, is_text}
use Rattle.json_text.proofs.access.first_other_than_text.Given as goal

abbrev pub invariant-loop-name : goal.invariant-loop-name
invariant-loop-name l = first_bad is_text (members_view l.members.entries) ≡ first_bad is_text (members_view l.name-iterator)
