use Rattle.std.proofs.Common.{◌≡◌}
use Rattle.json_text.specs.View.{members_view}
use Rattle.json_text.specs.Members.{each_member, onto}
use Rattle.key_rights.specs.KeysFile.{key_of_member}
use Rattle.key_rights.proofs.id_keys.keys_of_members.Given as goal

abbrev pub invariant-loop-id : goal.invariant-loop-id
invariant-loop-id l = each_member key_of_member (members_view l.members.entries) ≡ onto l.keys (each_member key_of_member (members_view l.id-iterator))
