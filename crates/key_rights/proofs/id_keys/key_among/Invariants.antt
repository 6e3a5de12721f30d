use Rattle.std.proofs.Common.{◌≡◌, drop}
use Rattle.key_rights.specs.KeysFile.{key_by_id}
use Rattle.key_rights.proofs.id_keys.key_among.Given as goal

abbrev pub invariant-loop-entry : goal.invariant-loop-entry
invariant-loop-entry l = key_by_id l.keys l.id ≡ key_by_id (drop l.entry-index l.keys) l.id
