use Rattle.std.proofs.Common.{◌∙◌}
use Rattle.read_commands.proofs.Structs.{held_text}
use Rattle.read_commands.proofs.thrift_command.struct_text.Goals as goal

pub returns-in-Ok-tree_text-clause-held : goal.returns-in-Ok-tree_text-clause-held
returns-in-Ok-tree_text-clause-held c =
    let held = held_text _ _ _ c.in-Ok.ensures.within c.in-Ok.ensures.found in
    (held.0, c.in-Ok-tree_text.ensures ∙ held.1)
