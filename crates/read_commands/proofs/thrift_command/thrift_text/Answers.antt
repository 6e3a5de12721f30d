use Rattle.read_commands.proofs.Structs.{file_text}
use Rattle.read_commands.proofs.thrift_command.thrift_text.Goals as goal

pub returns-in-Ok-clause-held : goal.returns-in-Ok-clause-held
returns-in-Ok-clause-held g c = file_text _ _ _ _ c.in-Ok.ensures.answer (rw c.as_slice.ensures at c.struct_text.ensures.held)
