use Rattle.read_commands.proofs.Openings.{opened_told, unopened_told}
use Rattle.read_commands.proofs.module_command.open_file.Goals as goal

pub returns-in-Ok-clause-answer : goal.returns-in-Ok-clause-answer
returns-in-Ok-clause-answer g c = opened_told _ _ _ _ _ _ c.in-Ok.ensures.answer c.open_buffer.ensures.answer

pub returns-in-Err-clause-answer : goal.returns-in-Err-clause-answer
returns-in-Err-clause-answer g c = unopened_told _ _ _ _ _ c.in-Err.ensures.answer
