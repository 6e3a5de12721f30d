use Rattle.std.proofs.Common.{◌≡◌, ◌++◌, length}
use Rattle.read_commands.specs.TailText.{column_lines}
use Rattle.read_commands.proofs.tail_text.push_columns.Given as goal

-- the text so far, followed by the lines of the remaining columns, is the whole text
abbrev pub invariant-loop-rest : goal.invariant-loop-rest
invariant-loop-rest l = l.text ++ column_lines l.rest ≡ l.fn.text ++ column_lines l.columns

abbrev pub decreases-loop-rest : goal.decreases-loop-rest
decreases-loop-rest l = length l.rest
