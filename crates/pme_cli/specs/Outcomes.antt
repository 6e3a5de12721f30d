-- How a run ends, and the last line of the error text.
use Rattle.std.specs.Prelude.{ℕ, List, [], Option, Some, None, Result, Ok, Err}
use Rattle.pme_base.specs.declared.refusal.Refusal.{Refusal}
use Rattle.refusal_lines.specs.CauseRows.{status_number}
use Rattle.refusal_lines.specs.RefusalText.{refusal_line}
use Rattle.command_parts.specs.declared.stop.Stop.{Stop}

-- the outcome of the command, by the refusal and the subject of a status
abbrev pub outcome_of : Option Refusal → List ℕ → Result Unit Stop
outcome_of None subject = Ok tt
outcome_of (Some refusal) subject = Err (record { refusal = refusal; subject = subject })

-- the exit status
abbrev pub number_of : Option Refusal → ℕ
number_of None = 0
number_of (Some refusal) = status_number refusal.cause

-- the last line of the error text: none, or the line of the refusal
abbrev pub last_line : Result Unit Stop → List ℕ
last_line (Ok _) = []
last_line (Err stop) = refusal_line stop.refusal stop.subject
