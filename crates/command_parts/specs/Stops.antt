-- Why a command stopped: a refusal, and the name of the file that it is about.
use Rattle.std.specs.Prelude.{◌≡◌, ℕ, Bool, false, List, [], Result, Ok, Err, IfErr}
use Rattle.pme_base.specs.declared.refusal.Cause.{Cause}
use Rattle.pme_base.specs.declared.refusal.Refusal.{Refusal}
use Rattle.pme_base.specs.Refusals.{plain_refusal, is_free}
use Rattle.refusal_lines.specs.declared.cause_table.LineForm.{LineForm}
use Rattle.refusal_lines.specs.declared.cause_table.LineForm.TheVariants as form
use Rattle.refusal_lines.specs.CauseRows.{line_form}
use Rattle.command_parts.specs.declared.stop.Stop.{Stop}

-- the name of the file, if a line of this form names it
abbrev pub subject_by : LineForm → List ℕ → List ℕ
subject_by form.Place name = name
subject_by form.File name = name
subject_by form.Bare name = []

abbrev pub stop_of : Refusal → List ℕ → Stop
stop_of refusal name = record { refusal = refusal; subject = subject_by (line_form refusal.cause) name }

-- the stop of a cause without a file, a place or values
abbrev pub plain_stop : Cause → Stop
plain_stop cause = record { refusal = plain_refusal cause; subject = [] }

-- a result whose refusal is about the file of this name
abbrev pub about : {T : Type 0} → List ℕ → Result T Refusal → Result T Stop
about name (Ok x) = Ok x
about name (Err refusal) = Err (stop_of refusal name)

-- a stop about the file of this name
abbrev pub IsAboutFile : List ℕ → Stop → Type 0
IsAboutFile name stop = stop.subject ≡ subject_by (line_form stop.refusal.cause) name

-- a stop whose line names no file has no subject
abbrev pub IsAboutItsFile : Stop → Type 0
IsAboutItsFile stop = line_form stop.refusal.cause ≡ form.Bare → stop.subject ≡ []

abbrev pub StopsAbout : {T : Type 0} → Result T Stop → Type 0
StopsAbout outcome = IfErr outcome IsAboutItsFile

-- whether a command stopped for a cause that is possible at any step
abbrev pub is_free_outcome : {T : Type 0} → Result T Stop → Bool
is_free_outcome (Ok _) = false
is_free_outcome (Err stop) = is_free stop.refusal.cause

-- the result is the defined one, unless the command stopped for such a cause
abbrev pub EndsAs : {T : Type 0} → Result T Stop → Result T Stop → Type 0
EndsAs outcome defined = is_free_outcome outcome ≡ false → outcome ≡ defined
