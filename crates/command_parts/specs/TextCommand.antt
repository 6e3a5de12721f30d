-- A command that prints one text, which its input files define. It prints the whole text, or stops because there is no
-- text, or because printing failed.
use Rattle.std.specs.Prelude.{◌≡◌, ◌⊎◌, ℕ, ◌+◌, ◌≤◌, Bool, true, false, List, Option, IfSome, Result, Ok, Err, OnOk, OnErr, IfErr, IsOkAnd}
use Rattle.pme_base.specs.declared.refusal.Cause.{Cause}
use Rattle.pme_base.specs.declared.refusal.Cause.TheVariants.{WriteFault, OutOfMemory}
use Rattle.pme_base.specs.declared.refusal.Refusal.{Refusal}
use Rattle.pme_base.specs.Causes.{either}
use Rattle.pme_base.specs.Outside.{Published, followed_by, PutsFront}
use Rattle.pme_base.specs.Steps.{Answers}
use Rattle.command_parts.specs.declared.stop.Stop.{Stop}
use Rattle.command_parts.specs.Stops.{EndsAs, plain_stop}
use Rattle.command_parts.specs.World.{World, ReadsOnly, StopsWriting, EveryRun}
use Rattle.command_parts.specs.Printing.{is_printing_cause}

-- the outcome of the command: success where there is a text, else the stop that comes in its place
abbrev pub ended : Result (List ℕ) Stop → Result Unit Stop
ended (Ok text) = Ok tt
ended (Err stop) = Err stop

-- the result is the text that the published files define
abbrev pub AnswersText : Result (List ℕ) Refusal → (Published → Result (List ℕ) Refusal) → Option Published → Type 0
AnswersText result text published = IfSome published (λ files. Answers result (text files))

-- likewise, for a result whose refusals name their file
abbrev pub GivesText : Result (List ℕ) Stop → (Published → Result (List ℕ) Stop) → Option Published → Type 0
GivesText result text published = IfSome published (λ files. EndsAs result (text files))

-- the text was appended to the output
abbrev pub Printed : Result (List ℕ) Stop → Option (List ℕ) → Option (List ℕ) → Type 0
Printed text before after = IsOkAnd text (λ t. after ≡ followed_by t before)

-- a prefix of the text was printed; nothing, if there is no text
abbrev pub PrintsFront : Result (List ℕ) Stop → Option (List ℕ) → Option (List ℕ) → Type 0
PrintsFront (Ok text) before after = PutsFront text before after
PrintsFront (Err stop) before after = after ≡ before

-- the outcome and the output of such a command, by the published files
pub record TextAnswered (text : Published → Result (List ℕ) Stop) (published : Option Published) (before after : Option (List ℕ)) (outcome : Result Unit Stop) : Type 0 where
  -- the outcome is the defined one, unless a call outside or an allocation failed
  pub answer : IfSome published (λ files. EndsAs outcome (ended (text files)))
  pub printed : OnOk outcome (IfSome published (λ files. Printed (text files) before after))
  -- a refusal prints nothing, or a prefix of the text where printing failed
  pub kept : IfErr outcome (λ stop. is_printing_cause stop.refusal.cause ≡ false → after ≡ before)
  pub part : OnErr outcome (IfSome published (λ files. PrintsFront (text files) before after))

-- if there is a text and no call outside fails, the command succeeds or runs out of memory
abbrev pub TextCompletes : (Published → Result (List ℕ) Stop) → Option Published → Type 0 → Result Unit Stop → Type 0
TextCompletes text published Fault outcome =
    IfSome published (λ files. (t : List ℕ) → text files ≡ Ok t → ¬ Fault → IfErr outcome (λ stop. stop.refusal.cause ≡ OutOfMemory))

-- a stop of the command has one of these causes
abbrev pub StoppedBy : {T : Type 0} → (Cause → Bool) → Result T Stop → Type 0
StoppedBy is_cause result = IfErr result (λ stop. is_cause stop.refusal.cause ≡ true)

-- no stop in place of the text is a WriteFault
abbrev pub IsQuietWriter : {T : Type 0} → Result T Stop → Type 0
IsQuietWriter text = IfErr text (λ stop. stop.refusal.cause ≡ WriteFault → ⊥)

-- a stop of such a command: the one that came in place of the text, or that of a cause of printing
abbrev pub IsTextStop : Result (List ℕ) Stop → Stop → Type 0
IsTextStop text stop = (text ≡ Err stop) ⊎ ((is_printing_cause stop.refusal.cause ≡ true) × (stop ≡ plain_stop stop.refusal.cause))

-- what such a command guarantees, whose text can't be made for one of the causes `is_cause`: its outcome and output, its
-- causes, and that it reads at most `most` bytes and changes nothing but the output
pub record TextGuarantees (text : Published → Result (List ℕ) Stop) (is_cause : Cause → Bool) (most : ℕ) (old new : World) (outcome : Result Unit Stop) : Type 0 where
  pub answered : TextAnswered text old.files.published old.out.written new.out.written outcome
  pub causes : StoppedBy (either is_cause is_printing_cause) outcome
  pub writes : StopsWriting old.out.faults new.out.faults outcome
  pub given : new.files.given ≤ old.files.given + most
  pub reads_only : ReadsOnly old new
  pub every : EveryRun old new outcome
