-- The state of the objects outside at one moment, and what every run guarantees between two such moments.
use Rattle.std.specs.Prelude.{◌≡◌, ◌⊎◌, ℕ, ◌≤◌, List, Option, Result, IfErr}
use Rattle.pme_base.specs.declared.refusal.Cause.TheVariants as cause_of
use Rattle.pme_base.specs.Outside.{Published, followed_by}
use Rattle.pme_base.specs.Counts.{Rose}
use Rattle.command_parts.specs.declared.stop.Stop.{Stop}
use Rattle.command_parts.specs.Stops.{StopsAbout}

-- the files: those that are published, the number of bytes given so far, and the number of failed calls
pub record FilesState : Type 0 where
  pub published : Option Published
  pub given : ℕ
  pub faults : ℕ

-- the source of random bytes
pub record RandomState : Type 0 where
  pub to_come : Option (List ℕ)
  pub faults : ℕ

-- a sink
pub record SinkState : Type 0 where
  pub written : Option (List ℕ)
  pub faults : ℕ

pub record World : Type 0 where
  pub files : FilesState
  pub random : RandomState
  pub out : SinkState
  pub err : SinkState

abbrev pub files_state : {S : Type 0} → (S → Option Published) → (S → ℕ) → (S → ℕ) → S → FilesState
files_state published given faults files = record { published = published files; given = given files; faults = faults files }

abbrev pub random_state : {S : Type 0} → (S → Option (List ℕ)) → (S → ℕ) → S → RandomState
random_state to_come faults random = record { to_come = to_come random; faults = faults random }

abbrev pub sink_state : {S : Type 0} → (S → Option (List ℕ)) → (S → ℕ) → S → SinkState
sink_state written faults sink = record { written = written sink; faults = faults sink }

-- the state of the four objects
abbrev pub world_of : {F N O E : Type 0} → (F → Option Published) → (F → ℕ) → (F → ℕ) → (N → Option (List ℕ)) → (N → ℕ)
    → (O → Option (List ℕ)) → (O → ℕ) → (E → Option (List ℕ)) → (E → ℕ) → F → N → O → E → World
world_of published given file_faults to_come random_faults out out_faults err err_faults f n o e = record {
  files = files_state published given file_faults f;
  random = random_state to_come random_faults n;
  out = sink_state out out_faults o;
  err = sink_state err err_faults e;
}

-- the state of files and a sink, beside a random source and an error stream in the given states
abbrev pub world_with : {F O : Type 0} → RandomState → SinkState → (F → Option Published) → (F → ℕ) → (F → ℕ)
    → (O → Option (List ℕ)) → (O → ℕ) → F → O → World
world_with random err published given file_faults out out_faults f o = record {
  files = files_state published given file_faults f;
  random = random;
  out = sink_state out out_faults o;
  err = err;
}

-- a call of the files or of the output failed
abbrev pub Faulted : World → World → Type 0
Faulted old new = Rose old.files.faults new.files.faults ⊎ Rose old.out.faults new.out.faults

-- nothing was published, drawn, or written to the error text
pub record ReadsOnly (old new : World) : Type 0 where
  pub published : new.files.published ≡ old.files.published
  pub random : new.random ≡ old.random
  pub err : new.err ≡ old.err

-- bytes were appended to what was written before
pub record Appended (before after : Option (List ℕ)) : Type 0 where
  pub more : List ℕ
  pub is : after ≡ followed_by more before

-- ReadFault comes only where the number of failed calls of the files rose
pub record StopsReading {T : Type 0} (before now : ℕ) (outcome : Result T Stop) : Type 0 where
  pub later : before ≤ now
  pub failed : IfErr outcome (λ stop. stop.refusal.cause ≡ cause_of.ReadFault → Rose before now)

-- WriteFault comes only where the number of failed calls of this sink rose
pub record StopsWriting (before now : ℕ) (outcome : Result Unit Stop) : Type 0 where
  pub later : before ≤ now
  pub failed : IfErr outcome (λ stop. stop.refusal.cause ≡ cause_of.WriteFault → Rose before now)

-- WriteFault comes only where the number of failed calls of the files or of a sink rose
pub record StopsPutting (old new : World) (outcome : Result Unit Stop) : Type 0 where
  pub out_later : old.out.faults ≤ new.out.faults
  pub err_later : old.err.faults ≤ new.err.faults
  pub failed : IfErr outcome (λ stop. stop.refusal.cause ≡ cause_of.WriteFault → Faulted old new ⊎ Rose old.err.faults new.err.faults)

-- RandomFault comes only where the number of failed calls of the source rose
pub record StopsDrawing (before now : RandomState) (outcome : Result Unit Stop) : Type 0 where
  pub later : before.faults ≤ now.faults
  pub failed : IfErr outcome (λ stop. stop.refusal.cause ≡ cause_of.RandomFault → Rose before.faults now.faults)

-- what every run guarantees, whatever its command
pub record EveryRun (old new : World) (outcome : Result Unit Stop) : Type 0 where
  pub reads : StopsReading old.files.faults new.files.faults outcome
  pub writes : StopsPutting old new outcome
  pub draws : StopsDrawing old.random new.random outcome
  -- no command asks a key service
  pub service : IfErr outcome (λ stop. stop.refusal.cause ≡ cause_of.ServiceFault → ⊥)
  pub subject : StopsAbout outcome
  pub appended : Appended old.out.written new.out.written
