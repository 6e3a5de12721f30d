-- The result of a step: the defined one, or a refusal that no definition ties to the input.
use Rattle.std.specs.Prelude.{◌≡◌, ℕ, ◌≤◌, Bool, false, Result, Ok, Err, IfErr}
use Rattle.pme_base.specs.declared.refusal.Cause.{Cause}
use Rattle.pme_base.specs.declared.refusal.Cause.TheVariants as cause_of
use Rattle.pme_base.specs.declared.refusal.Refusal.{Refusal}
use Rattle.pme_base.specs.Refusals.{is_free, is_fault}
use Rattle.pme_base.specs.Counts.{Rose}

-- whether a result is a refusal whose cause is possible at any step
abbrev pub is_free_result : {T : Type 0} → Result T Refusal → Bool
is_free_result (Ok _) = false
is_free_result (Err refusal) = is_free refusal.cause

-- the result is the defined one, unless it is a refusal whose cause is possible at any step
abbrev pub Answers : {T : Type 0} → Result T Refusal → Result T Refusal → Type 0
Answers result defined = is_free_result result ≡ false → result ≡ defined

-- one step after another: the first refusal ends it
infixl 10 ◌>>=◌
abbrev pub ◌>>=◌ : {S T E : Type 0} → Result S E → (S → Result T E) → Result T E
(Ok x) >>= next = next x
(Err refusal) >>= next = Err refusal

-- a check before another step
abbrev pub and_then : {S T E : Type 0} → Result S E → Result T E → Result T E
and_then (Ok x) next = next
and_then (Err refusal) next = Err refusal

-- no refusal of this step is a fault outside
abbrev pub Quiet : {T : Type 0} → Result T Refusal → Type 0
Quiet result = IfErr result (λ refusal. is_fault refusal.cause ≡ false)

-- the number of failed calls never falls, and a step is refused with this cause only where it rose
pub record Fails {T : Type 0} (cause : Cause) (before now : ℕ) (result : Result T Refusal) : Type 0 where
  pub later : before ≤ now
  pub failed : IfErr result (λ refusal. refusal.cause ≡ cause → Rose before now)

-- ReadFault by files that are read; WriteFault by a sink or by files that are written; RandomFault by a source of random bytes
abbrev pub ReadsFail : {T : Type 0} → ℕ → ℕ → Result T Refusal → Type 0
ReadsFail before now result = Fails cause_of.ReadFault before now result

abbrev pub WritesFail : {T : Type 0} → ℕ → ℕ → Result T Refusal → Type 0
WritesFail before now result = Fails cause_of.WriteFault before now result

abbrev pub DrawsFail : {T : Type 0} → ℕ → ℕ → Result T Refusal → Type 0
DrawsFail before now result = Fails cause_of.RandomFault before now result
