-- Writing as steps on a draft, the output made so far: a step returns the next draft or a refusal. Contracts have the
-- draft before and after a call as options, which are None where contracts don't see the files or the random bytes.
use Rattle.std.specs.Prelude.{◌≡◌, ℕ, zero, suc, ◌+◌, false, Option, option_map, Result, Ok, Err, OnOk, IfOk, IfErr}
use Rattle.pme_base.specs.declared.refusal.Refusal.{Refusal}
use Rattle.pme_base.specs.Refusals.{is_free}
use Rattle.pme_base.specs.Steps.{◌>>=◌}

-- one step after another; the first refusal ends the chain
abbrev pub chain : {S : Type 0} → (S → Result S Refusal) → (S → Result S Refusal) → S → Result S Refusal
chain first next draft = first draft >>= next

-- a step for each of `count` consecutive numbers
abbrev pub each : {S : Type 0} → (ℕ → S → Result S Refusal) → ℕ → ℕ → S → Result S Refusal
each step zero number draft = Ok draft
each step (suc count) number draft = step number draft >>= each step count (number + 1)

-- a call carries out a step: it makes the next draft, or is refused as the step is
pub record Stepped {S T : Type 0} (step : S → Result S Refusal) (before after : Option S) (result : Result T Refusal) : Type 0 where
  pub ok : OnOk result (option_map step before ≡ option_map Ok after)
  pub err : IfErr result (λ refusal. is_free refusal.cause ≡ false → option_map step before ≡ option_map (λ _. Err refusal) before)

-- a call carries out a step that also returns a value
pub record Gives {S A : Type 0} (step : S → Result (A × S) Refusal) (before after : Option S) (result : Result A Refusal) : Type 0 where
  pub ok : IfOk result (λ value. option_map step before ≡ option_map (λ draft. Ok (value, draft)) after)
  pub err : IfErr result (λ refusal. is_free refusal.cause ≡ false → option_map step before ≡ option_map (λ _. Err refusal) before)
