-- The causes with which a call can end.
use Rattle.std.specs.Prelude.{◌≡◌, Bool, true, ◌||◌, Result, IfErr}
use Rattle.pme_base.specs.declared.refusal.Cause.{Cause}
use Rattle.pme_base.specs.declared.refusal.Refusal.{Refusal}

-- a refusal of the call has one of these causes
abbrev pub CausedBy : {T : Type 0} → (Cause → Bool) → Result T Refusal → Type 0
CausedBy is_cause result = IfErr result (λ refusal. is_cause refusal.cause ≡ true)

-- the causes of two steps together
abbrev pub either : (Cause → Bool) → (Cause → Bool) → Cause → Bool
either first second cause = first cause || second cause
