-- Results by cases, and the causes of printing.
use Rattle.std.proofs.Common.{◌≡◌, true, Result, Ok, Err, OnErr, refl}
use Rattle.std.proofs.lemmas.Bool.{false≢true}
use Rattle.pme_base.specs.declared.refusal.Cause.{Cause}
use Rattle.pme_base.specs.declared.refusal.Cause.TheVariants.{OutOfMemory, WriteFault}
use Rattle.pme_base.specs.Refusals.{is_free}
use Rattle.command_parts.specs.Printing.{is_printing_cause}

pub on_err : {T E P Q : Type 0} (r : Result T E) → (P → Q) → OnErr r P → OnErr r Q
on_err (Ok x) f h = tt
on_err (Err e) f h = f h

-- a cause of printing is possible at any step
pub printing_is_free : (cause : Cause) → is_printing_cause cause ≡ true → is_free cause ≡ true
printing_is_free WriteFault h = refl
printing_is_free OutOfMemory h = refl
printing_is_free _ h = absurd (false≢true h)
