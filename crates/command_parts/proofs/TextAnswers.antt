-- The outcomes of a command that prints one text: there was no text, it was printed, or printing it failed.
use Rattle.std.specs.Prelude.{IfErr, ◌||◌}
use Rattle.std.proofs.Common.{◌≡◌, ℕ, Bool, true, false, List, Option, Some, None, IfSome, Result, Ok, Err, refl, sym, ◌∙◌, ap, inl, inr, ◌⊎◌, subst}
use Rattle.std.proofs.lemmas.Bool.{false≢true}
use Rattle.pme_base.specs.declared.refusal.Cause.{Cause}
use Rattle.pme_base.specs.declared.refusal.Cause.TheVariants.{OutOfMemory, ReadFault, WriteFault, RandomFault, ServiceFault}
use Rattle.pme_base.specs.Causes.{either}
use Rattle.pme_base.specs.Outside.{Published, followed_by, PutsFront}
use Rattle.pme_base.specs.Refusals.{is_free}
use Rattle.pme_base.specs.Counts.{Rose}
use Rattle.command_parts.specs.declared.stop.Stop.{Stop}
use Rattle.command_parts.specs.Stops.{EndsAs, IsAboutFile, plain_stop}
use Rattle.command_parts.specs.World.{StopsReading, StopsWriting}
use Rattle.command_parts.specs.Printing.{is_printing_cause}
use Rattle.command_parts.specs.TextCommand.{TextAnswered, TextCompletes, Printed, PrintsFront, IsTextStop, StoppedBy, ended}
use Rattle.command_parts.proofs.Cases.{printing_is_free}
use Rattle.command_parts.proofs.Prints.{puts_nothing}

prints_nothing : (text : Result (List ℕ) Stop) (out : Option (List ℕ)) → PrintsFront text out out
prints_nothing (Ok t) out = puts_nothing t out
prints_nothing (Err stop) out = refl

-- there was no text
pub no_text : (text : Published → Result (List ℕ) Stop) (published : Option Published) (out : Option (List ℕ)) (stop : Stop)
    → IfSome published (λ files. EndsAs {T = List ℕ} (Err stop) (text files))
    → TextAnswered text published out out (Err stop)
no_text text None out stop h = record { answer = tt; printed = tt; kept = λ _. refl; part = tt }
no_text text (Some files) out stop h = record {
  answer = λ free. ap ended (h free);
  printed = tt;
  kept = λ _. refl;
  part = prints_nothing (text files) out;
}

-- the text was printed
pub text_printed : (text : Published → Result (List ℕ) Stop) (published : Option Published) (before after : Option (List ℕ)) (t : List ℕ)
    → IfSome published (λ files. EndsAs (Ok t) (text files))
    → after ≡ followed_by t before
    → TextAnswered text published before after (Ok tt)
text_printed text None before after t h e = record { answer = tt; printed = tt; kept = tt; part = tt }
text_printed text (Some files) before after t h e = record {
  answer = λ free. ap ended (h refl);
  printed = subst (λ (r : Result (List ℕ) Stop). Printed r before after) (h refl) e;
  kept = tt;
  part = tt;
}

-- printing the text failed
pub text_unprinted : (text : Published → Result (List ℕ) Stop) (published : Option Published) (before after : Option (List ℕ)) (t : List ℕ) (stop : Stop)
    → IfSome published (λ files. EndsAs (Ok t) (text files))
    → is_printing_cause stop.refusal.cause ≡ true
    → PutsFront t before after
    → TextAnswered text published before after (Err stop)
text_unprinted text None before after t stop h printing part = record {
  answer = tt;
  printed = tt;
  kept = λ other. absurd (false≢true (sym other ∙ printing));
  part = tt;
}
text_unprinted text (Some files) before after t stop h printing part = record {
  answer = λ free. absurd (false≢true (sym free ∙ printing_is_free stop.refusal.cause printing));
  printed = tt;
  kept = λ other. absurd (false≢true (sym other ∙ printing));
  part = subst (λ (r : Result (List ℕ) Stop). PrintsFront r before after) (h refl) part;
}

-- of the causes that are possible at any step, a command that draws nothing and asks no service has ReadFault, WriteFault
-- and OutOfMemory
free_cause : (is_cause : Cause → Bool) → is_cause RandomFault ≡ false → is_cause ServiceFault ≡ false → (cause : Cause) → is_free cause ≡ true
    → either is_cause is_printing_cause cause ≡ true → (cause ≡ ReadFault → ⊥) → (cause ≡ WriteFault → ⊥) → cause ≡ OutOfMemory
free_cause is_cause random service OutOfMemory f m r w = refl
free_cause is_cause random service ReadFault f m r w = absurd (r refl)
free_cause is_cause random service WriteFault f m r w = absurd (w refl)
free_cause is_cause random service RandomFault f m r w = absurd (false≢true (sym (ap (λ b. b || false) random) ∙ m))
free_cause is_cause random service ServiceFault f m r w = absurd (false≢true (sym (ap (λ b. b || false) service) ∙ m))
free_cause is_cause random service _ f m r w = absurd cc

-- where there is a text and no call outside failed, such a command succeeds or runs out of memory
pub text_completes : (text : Published → Result (List ℕ) Stop) (published : Option Published) (before after : Option (List ℕ)) (f g u v : ℕ) (outcome : Result Unit Stop)
    (is_cause : Cause → Bool) → is_cause RandomFault ≡ false → is_cause ServiceFault ≡ false → TextAnswered text published before after outcome → StopsReading f g outcome
    → StopsWriting u v outcome → StoppedBy (either is_cause is_printing_cause) outcome
    → TextCompletes text published (Rose f g ⊎ Rose u v) outcome
text_completes text None before after f g u v outcome is_cause random service a r w m = tt
text_completes text (Some files) before after f g u v (Ok _) is_cause random service a r w m = λ t there calm. tt
text_completes text (Some files) before after f g u v (Err stop) is_cause random service a r w m = λ t there calm.
    free_cause is_cause random service stop.refusal.cause (must_be_free (is_free stop.refusal.cause) refl t there) m (λ e. calm (inl (r.failed e))) (λ e. calm (inr (w.failed e)))
  where
    must_be_free : (b : Bool) → is_free stop.refusal.cause ≡ b → (t : List ℕ) → text files ≡ Ok t → is_free stop.refusal.cause ≡ true
    must_be_free true e t there = e
    must_be_free false e t there = let same : Err stop ≡ Ok tt = a.answer e ∙ ap ended there in cc

-- if `P` holds for the stop in place of the text, and for each stop of printing, it holds for the command's stop
pub text_stops : (P : Stop → Type 0) → ((cause : Cause) → is_printing_cause cause ≡ true → P (plain_stop cause)) → (text : Result (List ℕ) Stop) (outcome : Result Unit Stop)
    → IfErr text P → IfErr outcome (IsTextStop text) → IfErr outcome P
text_stops P printing text (Ok _) there stops = tt
text_stops P printing text (Err stop) there (inl same) = subst (λ (r : Result (List ℕ) Stop). IfErr r P) same there
text_stops P printing text (Err stop) there (inr (cause, is)) = subst P (sym is) (printing stop.refusal.cause cause)

-- a stop of printing is about no file
pub plain_about : (name : List ℕ) (cause : Cause) → is_printing_cause cause ≡ true → IsAboutFile name (plain_stop cause)
plain_about name WriteFault h = refl
plain_about name OutOfMemory h = refl
plain_about name _ h = absurd (false≢true h)
