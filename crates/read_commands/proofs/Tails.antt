-- The outcomes of `footer`: its text is the text of the tail that was read with the keys of the keys file.
use Rattle.std.proofs.Common.{◌≡◌, ℕ, ◌≤◌, true, false, List, Option, Some, None, IfSome, Result, Ok, Err, OnOk, refl, sym, subst, ◌∙◌, ap, inl, inr, arith, length}
use Rattle.std.proofs.lemmas.Bool.{false≢true}
use Rattle.std.specs.Prelude.{IfErr, nat_lt}
use Rattle.std.specs.FinMap.{get}
use Rattle.pme_base.specs.declared.refusal.Cause.{Cause}
use Rattle.pme_base.specs.declared.refusal.Cause.TheVariants.{BadKeys, NoFile, TooLarge, OutOfMemory, ReadFault, WriteFault}
use Rattle.pme_base.specs.declared.refusal.Refusal.{Refusal}
use Rattle.pme_base.specs.Outside.{Published, HoldBytes, followed_by}
use Rattle.pme_base.specs.Causes.{CausedBy}
use Rattle.pme_base.specs.Steps.{◌>>=◌, Answers}
use Rattle.command_line.specs.declared.command.FooterArgs.{FooterArgs}
use Rattle.key_rights.specs.declared.id_key.IdKey.{IdKey}
use Rattle.key_rights.specs.KeysFile.{keys_of_file, answer_by_id}
use Rattle.footer_modes.specs.declared.tail.Tail.{Tail}
use Rattle.footer_modes.specs.TailOf.{asks_of}
use Rattle.footer_modes.proofs.TailsLaid.{laid_if_read}
use Rattle.command_parts.specs.declared.stop.Stop.{Stop}
use Rattle.command_parts.specs.Stops.{subject_by, about, stop_of, plain_stop}
use Rattle.refusal_lines.specs.declared.cause_table.LineForm.TheVariants as form
use Rattle.refusal_lines.specs.CauseRows.{line_form}
use Rattle.command_parts.specs.Printing.{is_printing_cause}
use Rattle.command_parts.specs.SmallFile.{small_bytes, small_size}
use Rattle.command_parts.specs.KeysInput.{loaded_keys, keys_or_bad, is_keys_cause}
use Rattle.read_commands.specs.TailText.{tail_text}
use Rattle.command_parts.specs.TextCommand.{TextCompletes, GivesText, Printed, StoppedBy}
use Rattle.read_commands.specs.FooterCommand.{FooterDone, FooterCompletes, IsReadable, footer_text, tail_with, text_with, is_id_tail_cause, is_footer_cause, subject_for, IsAboutOneOf}

-- if the text was printed, it is the text of the tail that the file's bytes lay out
pub footer_done : (args : FooterArgs) (published : Option Published) (before after : Option (List ℕ)) (outcome : Result Unit Stop) → IfSome published HoldBytes
    → OnOk outcome (IfSome published (λ files. Printed (footer_text args files) before after))
    → OnOk outcome (IfSome published (λ files. FooterDone args files before after))
footer_done args published before after (Err stop) each printed = tt
footer_done args None before after (Ok _) each printed = tt
footer_done args (Some files) before after (Ok _) each printed = loaded (loaded_keys (get files args.keys)) refl printed
  where
    laid : (keys : List IdKey) → loaded_keys (get files args.keys) ≡ Ok keys → (tail : Tail) (file : Option (List ℕ)) → get files args.file ≡ file
        → tail_with keys args.prefix args.gcm_only file ≡ Ok tail → after ≡ followed_by (tail_text tail args.prefix) before → FooterDone args files before after
    laid keys there tail None is e p = absurd cc
    laid keys there tail (Some bytes) is e p = record {
      keys = keys;
      bytes = bytes;
      tail = tail;
      there = is;
      laid_out = laid_if_read (asks_of (answer_by_id keys) args.prefix args.gcm_only false) bytes tail (each args.file bytes is) e;
      loaded = there;
      read = ap (tail_with keys args.prefix args.gcm_only) is ∙ e;
      printed = p;
    }

    read : (keys : List IdKey) → loaded_keys (get files args.keys) ≡ Ok keys → (tail : Result Tail Refusal) → tail_with keys args.prefix args.gcm_only (get files args.file) ≡ tail
        → Printed (about args.file (tail >>= (λ t. Ok (tail_text t args.prefix)))) before after → FooterDone args files before after
    read keys there (Err refusal) e p = absurd p
    read keys there (Ok tail) e p = laid keys there tail (get files args.file) refl e p

    loaded : (keys : Result (List IdKey) Refusal) → loaded_keys (get files args.keys) ≡ keys
        → Printed (about args.keys keys >>= (λ k. about args.file (text_with k args.prefix args.gcm_only (get files args.file)))) before after
        → FooterDone args files before after
    loaded (Err refusal) e p = absurd p
    loaded (Ok keys) e p = read keys e (tail_with keys args.prefix args.gcm_only (get files args.file)) refl p

not_above : (n : ℕ) → n ≤ 16777216 → nat_lt 16777216 n ≡ false
not_above n h = grind arith

-- readable files have a text
readable_keys : (args : FooterArgs) (files : Published) (r : IsReadable args files) → loaded_keys (get files args.keys) ≡ Ok r.keys
readable_keys args files r =
    let small : small_size (length r.keys_bytes) ≡ Ok (length r.keys_bytes) = rw (not_above (length r.keys_bytes) r.small) refl in
    ap loaded_keys r.keys_there ∙ ap (λ size. size >>= (λ _. Ok r.keys_bytes) >>= (λ bytes. keys_or_bad (keys_of_file bytes))) small ∙ ap keys_or_bad r.valid

readable_text : (args : FooterArgs) (files : Published) (r : IsReadable args files) → footer_text args files ≡ Ok (tail_text r.tail args.prefix)
readable_text args files r =
    ap (λ keys. about args.keys keys >>= (λ k. about args.file (text_with k args.prefix args.gcm_only (get files args.file)))) (readable_keys args files r)
    ∙ ap (λ file. about args.file (text_with r.keys args.prefix args.gcm_only file)) r.there
    ∙ ap (λ tail. about args.file (tail >>= (λ t. Ok (tail_text t args.prefix)))) r.passes

pub footer_completes : (args : FooterArgs) (published : Option Published) (Fault : Type 0) (outcome : Result Unit Stop)
    → TextCompletes (footer_text args) published Fault outcome → FooterCompletes args published Fault outcome
footer_completes args None Fault outcome text = tt
footer_completes args (Some files) Fault outcome text = λ r. text (tail_text r.tail args.prefix) (readable_text args files r)

-- the text of the files, by the result of loading the keys
abbrev with_keys : FooterArgs → Published → Result (List IdKey) Refusal → Result (List ℕ) Stop
with_keys args files keys = about args.keys keys >>= (λ k. about args.file (text_with k args.prefix args.gcm_only (get files args.file)))

-- keys that were refused give no text
pub keys_refused : (args : FooterArgs) (published : Option Published) (refusal : Refusal)
    → IfSome published (λ files. Answers {T = List IdKey} (Err refusal) (loaded_keys (get files args.keys)))
    → GivesText (Err (stop_of refusal args.keys)) (footer_text args) published
keys_refused args None refusal h = tt
keys_refused args (Some files) refusal h = λ free. ap (with_keys args files) (h free)

-- keys that were loaded give the text of the tail that is read with them
pub keys_loaded : (args : FooterArgs) (published : Option Published) (keys : List IdKey) (text : Result (List ℕ) Stop)
    → IfSome published (λ files. Answers (Ok keys) (loaded_keys (get files args.keys)))
    → GivesText text (λ files. about args.file (text_with keys args.prefix args.gcm_only (get files args.file))) published
    → GivesText text (footer_text args) published
keys_loaded args None keys text h g = tt
keys_loaded args (Some files) keys text h g = λ free. g free ∙ ap (with_keys args files) (h refl)

-- keys that were loaded stand in a small input
small_loaded : (P : Type 0) (keys : List IdKey) (small : Result (List ℕ) Refusal) → Ok keys ≡ (small >>= (λ bytes. keys_or_bad (keys_of_file bytes))) → IfErr small (λ _. P)
small_loaded P keys (Ok bytes) e = tt
small_loaded P keys (Err refusal) e = absurd cc

pub none_unread : (P : Type 0) (name : List ℕ) (published : Option Published) (keys : List IdKey) → IfSome published (λ files. Answers (Ok keys) (loaded_keys (get files name)))
    → IfSome published (λ files. IfErr (small_bytes (get files name)) (λ _. P))
none_unread P name None keys h = tt
none_unread P name (Some files) keys h = small_loaded P keys (small_bytes (get files name)) (h refl)

-- keys that were loaded were not refused
not_refused : (P : Type 0) (keys : List IdKey) (loaded : Result (List IdKey) Refusal) → Ok keys ≡ loaded → IfErr loaded (λ _. P)
not_refused P keys (Ok k) e = tt
not_refused P keys (Err refusal) e = absurd cc

pub none_refused : (P : Type 0) (name : List ℕ) (published : Option Published) (keys : List IdKey) → IfSome published (λ files. Answers (Ok keys) (loaded_keys (get files name)))
    → IfSome published (λ files. IfErr (loaded_keys (get files name)) (λ _. P))
none_refused P name None keys h = tt
none_refused P name (Some files) keys h = not_refused P keys (loaded_keys (get files name)) (h refl)

-- a stop whose line names no file is about any file
bare_about : (cause : Cause) (a b : List ℕ) → line_form cause ≡ form.Bare → subject_by (line_form cause) a ≡ subject_by (line_form cause) b
bare_about cause a b e = ap (λ f. subject_by f a) e ∙ sym (ap (λ f. subject_by f b) e)

-- a refusal of the keys file is about that file
pub keys_named : (args : FooterArgs) (refusal : Refusal) → is_keys_cause refusal.cause ≡ true → IsAboutOneOf args (stop_of refusal args.keys)
keys_named args refusal h = by_cause refusal.cause refl h
  where
    by_cause : (c : Cause) → refusal.cause ≡ c → is_keys_cause c ≡ true → subject_for args c (stop_of refusal args.keys)
    by_cause BadKeys e h = refl
    by_cause NoFile e h = inl refl
    by_cause TooLarge e h = inl refl
    by_cause ReadFault e h = bare_about refusal.cause args.keys args.file (ap line_form e)
    by_cause OutOfMemory e h = bare_about refusal.cause args.keys args.file (ap line_form e)
    by_cause _ e h = absurd (false≢true h)

-- a stop in reading the tail is about the data file
pub tail_named : (args : FooterArgs) (text : Result (List ℕ) Refusal) (outcome : Result (List ℕ) Stop) → CausedBy is_id_tail_cause text
    → outcome ≡ about args.file text → IfErr outcome (IsAboutOneOf args)
tail_named args text outcome h e = subst (λ (r : Result (List ℕ) Stop). IfErr r (IsAboutOneOf args)) (sym e) (named text h)
  where
    by_cause : (refusal : Refusal) (c : Cause) → is_id_tail_cause c ≡ true → subject_for args c (stop_of refusal args.file)
    by_cause refusal BadKeys h = absurd (false≢true h)
    by_cause refusal NoFile h = inr refl
    by_cause refusal TooLarge h = inr refl
    by_cause refusal _ h = refl

    named : (text : Result (List ℕ) Refusal) → CausedBy is_id_tail_cause text → IfErr (about args.file text) (IsAboutOneOf args)
    named (Ok t) h = tt
    named (Err refusal) h = by_cause refusal refusal.cause h

-- a stop of printing is about no file
pub plain_named : (args : FooterArgs) (cause : Cause) → is_printing_cause cause ≡ true → IsAboutOneOf args (plain_stop cause)
plain_named args WriteFault h = refl
plain_named args OutOfMemory h = refl
plain_named args _ h = absurd (false≢true h)

-- the causes of reading the tail are among those for which there can be no text
pub tail_ends : (name : List ℕ) (text : Result (List ℕ) Refusal) (outcome : Result (List ℕ) Stop) → CausedBy is_id_tail_cause text
    → outcome ≡ about name text → StoppedBy is_footer_cause outcome
tail_ends name text outcome h e = subst (StoppedBy is_footer_cause) (sym e) (ends text h)
  where
    wider : (cause : Cause) → is_id_tail_cause cause ≡ true → is_footer_cause cause ≡ true
    wider BadKeys h = refl
    wider cause h = h

    ends : (text : Result (List ℕ) Refusal) → CausedBy is_id_tail_cause text → StoppedBy is_footer_cause (about name text)
    ends (Ok t) h = tt
    ends (Err refusal) h = wider refusal.cause h
