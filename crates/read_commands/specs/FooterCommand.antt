-- `footer`: loads the keys of a keys file, reads the tail of a Parquet file with them, and prints the tail's text.
use Rattle.std.specs.Prelude.{◌≡◌, ◌⊎◌, ℕ, ◌+◌, ◌≤◌, Bool, true, false, List, length, Option, Some, IfSome, Result, Ok, OnOk, IfErr}
use Rattle.std.specs.FinMap.{get}
use Rattle.pme_base.specs.declared.limits.TheConstants.{FOOTER_AREA_LIMIT, SMALL_FILE_LIMIT}
use Rattle.pme_base.specs.declared.refusal.Cause.{Cause}
use Rattle.pme_base.specs.declared.refusal.Cause.TheVariants.{BadKeys, NoFile, TooLarge, ServiceFault, OutOfMemory}
use Rattle.pme_base.specs.declared.refusal.Refusal.{Refusal}
use Rattle.pme_base.specs.Outside.{Published, bytes_of, followed_by}
use Rattle.pme_base.specs.Steps.{◌>>=◌}
use Rattle.command_line.specs.declared.command.FooterArgs.{FooterArgs}
use Rattle.key_rights.specs.declared.id_key.IdKey.{IdKey}
use Rattle.key_rights.specs.KeysFile.{keys_of_file, answer_by_id}
use Rattle.footer_modes.specs.declared.tail.Tail.{Tail}
use Rattle.footer_modes.specs.Causes.{is_tail_cause}
use Rattle.footer_modes.specs.IsTail.{IsTail}
use Rattle.footer_modes.specs.TailOf.{asks_of, tail_of, file_tail}
use Rattle.command_parts.specs.declared.stop.Stop.{Stop}
use Rattle.command_parts.specs.Stops.{about, IsAboutFile}
use Rattle.command_parts.specs.World.{World, Faulted}
use Rattle.command_parts.specs.SmallFile.{small_limit, small_bytes}
use Rattle.command_parts.specs.KeysInput.{loaded_keys}
use Rattle.read_commands.specs.TailText.{tail_text}
use Rattle.command_parts.specs.TextCommand.{TextGuarantees}

-- the tail of a file, read with these keys
abbrev pub tail_with : List IdKey → Option (List ℕ) → Bool → Option (List ℕ) → Result Tail Refusal
tail_with keys prefix gcm_only file = file_tail (asks_of (answer_by_id keys) prefix gcm_only false) file

-- the text of that tail
abbrev pub text_with : List IdKey → Option (List ℕ) → Bool → Option (List ℕ) → Result (List ℕ) Refusal
text_with keys prefix gcm_only file = tail_with keys prefix gcm_only file >>= (λ tail. Ok (tail_text tail prefix))

-- the text that the command prints; a refusal is about the keys file until the keys are loaded, then about the data file
abbrev pub footer_text : FooterArgs → Published → Result (List ℕ) Stop
footer_text args files =
    about args.keys (loaded_keys (get files args.keys))
    >>= (λ keys. about args.file (text_with keys args.prefix args.gcm_only (get files args.file)))

-- the causes with which reading the tail with the keys of a keys file can end: no key service is asked
abbrev pub is_id_tail_cause : Cause → Bool
is_id_tail_cause ServiceFault = false
is_id_tail_cause cause = is_tail_cause cause

-- the causes for which the command can have no text
abbrev pub is_footer_cause : Cause → Bool
is_footer_cause BadKeys = true
is_footer_cause cause = is_id_tail_cause cause

-- the keys were loaded, the tail was read with them, the file ends with this tail as the format lays it out, and its text
-- was printed
pub record FooterDone (args : FooterArgs) (files : Published) (before after : Option (List ℕ)) : Type 0 where
  pub keys : List IdKey
  pub bytes : List ℕ
  pub tail : Tail
  pub there : get files args.file ≡ Some bytes
  pub laid_out : IsTail (asks_of (answer_by_id keys) args.prefix args.gcm_only false) bytes tail
  pub loaded : loaded_keys (get files args.keys) ≡ Ok keys
  pub read : tail_with keys args.prefix args.gcm_only (get files args.file) ≡ Ok tail
  pub printed : after ≡ followed_by (tail_text tail args.prefix) before

-- the keys file exists, is small enough and valid, and the data file exists and has a tail that these keys open
pub record IsReadable (args : FooterArgs) (files : Published) : Type 0 where
  pub keys_bytes : List ℕ
  pub keys : List IdKey
  pub bytes : List ℕ
  pub tail : Tail
  pub keys_there : get files args.keys ≡ Some keys_bytes
  pub small : length keys_bytes ≤ small_limit
  pub valid : keys_of_file keys_bytes ≡ Ok keys
  pub there : get files args.file ≡ Some bytes
  pub passes : tail_of (asks_of (answer_by_id keys) args.prefix args.gcm_only false) bytes ≡ Ok tail

-- if the files are readable and no call outside fails, the command succeeds or runs out of memory
abbrev pub FooterCompletes : FooterArgs → Option Published → Type 0 → Result Unit Stop → Type 0
FooterCompletes args published Fault outcome =
    IfSome published (λ files. IsReadable args files → ¬ Fault → IfErr outcome (λ stop. stop.refusal.cause ≡ OutOfMemory))

-- the file that a stop is about, by its cause: the keys file for BadKeys; either file for NoFile and TooLarge; else the data file
abbrev pub subject_for : FooterArgs → Cause → Stop → Type 0
subject_for args BadKeys stop = IsAboutFile args.keys stop
subject_for args NoFile stop = IsAboutFile args.keys stop ⊎ IsAboutFile args.file stop
subject_for args TooLarge stop = IsAboutFile args.keys stop ⊎ IsAboutFile args.file stop
subject_for args _ stop = IsAboutFile args.file stop

abbrev pub IsAboutOneOf : FooterArgs → Stop → Type 0
IsAboutOneOf args stop = subject_for args stop.refusal.cause stop

-- what the command guarantees. If the keys file is missing or too large, nothing is read; if its keys are refused, at most its own
-- bytes are read
pub record FooterGuarantees (args : FooterArgs) (old new : World) (outcome : Result Unit Stop) : Type 0 where
  pub text : TextGuarantees (footer_text args) is_footer_cause (SMALL_FILE_LIMIT + FOOTER_AREA_LIMIT + 64) old new outcome
  pub done : OnOk outcome (IfSome old.files.published (λ files. FooterDone args files old.out.written new.out.written))
  pub complete : FooterCompletes args old.files.published (Faulted old new) outcome
  pub subject : IfErr outcome (IsAboutOneOf args)
  pub unread : IfSome old.files.published (λ files. IfErr (small_bytes (get files args.keys)) (λ _. new.files.given ≡ old.files.given))
  pub keys : IfSome old.files.published (λ files. IfErr (loaded_keys (get files args.keys)) (λ _. new.files.given ≤ old.files.given + length (bytes_of files args.keys)))
