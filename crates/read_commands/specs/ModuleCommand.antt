-- `module`: opens the module that fills a file, and prints its plaintext in hex.
use Rattle.std.specs.Prelude.{◌≡◌, ℕ, ◌+◌, ◌≤◌, Bool, List, Option, IfSome, IsSomeAnd, Result, Ok, OnOk, IfErr}
use Rattle.std.specs.FinMap.{get}
use Rattle.pme_base.specs.declared.limits.TheConstants.{MODULE_LIMIT}
use Rattle.pme_base.specs.declared.refusal.Cause.{Cause}
use Rattle.pme_base.specs.declared.refusal.Cause.TheVariants.{OutOfMemory}
use Rattle.pme_base.specs.declared.refusal.Refusal.{Refusal}
use Rattle.pme_base.specs.Causes.{either}
use Rattle.pme_base.specs.Outside.{Published, followed_by}
use Rattle.pme_base.specs.Reading.{is_reading_cause}
use Rattle.pme_base.specs.Steps.{◌>>=◌}
use Rattle.crypto_module.specs.Frames.{is_module_cause}
use Rattle.crypto_module.specs.Modules.{IsGcm}
use Rattle.command_line.specs.declared.command.ModuleArgs.{ModuleArgs}
use Rattle.command_parts.specs.declared.stop.Stop.{Stop}
use Rattle.command_parts.specs.Stops.{about, IsAboutFile}
use Rattle.command_parts.specs.World.{World, Faulted}
use Rattle.command_parts.specs.Printing.{hex_line}
use Rattle.command_parts.specs.TextCommand.{TextGuarantees}
use Rattle.read_commands.specs.SealedFile.{plaintext_limit, sealed_bytes, opened_file}

-- the causes with which opening the file can end
abbrev pub is_opening_cause : Cause → Bool
is_opening_cause = either is_module_cause is_reading_cause

-- the text that the command prints: the plaintext of the file in hex
abbrev pub module_text : List ℕ → List ℕ → Option (List ℕ) → Result (List ℕ) Refusal
module_text key aad file = opened_file key aad file >>= (λ plain. Ok (hex_line plain))

-- the whole file is a module, and its plaintext was printed
pub record ModuleDone (key aad : List ℕ) (file before after : Option (List ℕ)) : Type 0 where
  pub plain : List ℕ
  pub sealed : IsSomeAnd file (IsGcm key aad plain plaintext_limit)
  pub printed : after ≡ followed_by (hex_line plain) before

-- the whole file is a module, and the text is its plaintext in hex
abbrev pub IsSealedText : List ℕ → List ℕ → Option (List ℕ) → List ℕ → Type 0
IsSealedText key aad file text = (plain : List ℕ) × (text ≡ hex_line plain) × IsSomeAnd file (IsGcm key aad plain plaintext_limit)

-- if the file is a module and no call outside fails, the command succeeds or runs out of memory
abbrev pub ModuleCompletes : List ℕ → List ℕ → List ℕ → Option Published → Type 0 → Result Unit Stop → Type 0
ModuleCompletes key aad name published Fault outcome =
    IfSome published (λ files. (plain : List ℕ) → IsSomeAnd (get files name) (IsGcm key aad plain plaintext_limit) → ¬ Fault
    → IfErr outcome (λ stop. stop.refusal.cause ≡ OutOfMemory))

-- what the command guarantees. If the length field is refused, only that field is read
pub record ModuleGuarantees (args : ModuleArgs) (old new : World) (outcome : Result Unit Stop) : Type 0 where
  pub text : TextGuarantees (λ files. about args.file (module_text args.key args.associated_data (get files args.file))) is_opening_cause (MODULE_LIMIT + 32) old new outcome
  pub done : OnOk outcome (IfSome old.files.published (λ files. ModuleDone args.key args.associated_data (get files args.file) old.out.written new.out.written))
  pub complete : ModuleCompletes args.key args.associated_data args.file old.files.published (Faulted old new) outcome
  pub subject : IfErr outcome (IsAboutFile args.file)
  pub field : IfSome old.files.published (λ files. IfErr (sealed_bytes (get files args.file)) (λ _. new.files.given ≤ old.files.given + 4))
