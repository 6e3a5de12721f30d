-- The outcomes of `module`: its text is the plaintext of the module that the file is.
use Rattle.std.proofs.Common.{◌≡◌, ℕ, List, Option, Some, None, IfSome, IsSomeAnd, Result, Ok, Err, OnOk, IsOkAnd, ◌∙◌, ap, lit≤}
use Rattle.std.specs.Prelude.{IfOk, true}
use Rattle.std.specs.FinMap.{get}
use Rattle.pme_base.specs.declared.refusal.Refusal.{Refusal}
use Rattle.pme_base.specs.Outside.{Published, followed_by}
use Rattle.pme_base.specs.Steps.{◌>>=◌}
use Rattle.crypto_module.specs.Modules.{IsGcm}
use Rattle.crypto_module.proofs.Sealed.{opened_if_held}
use Rattle.command_parts.specs.declared.stop.Stop.{Stop}
use Rattle.command_parts.specs.Stops.{about}
use Rattle.command_parts.specs.Printing.{hex_line}
use Rattle.read_commands.specs.SealedFile.{loose, plaintext_limit, opened_file}
use Rattle.command_parts.specs.TextCommand.{TextCompletes}
use Rattle.read_commands.specs.ModuleCommand.{ModuleCompletes, ModuleDone, IsSealedText, module_text}

-- if the text was printed, the file is a module and its plaintext was printed
pub module_done : (key aad name : List ℕ) (published : Option Published) (before after : Option (List ℕ)) (text : Result (List ℕ) Refusal) (outcome : Result Unit Stop)
    → IfOk text (λ t. IfSome published (λ files. IsSealedText key aad (get files name) t))
    → OnOk outcome (IsOkAnd (about name text) (λ t. after ≡ followed_by t before))
    → OnOk outcome (IfSome published (λ files. ModuleDone key aad (get files name) before after))
module_done key aad name published before after text (Err stop) sealed printed = tt
module_done key aad name None before after text (Ok _) sealed printed = tt
module_done key aad name (Some files) before after (Err refusal) (Ok _) sealed printed = absurd printed
module_done key aad name (Some files) before after (Ok t) (Ok _) sealed printed = record {
  plain = sealed.0;
  sealed = sealed.2;
  printed = printed ∙ ap (λ line. followed_by line before) sealed.1;
}

-- a file that one module fills opens
opens : (key aad : List ℕ) (plain : List ℕ) (file : Option (List ℕ)) → IsSomeAnd file (IsGcm key aad plain plaintext_limit) → opened_file key aad file ≡ Ok plain
opens key aad plain None h = absurd h
opens key aad plain (Some bytes) h = opened_if_held key aad plain loose 0 plaintext_limit true bytes (lit≤ tt) h

-- the command on such a file succeeds, unless a call outside fails or memory runs out
pub module_completes : (key aad name : List ℕ) (published : Option Published) (Fault : Type 0) (outcome : Result Unit Stop)
    → TextCompletes (λ files. about name (module_text key aad (get files name))) published Fault outcome
    → ModuleCompletes key aad name published Fault outcome
module_completes key aad name None Fault outcome text = tt
module_completes key aad name (Some files) Fault outcome text = λ plain sealed.
    text (hex_line plain) (ap (λ (opened : Result (List ℕ) Refusal). about name (opened >>= (λ p. Ok (hex_line p)))) (opens key aad plain (get files name) sealed))
