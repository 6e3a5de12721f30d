-- Opening the module of a file, by the bytes that were read.
use Rattle.std.proofs.Common.{◌≡◌, ℕ, List, Option, Some, None, IfSome, Result, Ok, Err, refl, sym, ◌∙◌, ap}
use Rattle.pme_base.specs.declared.refusal.Refusal.{Refusal}
use Rattle.std.specs.FinMap.{get}
use Rattle.pme_base.specs.Outside.{Published}
use Rattle.pme_base.specs.Steps.{◌>>=◌, Answers}
use Rattle.crypto_module.specs.Frames.{gcm_size}
use Rattle.crypto_module.specs.Opening.{unsealed_whole}
use Rattle.std.specs.Prelude.{true, take}
use Rattle.read_commands.specs.SealedFile.{loose, plaintext_limit, sealed_bytes, opened_buffer, opened_file}

held : (size : Result ℕ Refusal) (bytes b : List ℕ) → Ok b ≡ (size >>= (λ _. Ok bytes)) → b ≡ bytes
held (Ok size) bytes b h = cc
held (Err refusal) bytes b h = cc

unheld : (size : Result ℕ Refusal) (bytes : List ℕ) (refusal : Refusal) (next : ℕ → Result (List ℕ) Refusal) → Err refusal ≡ (size >>= (λ _. Ok bytes)) → (size >>= next) ≡ Err refusal
unheld (Ok size) bytes refusal next h = cc
unheld (Err other) bytes refusal next h = sym h

-- a file whose bytes were read is opened as its bytes are
pub opened_read : (key aad : List ℕ) (file : Option (List ℕ)) (b : List ℕ) → Ok b ≡ sealed_bytes file → opened_file key aad file ≡ opened_buffer key aad b
opened_read key aad None b h = cc
opened_read key aad (Some bytes) b h = ap (opened_buffer key aad) (sym (held (gcm_size loose 0 plaintext_limit true bytes) bytes b h))

-- a file whose frame is refused isn't opened
pub opened_unread : (key aad : List ℕ) (file : Option (List ℕ)) (refusal : Refusal) → Err refusal ≡ sealed_bytes file → opened_file key aad file ≡ Err refusal
opened_unread key aad None refusal h = sym h
opened_unread key aad (Some bytes) refusal h =
    unheld (gcm_size loose 0 plaintext_limit true bytes) bytes refusal (λ size. unsealed_whole key aad loose 0 (take size bytes)) h

-- both, where contracts see the files
pub opened_told : (key aad name : List ℕ) (published : Option Published) (b : List ℕ) (result : Result (List ℕ) Refusal)
    → IfSome published (λ files. Answers (Ok b) (sealed_bytes (get files name))) → result ≡ opened_buffer key aad b
    → IfSome published (λ files. Answers result (opened_file key aad (get files name)))
opened_told key aad name None b result h e = tt
opened_told key aad name (Some files) b result h e = λ free. e ∙ sym (opened_read key aad (get files name) b (h refl))

pub unopened_told : (key aad name : List ℕ) (published : Option Published) (refusal : Refusal)
    → IfSome published (λ files. Answers {T = List ℕ} (Err refusal) (sealed_bytes (get files name)))
    → IfSome published (λ files. Answers {T = List ℕ} (Err refusal) (opened_file key aad (get files name)))
unopened_told key aad name None refusal h = tt
unopened_told key aad name (Some files) refusal h = λ free. sym (opened_unread key aad (get files name) refusal (h free))
