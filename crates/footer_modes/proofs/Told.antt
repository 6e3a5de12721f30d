-- From the ends of a file whose bytes contracts see, and its footer area, to the result for the whole file.
use Rattle.std.proofs.Common.{◌≡◌, ℕ, List, [], Option, Some, None, unwrap_or, IfSome, IfOk, Result, Ok, Err, refl, sym, ◌∙◌, ap}
use Rattle.std.specs.FinMap.{get}
use Rattle.pme_base.specs.declared.refusal.Refusal.{Refusal}
use Rattle.pme_base.specs.Outside.{Published, AreBytes, HoldBytes, bytes_of}
use Rattle.pme_base.specs.Steps.{◌>>=◌, Answers}
use Rattle.footer_modes.specs.declared.ends.Ends.{Ends}
use Rattle.footer_modes.specs.declared.tail.Tail.{Tail}
use Rattle.footer_modes.specs.TailOf.{Asks, file_tail}
use Rattle.footer_modes.specs.IsTail.{IsTail}
use Rattle.footer_modes.proofs.TailsLaid.{laid_if_read}
use Rattle.footer_modes.specs.Ends.{IsInside, ends_of, file_ends, area_of}

-- the result of a step on the area is the result for the whole file
abbrev pub Continues : {T : Type 0} → (Ends → List ℕ → Result T Refusal) → (Option (List ℕ) → Result T Refusal) → Type 0
Continues next whole = (bytes : List ℕ) → whole (Some bytes) ≡ (ends_of bytes >>= λ ends. next ends (area_of ends bytes))

of_file : {T : Type 0} (next : Ends → List ℕ → Result T Refusal) (whole : Option (List ℕ) → Result T Refusal) → Continues next whole
    → (file : Option (List ℕ)) (ends : Ends) (area : List ℕ) (result : Result T Refusal) → Answers (Ok ends) (file_ends file) → IsInside ends (unwrap_or file [])
    → (IsInside ends (unwrap_or file []) → area ≡ area_of ends (unwrap_or file [])) → Answers result (next ends area) → Answers result (whole file)
of_file next whole c None ends area result e i a r = let h : Ok ends ≡ file_ends None = e refl in cc
of_file next whole c (Some bytes) ends area result e i a r =
    λ free. r free ∙ ap (next ends) (a i) ∙ ap (λ x. x >>= λ ends. next ends (area_of ends bytes)) (e refl) ∙ sym (c bytes)

pub of_told : {T : Type 0} (next : Ends → List ℕ → Result T Refusal) (whole : Option (List ℕ) → Result T Refusal) → Continues next whole
    → (told : Option Published) (name : List ℕ) (ends : Ends) (area : List ℕ) (result : Result T Refusal)
    → IfSome told (λ files. Answers (Ok ends) (file_ends (get files name))) → IfSome told (λ files. IsInside ends (bytes_of files name))
    → IfSome told (λ files. IsInside ends (bytes_of files name) → area ≡ area_of ends (bytes_of files name))
    → Answers result (next ends area) → IfSome told (λ files. Answers result (whole (get files name)))
of_told next whole c None name ends area result e i a r = tt
of_told next whole c (Some files) name ends area result e i a r = of_file next whole c (get files name) ends area result e i a r

-- a tail that was returned for a file is the one that the file's bytes lay out
laid_of_file : (asks : Asks) (file : Option (List ℕ)) (tail : Tail) → ((bytes : List ℕ) → file ≡ Some bytes → AreBytes bytes) → file_tail asks file ≡ Ok tail
    → IfSome file (λ bytes. IsTail asks bytes tail)
laid_of_file asks None tail each e = tt
laid_of_file asks (Some bytes) tail each e = laid_if_read asks bytes tail (each bytes refl) e

pub laid_told : (asks : Asks) (told : Option Published) (name : List ℕ) (result : Result Tail Refusal) → IfSome told HoldBytes
    → IfSome told (λ files. Answers result (file_tail asks (get files name)))
    → IfOk result (λ tail. IfSome told (λ files. IfSome (get files name) (λ bytes. IsTail asks bytes tail)))
laid_told asks told name (Err refusal) each answered = tt
laid_told asks None name (Ok tail) each answered = tt
laid_told asks (Some files) name (Ok tail) each answered = laid_of_file asks (get files name) tail (each name) (sym (answered refl))
