-- Joining texts by appending one after another.
use Rattle.std.proofs.Common.{◌≡◌, refl, sym, ◌∙◌, ap, ℕ, Bool, true, false, if◌then◌else◌, List, [], ◌∷◌, ◌++◌, append_assoc, append-nil, codes}
use Rattle.std.specs.List.{flat_map}
use Rattle.thrift_compact.specs.Text.{joined}

-- the text that is still to be appended for the rest of the texts, where the next one is the first or not
abbrev pub still : Bool → List (List ℕ) → List ℕ
still first texts = if first then joined texts else flat_map (λ text. codes ", " ++ text) texts

pub still-none : (first : Bool) → still first [] ≡ []
still-none true = refl
still-none false = refl

-- no text is left, and the closing sign is appended
pub still-end :
    (old opened into new : List ℕ) (opening closing : ℕ) (first : Bool) (left texts : List (List ℕ))
    → opened ≡ old ++ opening ∷ [] → left ≡ [] → into ++ still first left ≡ opened ++ joined texts → new ≡ into ++ closing ∷ []
    → new ≡ old ++ opening ∷ (joined texts ++ closing ∷ [])
still-end old opened into new opening closing first left texts begun over rest now =
    let whole : into ≡ old ++ opening ∷ joined texts =
    sym (append-nil into) ∙ ap (λ n. into ++ n) (sym (still-none first)) ∙ ap (λ n. into ++ still first n) (sym over) ∙ rest
    ∙ ap (λ n. n ++ joined texts) begun ∙ append_assoc old (opening ∷ []) (joined texts) in
    now ∙ ap (λ n. n ++ closing ∷ []) whole ∙ append_assoc old (opening ∷ joined texts) (closing ∷ [])
