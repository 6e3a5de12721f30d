-- Lemmas about a flag at the front of the words.
use Rattle.std.proofs.Common.{◌≡◌, ℕ, ◌≤◌, ◌-◌, true, false, List, [], ◌∷◌, length, take, drop, slice_index_or, refl, ◌∙◌, arith}
use Rattle.std.proofs.lemmas.List.{take_all}
use Rattle.std.specs.Prelude.{◌&&◌, not}
use Rattle.command_line.specs.declared.verb.Verb.{Verb}
use Rattle.command_line.specs.Verbs.{is_flag}
use Rattle.command_line.specs.Options.{has_flag, are_options}

pub flag_first : (verb : Verb) (first : List ℕ) (rest : List (List ℕ)) → is_flag verb first ≡ true
    → are_options verb (first ∷ rest) ≡ (not (has_flag verb first rest) && are_options verb rest)
flag_first verb first [] flag = flag
flag_first verb first (value ∷ rest) flag = rw flag refl

-- the words after the first
abbrev behind : List (List ℕ) → List (List ℕ)
behind words = take (length words - 1) (drop 1 words)

flag_front : (verb : Verb) (words : List (List ℕ)) (first : List ℕ) → 1 ≤ length words → first ≡ slice_index_or words 0 first → is_flag verb first ≡ true
    → are_options verb words ≡ (not (has_flag verb first (behind words)) && are_options verb (behind words))
flag_front verb [] first some same flag = absurd (omega (arith, some))
flag_front verb (f ∷ rest) first some same flag =
    let all : behind (f ∷ rest) ≡ rest = take_all _ rest (omega arith) in
    let here : first ≡ f = same in
    rw (here, all) (flag_first verb f rest (rw here at flag))

-- a flag that is repeated is refused
pub flag_again : (verb : Verb) (words : List (List ℕ)) (first : List ℕ) → 1 ≤ length words → first ≡ slice_index_or words 0 first → is_flag verb first ≡ true
    → has_flag verb first (take (length words - 1) (drop 1 words)) ≡ true → are_options verb words ≡ false
flag_again verb words first some same flag again = flag_front verb words first some same flag ∙ (rw again refl)

-- a flag that is not repeated is accepted if the words after it are
pub flag_once : (verb : Verb) (words : List (List ℕ)) (first : List ℕ) → 1 ≤ length words → first ≡ slice_index_or words 0 first → is_flag verb first ≡ true
    → has_flag verb first (take (length words - 1) (drop 1 words)) ≡ false → are_options verb words ≡ are_options verb (take (length words - 1) (drop 1 words))
flag_once verb words first some same flag once = flag_front verb words first some same flag ∙ (rw once refl)
