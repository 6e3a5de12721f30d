-- The words after the name of the command: options and flags in any order. The word after an option's name is its value,
-- even if it begins with `-`; a flag has no value.
use Rattle.std.specs.Prelude.{ℕ, Bool, true, false, ◌&&◌, ◌||◌, not, List, [], ◌∷◌, Option, Some, None, is_none, if◌then◌else◌}
use Rattle.std.specs.Str.{bytes_eq}
use Rattle.command_line.specs.declared.verb.Verb.{Verb}
use Rattle.command_line.specs.Verbs.{takes, is_flag}

-- the value of the option with this name, if it is given
abbrev pub value_of : Verb → List ℕ → List (List ℕ) → Option (List ℕ)
value_of verb name [] = None
value_of verb name (first ∷ []) = None
value_of verb name (first ∷ value ∷ rest) =
    if is_flag verb first then value_of verb name (value ∷ rest)
    else if bytes_eq first name then Some value
    else value_of verb name rest

-- whether the flag with this name is given
abbrev pub has_flag : Verb → List ℕ → List (List ℕ) → Bool
has_flag verb name [] = false
has_flag verb name (first ∷ []) = is_flag verb first && bytes_eq first name
has_flag verb name (first ∷ value ∷ rest) =
    if is_flag verb first then bytes_eq first name || has_flag verb name (value ∷ rest)
    else has_flag verb name rest

-- an option of the command that is not given again in the words after it
unfoldable pub is_option : Verb → List ℕ → List (List ℕ) → Bool
is_option verb name after = takes verb name && is_none (value_of verb name after)

-- all are options and flags of the command, each is given once, and each option has a value
abbrev pub are_options : Verb → List (List ℕ) → Bool
are_options verb [] = true
are_options verb (first ∷ []) = is_flag verb first
are_options verb (first ∷ value ∷ rest) =
    if is_flag verb first then not (has_flag verb first (value ∷ rest)) && are_options verb (value ∷ rest)
    else is_option verb first rest && are_options verb rest
