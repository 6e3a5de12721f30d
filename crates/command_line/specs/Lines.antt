-- Command lines as the user sees them: the name of a command, then options and flags in any order.
use Rattle.std.specs.Prelude.{◌≡◌, ◌↔◌, ◌⊎◌, ℕ, Bool, true, false, List, [], ◌∷◌, Option, Some, None, codes}
use Rattle.command_line.specs.declared.command.Command.{Command}
use Rattle.command_line.specs.declared.command.Command.TheVariants as command
use Rattle.command_line.specs.declared.verb.Verb.{Verb}
use Rattle.command_line.specs.declared.verb.Verb.TheVariants.{Module, Thrift, Footer}
use Rattle.command_line.specs.Verbs.{verb_of, takes, is_flag}
use Rattle.command_line.specs.Options.{value_of, has_flag, are_options}
use Rattle.command_line.specs.Commands.{module_with, footer_with, command_of}

-- an option with its value, which may be any word, or a flag
pub data Given : Type 0 where
  option : List ℕ → List ℕ → Given
  flag : List ℕ → Given

-- the name of an option or a flag
abbrev pub name_of : Given → List ℕ
name_of (option name value) = name
name_of (flag name) = name

-- the words for these options and flags: the name and the value of an option, the name of a flag
abbrev pub spelled : List Given → List (List ℕ)
spelled [] = []
spelled (option name value ∷ givens) = name ∷ value ∷ spelled givens
spelled (flag name ∷ givens) = name ∷ spelled givens

-- the command has this option or flag
abbrev pub IsOf : Verb → Given → Type 0
IsOf verb (option name value) = takes verb name ≡ true
IsOf verb (flag name) = is_flag verb name ≡ true

-- no option or flag in the list has this name
abbrev pub IsNew : List ℕ → List Given → Type 0
IsNew name [] = Unit {0}
IsNew name (given ∷ givens) = (name_of given ≡ name → ⊥) × IsNew name givens

-- all are options and flags of the command, and no name is given twice
abbrev pub IsLine : Verb → List Given → Type 0
IsLine verb [] = Unit {0}
IsLine verb (given ∷ givens) = IsOf verb given × IsNew (name_of given) givens × IsLine verb givens

-- the list contains this option or flag
abbrev pub IsIn : Given → List Given → Type 0
IsIn given [] = ⊥
IsIn given (first ∷ givens) = (first ≡ given) ⊎ IsIn given givens

-- the value of an option in the list, or None if it isn't given
abbrev pub IsValueOf : List ℕ → List Given → Option (List ℕ) → Type 0
IsValueOf name givens (Some value) = IsIn (option name value) givens
IsValueOf name givens None = (value : List ℕ) → IsIn (option name value) givens → ⊥

-- whether a flag is given in the list
abbrev pub IsFlagged : List ℕ → List Given → Bool → Type 0
IsFlagged name givens true = IsIn (flag name) givens
IsFlagged name givens false = IsIn (flag name) givens → ⊥

-- the options and flags in the list, in any order, ask for this command
pub record AsksModule (givens : List Given) (asked : Command) : Type 0 where
  pub key : List ℕ
  pub associated_data : List ℕ
  pub file : List ℕ
  pub has_key : IsIn (option (codes "--key") key) givens
  pub has_data : IsIn (option (codes "--aad") associated_data) givens
  pub has_file : IsIn (option (codes "--file") file) givens
  pub is : module_with key associated_data file ≡ Some asked

pub record AsksThrift (givens : List Given) (asked : Command) : Type 0 where
  pub file : List ℕ
  pub has_file : IsIn (option (codes "--file") file) givens
  pub is : command.Thrift (record { file = file }) ≡ asked

pub record AsksFooter (givens : List Given) (asked : Command) : Type 0 where
  pub file : List ℕ
  pub keys : List ℕ
  pub prefix : Option (List ℕ)
  pub gcm_only : Bool
  pub has_file : IsIn (option (codes "--file") file) givens
  pub has_keys : IsIn (option (codes "--keys") keys) givens
  pub has_prefix : IsValueOf (codes "--prefix") givens prefix
  pub has_gcm_only : IsFlagged (codes "--gcm-only") givens gcm_only
  pub is : footer_with gcm_only file keys prefix ≡ Some asked

abbrev pub Asks : Verb → List Given → Command → Type 0
Asks Module givens asked = AsksModule givens asked
Asks Thrift givens asked = AsksThrift givens asked
Asks Footer givens asked = AsksFooter givens asked

-- the words of valid options and flags are accepted
abbrev pub LinesAreOptions : Type 0
LinesAreOptions = (verb : Verb) (givens : List Given) → IsLine verb givens → are_options verb (spelled givens) ≡ true

-- these are the words of valid options and flags of the command
pub record IsSpelled (verb : Verb) (words : List (List ℕ)) : Type 0 where
  pub givens : List Given
  pub line : IsLine verb givens
  pub is : spelled givens ≡ words

-- words that are accepted are those of valid options and flags
abbrev pub OptionsAreLines : Type 0
OptionsAreLines = (verb : Verb) (words : List (List ℕ)) → are_options verb words ≡ true → IsSpelled verb words

-- the value of an option is found at any position
abbrev pub ValuesAreGiven : Type 0
ValuesAreGiven =
    (verb : Verb) (givens : List Given) (name : List ℕ) (value : Option (List ℕ)) → IsLine verb givens
    → IsValueOf name givens value ↔ (value_of verb name (spelled givens) ≡ value)

-- a flag is found at any position
abbrev pub FlagsAreGiven : Type 0
FlagsAreGiven =
    (verb : Verb) (givens : List Given) (name : List ℕ) (is_given : Bool) → IsLine verb givens
    → IsFlagged name givens is_given ↔ (has_flag verb name (spelled givens) ≡ is_given)

-- a line is parsed as a command if and only if its options and flags ask for it
abbrev pub LinesAskByGivens : Type 0
LinesAskByGivens =
    (verb : Verb) (word : List ℕ) (givens : List Given) (asked : Command) → verb_of word ≡ Some verb → IsLine verb givens
    → (command_of (word ∷ spelled givens) ≡ Some asked) ↔ Asks verb givens asked

-- lines with the same options and flags are parsed as the same command
abbrev pub OrderIsFree : Type 0
OrderIsFree =
    (word : List ℕ) (verb : Verb) (xs ys : List Given) → verb_of word ≡ Some verb → IsLine verb xs → IsLine verb ys
    → ((given : Given) → IsIn given xs ↔ IsIn given ys) → command_of (word ∷ spelled xs) ≡ command_of (word ∷ spelled ys)

-- the parts of a line: its first word is the name of a command, and the others are the words of valid options and flags
pub record IsLineOf (words : List (List ℕ)) : Type 0 where
  pub word : List ℕ
  pub verb : Verb
  pub givens : List Given
  pub names : verb_of word ≡ Some verb
  pub line : IsLine verb givens
  pub is : word ∷ spelled givens ≡ words

-- words that are parsed as a command have these parts
abbrev pub CommandsHaveLines : Type 0
CommandsHaveLines = (words : List (List ℕ)) (asked : Command) → command_of words ≡ Some asked → IsLineOf words
