-- The command of a command line, or None if the words aren't a valid command.
use Rattle.std.specs.Prelude.{ℕ, Bool, List, [], ◌∷◌, Option, Some, None, codes, option_map, if◌then◌else◌}
use Rattle.command_line.specs.declared.command.Command.{Command}
use Rattle.command_line.specs.declared.command.Command.TheVariants as command
use Rattle.command_line.specs.declared.verb.Verb.{Verb}
use Rattle.command_line.specs.declared.verb.Verb.TheVariants.{Module, Thrift, Footer}
use Rattle.command_line.specs.Verbs.{verb_of}
use Rattle.command_line.specs.Options.{value_of, has_flag, are_options}
use Rattle.command_line.specs.Values.{key_of_hex, associated_data_of_hex, prefix_of_hex}

-- `make` of three values, if all three are given
abbrev pub with_three : {A B C D : Type 0} → Option A → Option B → Option C → (A → B → C → Option D) → Option D
with_three (Some a) (Some b) (Some c) make = make a b c
with_three _ _ _ make = None

-- the command `module` with the values of its options
abbrev pub module_with : List ℕ → List ℕ → List ℕ → Option Command
module_with key associated_data file =
    with_three (key_of_hex key) (associated_data_of_hex associated_data) (Some file)
    (λ k a f. Some (command.Module (record { key = k; associated_data = a; file = f })))

-- the command `module` with these options
abbrev pub module_of : List (List ℕ) → Option Command
module_of options =
    with_three (value_of Module (codes "--key") options) (value_of Module (codes "--aad") options) (value_of Module (codes "--file") options) module_with

-- the command `thrift` with these options
abbrev pub thrift_of : List (List ℕ) → Option Command
thrift_of options = option_map (λ f. command.Thrift (record { file = f })) (value_of Thrift (codes "--file") options)

-- the AAD prefix, if one is supplied; the outer None means that its text is invalid
abbrev pub prefix_with : Option (List ℕ) → Option (Option (List ℕ))
prefix_with None = Some None
prefix_with (Some text) = option_map Some (prefix_of_hex text)

-- the command `footer` with the values of its options and its flag
abbrev pub footer_with : Bool → List ℕ → List ℕ → Option (List ℕ) → Option Command
footer_with gcm_only file keys prefix = option_map (λ p. command.Footer (record { file = file; keys = keys; prefix = p; gcm_only = gcm_only })) (prefix_with prefix)

-- the command `footer` with these options
abbrev pub footer_of : List (List ℕ) → Option Command
footer_of options =
    with_three (value_of Footer (codes "--file") options) (value_of Footer (codes "--keys") options) (Some (value_of Footer (codes "--prefix") options))
    (footer_with (has_flag Footer (codes "--gcm-only") options))

-- the command with these options, which are valid for it
abbrev pub command_by : Verb → List (List ℕ) → Option Command
command_by Module options = module_of options
command_by Thrift options = thrift_of options
command_by Footer options = footer_of options

-- the command with these options, if they are valid for it
abbrev pub command_with : Verb → List (List ℕ) → Option Command
command_with verb options = if are_options verb options then command_by verb options else None

-- the command of a whole command line
abbrev pub command_of : List (List ℕ) → Option Command
command_of [] = None
command_of (first ∷ options) = after_verb (verb_of first)
  where
    after_verb : Option Verb → Option Command
    after_verb None = None
    after_verb (Some verb) = command_with verb options
