-- The table of commands: their names, and the options and flags that they have.
use Rattle.std.specs.Prelude.{ℕ, Bool, List, [], ◌∷◌, Option, Some, None, codes, if◌then◌else◌}
use Rattle.std.specs.List.{list_any}
use Rattle.std.specs.Str.{bytes_eq}
use Rattle.command_line.specs.declared.verb.Verb.{Verb}
use Rattle.command_line.specs.declared.verb.Verb.TheVariants.{Module, Thrift, Footer}

-- the command with this name
abbrev pub verb_of : List ℕ → Option Verb
verb_of word =
    if bytes_eq word (codes "module") then Some Module
    else if bytes_eq word (codes "thrift") then Some Thrift
    else if bytes_eq word (codes "footer") then Some Footer
    else None

-- the names of a command's options, which take a value
abbrev pub names_of : Verb → List (List ℕ)
names_of Module = codes "--key" ∷ codes "--aad" ∷ codes "--file" ∷ []
names_of Thrift = codes "--file" ∷ []
names_of Footer = codes "--file" ∷ codes "--keys" ∷ codes "--prefix" ∷ []

-- the names of a command's flags, which take no value
abbrev pub flags_of : Verb → List (List ℕ)
flags_of Module = []
flags_of Thrift = []
flags_of Footer = codes "--gcm-only" ∷ []

-- whether the command has an option of this name
abbrev pub takes : Verb → List ℕ → Bool
takes verb name = list_any (λ known. bytes_eq name known) (names_of verb)

-- whether the command has a flag of this name
abbrev pub is_flag : Verb → List ℕ → Bool
is_flag verb name = list_any (λ known. bytes_eq name known) (flags_of verb)
