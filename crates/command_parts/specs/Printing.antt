-- Printing to a sink.
use Rattle.std.specs.Prelude.{ℕ, List, [], ◌∷◌, ◌++◌, Bool, true, false}
use Rattle.hex.specs.Hex.{encode_lower}
use Rattle.pme_base.specs.declared.refusal.Cause.{Cause}
use Rattle.pme_base.specs.declared.refusal.Cause.TheVariants.{WriteFault, OutOfMemory}

-- bytes in lower-case hex, and a line feed
abbrev pub hex_line : List ℕ → List ℕ
hex_line bytes = encode_lower bytes ++ 10 ∷ []

-- the causes with which printing can end
abbrev pub is_printing_cause : Cause → Bool
is_printing_cause WriteFault = true
is_printing_cause OutOfMemory = true
is_printing_cause _ = false
