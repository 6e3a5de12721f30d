-- The value of a JSON text (RFC 8259), and the members of objects by name.
use Rattle.std.specs.Prelude.{◌≡◌, ◌≤◌, ℕ, List, Bool, false, if◌then◌else◌, Option, Some, None, option_and_then}
use Rattle.std.specs.Str.{is_utf8}
use Rattle.serde_json.specs.Data.{Data, Items, Members, depth}
use Rattle.serde_json.specs.Find.{get, as_str, as_bool, as_number, as_u64, as_array, as_object}
use Rattle.serde_json.specs.Read.{read, max_depth}
use Rattle.serde_json.specs.Written.{has_float, compact_text}

-- the value of a text, if the bytes are valid JSON in UTF-8
unfoldable pub json_of : List ℕ → Option Data
json_of bytes = if is_utf8 bytes then read bytes else None

-- the members of a text that is an object, in ascending byte order of their names
abbrev pub object_of : List ℕ → Option Members
object_of bytes = option_and_then as_object (json_of bytes)

-- the string in the member with this name
unfoldable pub text_at : List ℕ → Data → Option (List ℕ)
text_at name d = option_and_then as_str (get name d)

-- the integer below 2^64 in the member with this name; numbers with a point or an exponent, and `-0`, don't count
unfoldable pub whole_number_at : List ℕ → Data → Option ℕ
whole_number_at name d = option_and_then as_u64 (option_and_then as_number (get name d))

-- the boolean in the member with this name
unfoldable pub truth_at : List ℕ → Data → Option Bool
truth_at name d = option_and_then as_bool (get name d)

-- the array in the member with this name
unfoldable pub list_at : List ℕ → Data → Option Items
list_at name d = option_and_then as_array (get name d)

-- a text of a value: compact, with names in ascending byte order, and read back as the value. The text of numbers with a
-- point is not specified, and a value that is nested more deeply than the reader allows isn't read back.
pub record IsTextOf (text : List ℕ) (d : Data) : Type 0 where
  pub spelled : has_float d ≡ false → text ≡ compact_text d
  pub read_back : depth d ≤ max_depth → json_of text ≡ Some d
