-- The value of a UTF-8 text is the value of its characters; a text that isn't UTF-8 has no value.
use Rattle.std.proofs.Common.{◌≡◌, ℕ, List, Bool, true, false, Option, None, if◌then◌else◌, refl}
use Rattle.std.specs.Str.{IsUtf8, is_utf8}
use Rattle.std.proofs.lemmas.Str.{IsUtf8-from_is_utf8, is_utf8-from_IsUtf8}
use Rattle.serde_json.specs.Data.{Data}
use Rattle.serde_json.specs.Read.{read}
use Rattle.json_text.specs.Json.{json_of}

pub json_of-utf8 : (bytes : List ℕ) → IsUtf8 bytes → json_of bytes ≡ read bytes
unfolding json_of
json_of-utf8 bytes utf8 = rw (is_utf8-from_IsUtf8 bytes utf8) refl

none_unless : (test : Bool) (bytes : List ℕ) (value : Option Data) → is_utf8 bytes ≡ test → (IsUtf8 bytes → ⊥) → (if test then value else None) ≡ None
none_unless true bytes value is other = absurd (other (IsUtf8-from_is_utf8 bytes is))
none_unless false bytes value is other = refl

pub json_of-other : (bytes : List ℕ) → (IsUtf8 bytes → ⊥) → json_of bytes ≡ None
unfolding json_of
json_of-other bytes other = none_unless (is_utf8 bytes) bytes (read bytes) refl other
