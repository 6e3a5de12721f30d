-- Encodings of bytes as text: base64 with padding (RFC 4648, section 4) and hex (section 8).
use Rattle.std.specs.Prelude.{◌≡◌, ◌↔◌, ℕ, ◌+◌, ◌*◌, ◌/◌, ◌%◌, ◌≤◌, List, length, Option, Some, IsSome, IsUtf8}
use Rattle.std.specs.List.{AllPass}
use Rattle.std.specs.Result.{result_ok}
use Rattle.base64.specs.Engines.{standard}
use Rattle.base64.specs.GeneralPurpose as engine
use Rattle.hex.specs.Hex.{IsBytes, is_hex_digit, encode_lower, decode_of}

-- the base64 text of bytes
unfoldable pub base64_text : List ℕ → List ℕ
base64_text bytes = engine.encode_of standard bytes

-- the bytes of a base64 text, if it is valid: with padding, and with all unused bits 0
unfoldable pub bytes_of_base64 : List ℕ → Option (List ℕ)
bytes_of_base64 text = engine.decoded_of standard text

-- the hex text of bytes, in lower case
unfoldable pub hex_text : List ℕ → List ℕ
hex_text bytes = encode_lower bytes

-- the bytes of a hex text, if it is valid: an even number of digits of either case
unfoldable pub bytes_of_hex : List ℕ → Option (List ℕ)
bytes_of_hex text = result_ok (decode_of text)

-- decoding base64 text gives the encoded bytes
abbrev pub Base64RoundTrips : Type 0
Base64RoundTrips = (bytes : List ℕ) → IsBytes bytes → bytes_of_base64 (base64_text bytes) ≡ Some bytes

-- decoding hex text gives the encoded bytes
abbrev pub HexRoundTrips : Type 0
HexRoundTrips = (bytes : List ℕ) → IsBytes bytes → bytes_of_hex (hex_text bytes) ≡ Some bytes

-- a text decodes to these bytes if and only if it is their base64 text
abbrev pub Base64IsExact : Type 0
Base64IsExact = (text bytes : List ℕ) → IsBytes text → IsBytes bytes → (bytes_of_base64 text ≡ Some bytes) ↔ (text ≡ base64_text bytes)

-- base64 text is UTF-8
abbrev pub Base64IsUtf8 : Type 0
Base64IsUtf8 = (bytes : List ℕ) → IsUtf8 (base64_text bytes)

-- base64 text has four characters for each group of three bytes, also for an incomplete last group
abbrev pub Base64IsFourForThree : Type 0
Base64IsFourForThree = (bytes : List ℕ) → length (base64_text bytes) ≡ 4 * ((length bytes + 2) / 3)

-- decoded bytes are never longer than their base64 text
abbrev pub Base64IsNoLonger : Type 0
Base64IsNoLonger = (text bytes : List ℕ) → IsBytes text → bytes_of_base64 text ≡ Some bytes → length bytes ≤ length text

-- a text is valid hex if and only if it is an even number of hex digits
abbrev pub HexIsDigits : Type 0
HexIsDigits = (text : List ℕ) → IsSome (bytes_of_hex text) ↔ ((length text % 2 ≡ 0) × AllPass is_hex_digit text)

-- hex text has two digits for each byte
abbrev pub HexIsTwiceAsLong : Type 0
HexIsTwiceAsLong = (text bytes : List ℕ) → bytes_of_hex text ≡ Some bytes → (length text ≡ 2 * length bytes) × IsBytes bytes
