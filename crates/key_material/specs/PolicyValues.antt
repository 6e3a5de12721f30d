-- The values of a policy's names. Each definition gives the meaning of a JSON value, or None if the value is invalid.
use Rattle.std.specs.Prelude.{ℕ, ◌%◌, ◌==◌, ◌||◌, ◌&&◌, Bool, true, false, not, nat_le, List, length, codes, if◌then◌else◌, Option, Some, None, option_and_then}
use Rattle.std.specs.List.{list_any, list_all}
use Rattle.std.specs.Str.{is_utf8, bytes_eq}
use Rattle.json_text.specs.Data.{Data}
use Rattle.json_text.specs.Find.{as_str, as_number, as_u64}
use Rattle.json_text.specs.Hex.{is_hex_digit}
use Rattle.json_text.specs.Codings.{bytes_of_hex}

-- the value, if it passes the test
abbrev pub passing : {T : Type 0} → (T → Bool) → T → Option T
passing test x = if test x then Some x else None

-- `:`, `;` and `,`, which divide lists of ids and columns
abbrev pub is_divider : ℕ → Bool
is_divider b = b == 58 || b == 59 || b == 44

abbrev pub has_divider : List ℕ → Bool
has_divider text = list_any is_divider text

-- a key id: 1 to 256 bytes of text without a dividing byte; texts of JSON are UTF-8
unfoldable pub is_id : List ℕ → Bool
is_id text = is_utf8 text && not (length text == 0) && nat_le (length text) 256 && not (has_divider text)

unfoldable pub id_in : Data → Option (List ℕ)
id_in d = option_and_then (passing is_id) (as_str d)

-- whether the named algorithm is AES_GCM_CTR_V1
abbrev pub ctr_of : List ℕ → Option Bool
ctr_of name = if bytes_eq name (codes "AES_GCM_V1") then Some false else (if bytes_eq name (codes "AES_GCM_CTR_V1") then Some true else None)

unfoldable pub ctr_in : Data → Option Bool
ctr_in d = option_and_then ctr_of (as_str d)

-- a whole number of at most 64 bits
abbrev pub whole_in : Data → Option ℕ
whole_in d = option_and_then as_u64 (as_number d)

-- the length of an AES key in bits
abbrev pub is_key_bits : ℕ → Bool
is_key_bits bits = bits == 128 || bits == 192 || bits == 256

unfoldable pub bits_in : Data → Option ℕ
bits_in d = option_and_then (passing is_key_bits) (whole_in d)

-- the number of rows of a row group or a page
abbrev pub is_row_count : ℕ → Bool
is_row_count rows = nat_le 1 rows && nat_le rows 16777216

unfoldable pub rows_in : Data → Option ℕ
rows_in d = option_and_then (passing is_row_count) (whole_in d)

-- a prefix of 1 to 1,024 bytes in hex
abbrev pub is_prefix : List ℕ → Bool
is_prefix bytes = nat_le 1 (length bytes) && nat_le (length bytes) 1024

unfoldable pub prefix_of : List ℕ → Option (List ℕ)
prefix_of text = option_and_then (passing is_prefix) (bytes_of_hex text)

unfoldable pub prefix_in : Data → Option (List ℕ)
prefix_in d = option_and_then prefix_of (as_str d)

-- a prefix in hex, by its text: an even number of 2 to 2,048 digits of either case
abbrev pub is_prefix_text : List ℕ → Bool
is_prefix_text text = nat_le 2 (length text) && nat_le (length text) 2048 && (length text % 2 == 0) && list_all is_hex_digit text
