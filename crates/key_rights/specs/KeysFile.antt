-- Keys files, which are JSON objects that map ids to keys, and the answers of a finder with such a file.
use Rattle.std.specs.Prelude.{◌≡◌, ◌↔◌, ◌⊎◌, ℕ, ◌==◌, ◌||◌, List, [], ◌∷◌, ◌++◌, length, codes, IsSome, if◌then◌else◌, Option, Some, None, option_map, option_and_then, Result, Err, ⊤}
use Rattle.std.specs.List.{AllPass}
use Rattle.std.specs.Str.{bytes_eq}
use Rattle.json_text.specs.Hex.{is_hex_digit}
use Rattle.json_text.specs.Data.{Data}
use Rattle.json_text.specs.Find.{as_str}
use Rattle.json_text.specs.Codings.{bytes_of_hex}
use Rattle.json_text.specs.Json.{object_of}
use Rattle.json_text.specs.Members.{each_in_object}
use Rattle.key_rights.specs.declared.id_key.IdKey.{IdKey}
use Rattle.key_rights.specs.declared.id_keys.KeysRefusal.{KeysRefusal}
use Rattle.key_rights.specs.declared.id_keys.KeysRefusal.TheVariants.{Bad, OutOfMemory}
use Rattle.key_rights.specs.declared.finder.KeyAnswer.{KeyAnswer}
use Rattle.key_rights.specs.declared.finder.KeyAnswer.TheVariants.{Held, Absent}
use Rattle.key_rights.specs.Finding.{Asked, footer, column}

-- the bytes, if their number is the length of an AES key
abbrev pub as_key : List ℕ → Option (List ℕ)
as_key bytes = if length bytes == 16 || (length bytes == 24 || length bytes == 32) then Some bytes else None

-- the key with this hex text, of either case
unfoldable pub key_of_text : List ℕ → Option (List ℕ)
key_of_text text = option_and_then as_key (bytes_of_hex text)

-- the key in a member of the object: its name is the id, its value the hex text
unfoldable pub key_of_member : List ℕ → Data → Option IdKey
key_of_member id d = option_map (λ key. record { id = id; key = key }) (option_and_then key_of_text (as_str d))

-- the keys of a file, or the first id in byte order whose value is invalid, or the empty id if the text isn't an object
unfoldable pub keys_of_file : List ℕ → Result (List IdKey) (List ℕ)
keys_of_file bytes = each_in_object key_of_member (object_of bytes)

-- a refusal that is correct for this result: it reports the same id, or that memory was refused
abbrev pub IsRefusalOf : Result (List IdKey) (List ℕ) → KeysRefusal → Type 0
IsRefusalOf file (Bad id) = file ≡ Err id
IsRefusalOf file OutOfMemory = ⊤

-- the id of the key in question: the key metadata; without it `footer`, or `column:` and the path
abbrev pub id_asked : Asked → List ℕ
id_asked (footer (Some metadata)) = metadata
id_asked (footer None) = codes "footer"
id_asked (column (Some metadata) path) = metadata
id_asked (column None path) = codes "column:" ++ path

-- the key with this id, or Absent
abbrev pub key_by_id : List IdKey → List ℕ → KeyAnswer
key_by_id [] id = Absent
key_by_id (first ∷ rest) id = if bytes_eq first.id id then Held first.key else key_by_id rest id

-- the answer of a keys file to a question
abbrev pub answer_by_id : List IdKey → Asked → KeyAnswer
answer_by_id keys asked = key_by_id keys (id_asked asked)

-- a text is a valid key if and only if it consists of 32, 48 or 64 hex digits
abbrev pub KeysAreHex : Type 0
KeysAreHex = (text : List ℕ) → IsSome (key_of_text text) ↔ (((length text ≡ 32) ⊎ ((length text ≡ 48) ⊎ (length text ≡ 64))) × AllPass is_hex_digit text)
