-- A policy as a JSON object: each of its names is known and has a valid value.
use Rattle.std.specs.Prelude.{◌≡◌, ℕ, ◌&&◌, ◌||◌, Bool, true, false, not, is_some, List, [], Option, Some, None, option_and_then, unwrap_or, Result, Ok, Err, ⊤}
use Rattle.std.specs.Option.{ok_or, option_or}
use Rattle.std.specs.Str.{bytes_eq}
use Rattle.pme_base.specs.Steps.{◌>>=◌}
use Rattle.json_text.specs.Data.{Data, Members}
use Rattle.json_text.specs.Find.{get, as_bool, as_object}
use Rattle.json_text.specs.Json.{json_of}
use Rattle.json_text.specs.Members.{first_bad}
use Rattle.key_material.specs.declared.policy.KeyedColumn.{KeyedColumn}
use Rattle.key_material.specs.declared.policy.Policy.{Policy}
use Rattle.key_material.specs.declared.policy.PolicyRefusal.{PolicyRefusal}
use Rattle.key_material.specs.declared.policy.PolicyRefusal.TheVariants.{Bad, OutOfMemory}
use Rattle.key_material.specs.Names as name
use Rattle.key_material.specs.PolicyValues.{id_in, ctr_in, bits_in, rows_in, prefix_in}
use Rattle.key_material.specs.KeyLists.{keys_in, names_in}

-- names for keys, and lists of columns under them
unfoldable pub names_keys : List ℕ → Data → Bool
names_keys n d =
    (bytes_eq n name.footer_key && is_some (id_in d))
    || (bytes_eq n name.uniform_key && is_some (id_in d))
    || (bytes_eq n name.column_keys && is_some (keys_in d))
    || (bytes_eq n name.footer_columns && is_some (names_in d))

-- names for the layout
unfoldable pub names_layout : List ℕ → Data → Bool
names_layout n d =
    (bytes_eq n name.algorithm && is_some (ctr_in d))
    || (bytes_eq n name.data_key_bits && is_some (bits_in d))
    || (bytes_eq n name.prefix && is_some (prefix_in d))
    || (bytes_eq n name.rows_per_group && is_some (rows_in d))
    || (bytes_eq n name.rows_per_page && is_some (rows_in d))

-- names with a truth value
unfoldable pub names_switch : List ℕ → Data → Bool
names_switch n d =
    (bytes_eq n name.plaintext_footer || bytes_eq n name.double_wrapping || bytes_eq n name.store_internally || bytes_eq n name.prefix_stored)
    && is_some (as_bool d)

-- the name is known and its value is valid
unfoldable pub is_known : List ℕ → Data → Bool
is_known n d = names_keys n d || names_layout n d || names_switch n d

-- names that a uniform key replaces, and which are bad beside it
unfoldable pub is_replaced : List ℕ → Bool
is_replaced n = bytes_eq n name.footer_key || bytes_eq n name.column_keys || bytes_eq n name.footer_columns

unfoldable pub is_good : Bool → List ℕ → Data → Bool
is_good uniform n d = not (uniform && is_replaced n) && is_known n d

-- the policy has a uniform key
unfoldable pub is_uniform : Data → Bool
is_uniform d = is_some (get name.uniform_key d)

-- the id of the footer key; a uniform key is one
unfoldable pub footer_id : Data → Option (List ℕ)
footer_id d = option_and_then id_in (option_or (get name.uniform_key d) (get name.footer_key d))

-- the value of a name, or its default
abbrev pub said : {T : Type 0} → (Data → Option T) → List ℕ → T → Data → T
said kind n default d = unwrap_or (option_and_then kind (get n d)) default

unfoldable pub column_keys : Data → List KeyedColumn
column_keys d = said keys_in name.column_keys [] d

unfoldable pub footer_columns : Data → List (List ℕ)
footer_columns d = said names_in name.footer_columns [] d

unfoldable pub prefix : Data → Option (List ℕ)
prefix d = option_and_then prefix_in (get name.prefix d)

-- the policy of an object with this id of the footer key
unfoldable pub settings : Data → List ℕ → Policy
settings d id = record {
  uniform = is_uniform d;
  footer_key = id;
  column_keys = column_keys d;
  footer_columns = footer_columns d;
  ctr = said ctr_in name.algorithm false d;
  plaintext_footer = said as_bool name.plaintext_footer false d;
  double = said as_bool name.double_wrapping true d;
  internal = said as_bool name.store_internally true d;
  bits = said bits_in name.data_key_bits 128 d;
  prefix = prefix d;
  stored = said as_bool name.prefix_stored true d;
  rows_per_group = said rows_in name.rows_per_group 100000 d;
  rows_per_page = said rows_in name.rows_per_page 1000 d;
}

-- a bad name is the refusal
abbrev pub none_bad : Option (List ℕ) → Result ⊤ (List ℕ)
none_bad None = Ok tt
none_bad (Some n) = Err n

-- the policy of an object, or its first bad name in byte order, or the name of the footer key if all names are valid and
-- none gives that key
abbrev pub policy_of_members : Data → Members → Result Policy (List ℕ)
policy_of_members d ms = do
  good ← none_bad (first_bad (is_good (is_uniform d)) ms)
  id ← ok_or (footer_id d) name.footer_key
  Ok (settings d id)

-- the empty name, if it isn't an object
abbrev pub policy_of : Data → Result Policy (List ℕ)
policy_of d = ok_or (as_object d) [] >>= policy_of_members d

-- the policy of a text, or the name for which it is refused
unfoldable pub policy_of_text : List ℕ → Result Policy (List ℕ)
policy_of_text bytes = ok_or (json_of bytes) [] >>= policy_of

-- the refusal reports this name, or that memory was refused
abbrev pub IsRefusalOf : Result Policy (List ℕ) → PolicyRefusal → Type 0
IsRefusalOf text (Bad n) = text ≡ Err n
IsRefusalOf text OutOfMemory = ⊤
