-- The lists of a policy: `id:column,column;id:column` and `column,column`.
use Rattle.std.specs.Prelude.{ℕ, ◌==◌, ◌||◌, ◌&&◌, Bool, not, List, [], length, map, if◌then◌else◌, Option, option_and_then, option_map}
use Rattle.std.specs.List.{list_all, slice_split, before_first, after_first, flat_map}
use Rattle.json_text.specs.Data.{Data}
use Rattle.json_text.specs.Find.{as_str}
use Rattle.key_material.specs.declared.policy.KeyedColumn.{KeyedColumn}
use Rattle.key_material.specs.PolicyValues.{passing, is_id}

-- the parts of a text between dividing bytes; a text without such a byte is one part
abbrev pub parts : ℕ → List ℕ → List (List ℕ)
parts divider text = slice_split (λ b. b == divider) text

-- `column,column`: names separated by commas, none of them empty
abbrev pub is_name : List ℕ → Bool
is_name name = not (length name == 0)

abbrev pub are_names : List ℕ → Bool
are_names text = list_all is_name (parts 44 text)

-- the empty text is the empty list
unfoldable pub is_name_list : List ℕ → Bool
is_name_list text = length text == 0 || are_names text

unfoldable pub name_list : List ℕ → List (List ℕ)
name_list text = if length text == 0 then [] else parts 44 text

unfoldable pub names_in : Data → Option (List (List ℕ))
names_in d = option_map name_list (option_and_then (passing is_name_list) (as_str d))

abbrev pub is_colon : ℕ → Bool
is_colon b = b == 58

-- `id:column,column`: a key id, and names after the first colon; a group without a colon has no name
abbrev pub is_group : List ℕ → Bool
is_group part = is_id (before_first is_colon part) && are_names (after_first is_colon part)

abbrev pub are_groups : List ℕ → Bool
are_groups text = list_all is_group (parts 59 text)

-- the empty text is the empty list of keys
unfoldable pub is_key_list : List ℕ → Bool
is_key_list text = length text == 0 || are_groups text

-- a column with the id of its key
abbrev pub under_key : List ℕ → List ℕ → KeyedColumn
under_key id column = record { id = id; column = column }

abbrev pub keys_of_group : List ℕ → List KeyedColumn
keys_of_group part = map (under_key (before_first is_colon part)) (parts 44 (after_first is_colon part))

abbrev pub keys_of_groups : List ℕ → List KeyedColumn
keys_of_groups text = flat_map keys_of_group (parts 59 text)

unfoldable pub key_list : List ℕ → List KeyedColumn
key_list text = if length text == 0 then [] else keys_of_groups text

unfoldable pub keys_in : Data → Option (List KeyedColumn)
keys_in d = option_map key_list (option_and_then (passing is_key_list) (as_str d))
