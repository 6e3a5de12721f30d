-- Each policy that was parsed keeps the rules.
use Rattle.std.proofs.Common.{◌≡◌, ◌⊎◌, inl, ℕ, ◌==◌, ◌≤◌, ◌&&◌, ◌||◌, Bool, true, false, not, nat_le, List, [], ◌∷◌, length, map, All, Option, Some, None, IfSome, option_and_then, unwrap_or, if◌then◌else◌, Result, Ok, refl, sym, ap, subst, ◌∙◌, lit≤, arith}
use Rattle.std.specs.Prelude.{⊤}
use Rattle.std.specs.Option.{ok_or, option_or}
use Rattle.pme_base.specs.Steps.{◌>>=◌}
use Rattle.std.specs.List.{list_all, flat_map, before_first, after_first}
use Rattle.std.specs.Str.{is_utf8}
use Rattle.std.proofs.lemmas.Bool.{false≢true, and_parts}
use Rattle.std.proofs.lemmas.Bool.Decides.{nat_tests}
use Rattle.std.proofs.lemmas.Str.{IsUtf8-from_is_utf8}
use Rattle.std.proofs.lemmas.List.Elements.{All-nil, All-cons, All-append}
use Rattle.json_text.specs.Data.{Data, Members}
use Rattle.json_text.specs.Find.{get, get_member, as_str, as_object}
use Rattle.json_text.specs.Json.{json_of}
use Rattle.json_text.specs.Members.{first_bad}
use Rattle.json_text.specs.Codings.{bytes_of_hex}
use Rattle.key_material.specs.declared.policy.KeyedColumn.{KeyedColumn}
use Rattle.key_material.specs.declared.policy.Policy.{Policy}
use Rattle.key_material.specs.Names as name
use Rattle.key_material.specs.PolicyValues.{is_id, id_in, has_divider, is_key_bits, bits_in, is_row_count, rows_in, is_prefix, prefix_of, prefix_in, whole_in}
use Rattle.key_material.specs.KeyLists.{parts, is_name, are_names, is_name_list, name_list, names_in, is_colon, is_group, is_key_list, key_list, keys_in, keys_of_group, under_key}
use Rattle.key_material.specs.PolicyText.{is_good, is_known, is_replaced, is_uniform, footer_id, said, column_keys, footer_columns, prefix, settings, none_bad, policy_of_members, policy_of, policy_of_text}
use Rattle.key_material.specs.PolicyRules.{IsId, IsName, IsKeyed, IsRowCount, KeepsRules}
use Rattle.key_material.proofs.Taken.{after, there, chained, mapped, passed}
use Rattle.key_material.proofs.GoodNames.{good_at, object_of_members}

-- ---- values

pub id_of : (id : List ℕ) → is_id id ≡ true → IsId id
unfolding is_id
id_of id is =
    let undivided = and_parts (is_utf8 id && not (length id == 0) && nat_le (length id) 256) (not (has_divider id)) is in
    let short = and_parts (is_utf8 id && not (length id == 0)) (nat_le (length id) 256) undivided.0 in
    let some = and_parts (is_utf8 id) (not (length id == 0)) short.0 in
    record {
      utf8 = IsUtf8-from_is_utf8 id some.0;
      some = let e = some.1 in grind (arith, nat_tests);
      short = let e = short.1 in grind (arith, nat_tests);
      undivided = let e = undivided.1 in grind (arith, nat_tests);
    }

name_of : (name : List ℕ) → is_name name ≡ true → IsName name
name_of name is = grind (arith, nat_tests)

bits_of : (bits : ℕ) → is_key_bits bits ≡ true → (bits ≡ 128) ⊎ ((bits ≡ 192) ⊎ (bits ≡ 256))
bits_of bits is = grind (arith, nat_tests)

rows_of : (rows : ℕ) → is_row_count rows ≡ true → IsRowCount rows
rows_of rows is = grind (arith, nat_tests)

prefix_is : (bytes : List ℕ) → is_prefix bytes ≡ true → (1 ≤ length bytes) × (length bytes ≤ 1024)
prefix_is bytes is = grind (arith, nat_tests)

-- ---- lists

all_names : (names : List (List ℕ)) → list_all is_name names ≡ true → All IsName names
all_names [] is = All-nil IsName
all_names (name ∷ names) is =
    let both = and_parts (is_name name) (list_all is_name names) is in
    All-cons IsName name names (name_of name both.0) (all_names names both.1)

all_under : (id : List ℕ) → IsId id → (names : List (List ℕ)) → list_all is_name names ≡ true → All IsKeyed (map (under_key id) names)
all_under id key [] is = All-nil IsKeyed
all_under id key (name ∷ names) is =
    let both = and_parts (is_name name) (list_all is_name names) is in
    All-cons IsKeyed (under_key id name) (map (under_key id) names) (record { id = key; column = name_of name both.0 }) (all_under id key names both.1)

all_of_group : (group : List ℕ) → is_group group ≡ true → All IsKeyed (keys_of_group group)
all_of_group group is =
    let both = and_parts (is_id (before_first is_colon group)) (are_names (after_first is_colon group)) is in
    all_under (before_first is_colon group) (id_of (before_first is_colon group) both.0) (parts 44 (after_first is_colon group)) both.1

all_of_groups : (groups : List (List ℕ)) → list_all is_group groups ≡ true → All IsKeyed (flat_map keys_of_group groups)
all_of_groups [] is = All-nil IsKeyed
all_of_groups (group ∷ groups) is =
    let both = and_parts (is_group group) (list_all is_group groups) is in
    All-append IsKeyed (keys_of_group group) (flat_map keys_of_group groups) (all_of_group group both.0) (all_of_groups groups both.1)

-- the empty text is the empty list
names_if : (empty : Bool) (names : List (List ℕ)) → (empty || list_all is_name names) ≡ true → All IsName (if empty then [] else names)
names_if true names is = All-nil IsName
names_if false names is = all_names names is

keys_if : (empty : Bool) (groups : List (List ℕ)) → (empty || list_all is_group groups) ≡ true → All IsKeyed (if empty then [] else flat_map keys_of_group groups)
keys_if true groups is = All-nil IsKeyed
keys_if false groups is = all_of_groups groups is

-- ---- kinds of values

id_kept : (d : Data) (id : List ℕ) → id_in d ≡ Some id → IsId id
unfolding id_in
id_kept d id is =
    let said = chained (as_str d) _ id is in
    let good = passed is_id said.0 id said.2 in
    subst IsId good.1 (id_of said.0 good.0)

names_kept : (d : Data) (names : List (List ℕ)) → names_in d ≡ Some names → All IsName names
unfolding names_in name_list is_name_list
names_kept d names is =
    let list = mapped _ name_list names is in
    let text = chained (as_str d) _ list.0 list.1 in
    let good = passed is_name_list text.0 list.0 text.2 in
    subst (All IsName) (ap name_list good.1 ∙ list.2) (names_if (length text.0 == 0) (parts 44 text.0) good.0)

keys_kept : (d : Data) (keys : List KeyedColumn) → keys_in d ≡ Some keys → All IsKeyed keys
unfolding keys_in key_list is_key_list
keys_kept d keys is =
    let list = mapped _ key_list keys is in
    let text = chained (as_str d) _ list.0 list.1 in
    let good = passed is_key_list text.0 list.0 text.2 in
    subst (All IsKeyed) (ap key_list good.1 ∙ list.2) (keys_if (length text.0 == 0) (parts 59 text.0) good.0)

bits_kept : (d : Data) (bits : ℕ) → bits_in d ≡ Some bits → (bits ≡ 128) ⊎ ((bits ≡ 192) ⊎ (bits ≡ 256))
unfolding bits_in
bits_kept d bits is =
    let said = chained (whole_in d) _ bits is in
    let good = passed is_key_bits said.0 bits said.2 in
    subst (λ n. (n ≡ 128) ⊎ ((n ≡ 192) ⊎ (n ≡ 256))) good.1 (bits_of said.0 good.0)

rows_kept : (d : Data) (rows : ℕ) → rows_in d ≡ Some rows → IsRowCount rows
unfolding rows_in
rows_kept d rows is =
    let said = chained (whole_in d) _ rows is in
    let good = passed is_row_count said.0 rows said.2 in
    subst IsRowCount good.1 (rows_of said.0 good.0)

abbrev IsPrefix : List ℕ → Type 0
IsPrefix bytes = (1 ≤ length bytes) × (length bytes ≤ 1024)

prefix_kept : (d : Data) (bytes : List ℕ) → prefix_in d ≡ Some bytes → IsPrefix bytes
unfolding prefix_in prefix_of
prefix_kept d bytes is =
    let text = chained (as_str d) prefix_of bytes is in
    let hex = chained (bytes_of_hex text.0) _ bytes text.2 in
    let good = passed is_prefix hex.0 bytes hex.2 in
    subst IsPrefix good.1 (prefix_is hex.0 good.0)

-- ---- the values of names

module _ {T : Type 0} (P : T → Type 0) (kind : Data → Option T) (kept : (d : Data) (x : T) → kind d ≡ Some x → P x) where
  if_said : (o : Option T) → ((x : T) → o ≡ Some x → P x) → IfSome o P
  if_said (Some x) of_value = of_value x refl
  if_said None of_value = tt

  by_kind : (found : Option Data) (x : T) → option_and_then kind found ≡ Some x → P x
  by_kind found x is = let value = chained found kind x is in kept value.0 x value.2

  said_or_default : (o : Option T) (default : T) → P default → ((x : T) → o ≡ Some x → P x) → P (unwrap_or o default)
  said_or_default (Some x) default of_default of_value = of_value x refl
  said_or_default None default of_default of_value = of_default

  said_kept : (n : List ℕ) (default : T) (d : Data) → P default → P (said kind n default d)
  said_kept n default d of_default = said_or_default (option_and_then kind (get n d)) default of_default (by_kind (get n d))

  found_kept : (n : List ℕ) (d : Data) → IfSome (option_and_then kind (get n d)) P
  found_kept n d = if_said (option_and_then kind (get n d)) (by_kind (get n d))

-- ---- the policy of an object

replaced_is_bad : (uniform replaced known : Bool) → uniform ≡ true → replaced ≡ true → (not (uniform && replaced) && known) ≡ true → ⊥
replaced_is_bad true true known is_uniform is_replaced is = false≢true is
replaced_is_bad true false known is_uniform is_replaced is = false≢true is_replaced
replaced_is_bad false replaced known is_uniform is_replaced is = false≢true is_uniform

module _ (d : Data) (ms : Members) (is_object : as_object d ≡ Some ms) (good : first_bad (is_good (is_uniform d)) ms ≡ None) where
  none_if : (n : List ℕ) (o : Option Data) → get_member n ms ≡ o → is_uniform d ≡ true → is_replaced n ≡ true → o ≡ None
  unfolding is_good
  none_if n None is uniform replaced = refl
  none_if n (Some v) is uniform replaced = absurd (replaced_is_bad (is_uniform d) (is_replaced n) (is_known n v) uniform replaced (good_at (is_good (is_uniform d)) ms n v good is))

  absent : (n : List ℕ) → is_uniform d ≡ true → is_replaced n ≡ true → get n d ≡ None
  absent n uniform replaced = subst (λ e. get n e ≡ None) (sym (object_of_members d ms is_object)) (none_if n (get_member n ms) refl uniform replaced)

  no_column_keys : is_uniform d ≡ true → column_keys d ≡ []
  unfolding column_keys is_replaced
  no_column_keys uniform = ap (λ o. unwrap_or (option_and_then keys_in o) []) (absent name.column_keys uniform refl)

  no_footer_columns : is_uniform d ≡ true → footer_columns d ≡ []
  unfolding footer_columns is_replaced
  no_footer_columns uniform = ap (λ o. unwrap_or (option_and_then names_in o) []) (absent name.footer_columns uniform refl)

  settings_kept : (id : List ℕ) → footer_id d ≡ Some id → KeepsRules (settings d id)
  unfolding settings footer_id column_keys footer_columns prefix
  settings_kept id is = record {
    footer_key = by_kind IsId id_in id_kept (option_or (get name.uniform_key d) (get name.footer_key d)) id is;
    column_keys = said_kept (All IsKeyed) keys_in keys_kept name.column_keys [] d (All-nil IsKeyed);
    footer_columns = said_kept (All IsName) names_in names_kept name.footer_columns [] d (All-nil IsName);
    uniform = λ uniform. (no_column_keys uniform, no_footer_columns uniform);
    bits = said_kept (λ n. (n ≡ 128) ⊎ ((n ≡ 192) ⊎ (n ≡ 256))) bits_in bits_kept name.data_key_bits 128 d (inl refl);
    prefix = found_kept IsPrefix prefix_in prefix_kept name.prefix d;
    rows_per_group = said_kept IsRowCount rows_in rows_kept name.rows_per_group 100000 d (lit≤ tt, lit≤ tt);
    rows_per_page = said_kept IsRowCount rows_in rows_kept name.rows_per_page 1000 d (lit≤ tt, lit≤ tt);
  }

no_bad : (o : Option (List ℕ)) (x : ⊤) → none_bad o ≡ Ok x → o ≡ None
no_bad None x is = refl
no_bad (Some n) x is = cc is

members_kept : (d : Data) (ms : Members) (policy : Policy) → as_object d ≡ Some ms → policy_of_members d ms ≡ Ok policy → KeepsRules policy
members_kept d ms policy is_object is =
    let with_id : List ℕ → Result Policy (List ℕ) = λ id. Ok (settings d id) in
    let good = after (none_bad (first_bad (is_good (is_uniform d)) ms)) (λ _. ok_or (footer_id d) name.footer_key >>= with_id) policy is in
    let id = after (ok_or (footer_id d) name.footer_key) with_id policy good.2 in
    let same : settings d id.0 ≡ policy = let e : with_id id.0 ≡ Ok policy = id.2 in cc in
    subst KeepsRules same (settings_kept d ms is_object (no_bad _ good.0 good.1) id.0 (there (footer_id d) name.footer_key id.0 id.1))

pub policies_keep_rules : (bytes : List ℕ) (policy : Policy) → policy_of_text bytes ≡ Ok policy → KeepsRules policy
unfolding policy_of_text
policies_keep_rules bytes policy is =
    let value = after (ok_or (json_of bytes) []) policy_of policy is in
    let members = after (ok_or (as_object value.0) []) (policy_of_members value.0) policy value.2 in
    members_kept value.0 members.0 policy (there (as_object value.0) [] members.0 members.1) members.2
