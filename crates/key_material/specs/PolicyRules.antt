-- The rules that each parsed policy keeps, and on which a writer may rely.
use Rattle.std.specs.Prelude.{◌≡◌, ◌⊎◌, ℕ, ◌≤◌, true, false, List, [], length, All, IfSome, IsUtf8}
use Rattle.key_material.specs.declared.policy.KeyedColumn.{KeyedColumn}
use Rattle.key_material.specs.declared.policy.Policy.{Policy}
use Rattle.key_material.specs.PolicyValues.{has_divider}

-- a key id
pub record IsId (id : List ℕ) : Type 0 where
  pub utf8 : IsUtf8 id
  pub some : 1 ≤ length id
  pub short : length id ≤ 256
  pub undivided : has_divider id ≡ false

-- a column name
abbrev pub IsName : List ℕ → Type 0
IsName name = 1 ≤ length name

-- a column with a key of its own
pub record IsKeyed (key : KeyedColumn) : Type 0 where
  pub id : IsId key.id
  pub column : IsName key.column

-- the number of rows of a row group or a page
abbrev pub IsRowCount : ℕ → Type 0
IsRowCount rows = (1 ≤ rows) × (rows ≤ 16777216)

pub record KeepsRules (policy : Policy) : Type 0 where
  pub footer_key : IsId policy.footer_key
  pub column_keys : All IsKeyed policy.column_keys
  pub footer_columns : All IsName policy.footer_columns
  pub uniform : policy.uniform ≡ true → (policy.column_keys ≡ []) × (policy.footer_columns ≡ [])
  pub bits : (policy.bits ≡ 128) ⊎ ((policy.bits ≡ 192) ⊎ (policy.bits ≡ 256))
  pub prefix : IfSome policy.prefix (λ prefix. (1 ≤ length prefix) × (length prefix ≤ 1024))
  pub rows_per_group : IsRowCount policy.rows_per_group
  pub rows_per_page : IsRowCount policy.rows_per_page
