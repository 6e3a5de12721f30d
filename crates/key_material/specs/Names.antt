-- The names of a policy.
use Rattle.std.specs.Prelude.{ℕ, List, codes}

-- names of parquet-java
abbrev pub footer_key : List ℕ
footer_key = codes "parquet.encryption.footer.key"

abbrev pub uniform_key : List ℕ
uniform_key = codes "parquet.encryption.uniform.key"

abbrev pub column_keys : List ℕ
column_keys = codes "parquet.encryption.column.keys"

abbrev pub algorithm : List ℕ
algorithm = codes "parquet.encryption.algorithm"

abbrev pub plaintext_footer : List ℕ
plaintext_footer = codes "parquet.encryption.plaintext.footer"

abbrev pub double_wrapping : List ℕ
double_wrapping = codes "parquet.encryption.double.wrapping"

abbrev pub store_internally : List ℕ
store_internally = codes "parquet.encryption.key.material.store.internally"

abbrev pub data_key_bits : List ℕ
data_key_bits = codes "parquet.encryption.data.key.length.bits"

-- names of this project
abbrev pub footer_columns : List ℕ
footer_columns = codes "pme.footer.key.columns"

abbrev pub prefix : List ℕ
prefix = codes "pme.aad.prefix"

abbrev pub prefix_stored : List ℕ
prefix_stored = codes "pme.aad.prefix.stored"

abbrev pub rows_per_group : List ℕ
rows_per_group = codes "pme.rows.per.group"

abbrev pub rows_per_page : List ℕ
rows_per_page = codes "pme.rows.per.page"
