-- The trees of a plan hold the values of the plan under their field ids.
use Rattle.std.proofs.Common.{◌≡◌, ℕ, ◌+◌, ℤ, pos, Bool, true, false, List, [], ◌∷◌, length, map as map_list, Option, Some, None, Ok, refl, ◌∙◌, ap}
use Rattle.thrift_compact.specs.Tree.{struct, binary, int32, int64, list, truth, Trees, Fields, no_fields, field}
use Rattle.parquet_types.specs.declared.column.ColumnSpec.{ColumnSpec}
use Rattle.parquet_types.specs.declared.file_meta.AlgorithmMeta.{AlgorithmMeta}
use Rattle.parquet_types.specs.declared.file_meta.ChunkCrypto.{ChunkCrypto}
use Rattle.parquet_types.specs.declared.file_meta.ChunkCrypto.TheVariants as key
use Rattle.parquet_types.specs.declared.raw_footer.RawFileMeta.{RawFileMeta}
use Rattle.parquet_types.specs.declared.raw_footer.RowGroup.{RowGroup}
use Rattle.parquet_types.specs.declared.raw_footer.SchemaElement.{SchemaElement}
use Rattle.parquet_fields.specs.declared.field_state.FieldState.{FieldState}
use Rattle.parquet_fields.specs.declared.field_state.FieldState.TheVariants as state
use Rattle.parquet_types.specs.declared.page_head.DataHead.{DataHead}
use Rattle.parquet_types.specs.declared.page_head.PageHead.TheVariants.{Data}
use Rattle.parquet_types.specs.declared.plan.FooterPlan.{FooterPlan}
use Rattle.parquet_types.specs.declared.plan.WrittenChunk.{WrittenChunk}
use Rattle.parquet_types.specs.declared.plan.WrittenGroup.{WrittenGroup}
use Rattle.parquet_fields.specs.Fields.{Checked, of_checked, struct_of, items_of, onto_items}
use Rattle.parquet_writing.specs.Plans.{where_some, where_true, structs, page_header, aes_gcm, algorithm_id, encryption_algorithm, file_crypto_meta_data, kind_number, column_meta_data, column_crypto, column_chunk, row_group, row_groups, schema_column, schema, fixed_length, repetition, signing_algorithm, file_meta_data}
use Rattle.parquet_meta.specs.ReadBack.{chunk_meta, shown_meta, chunk_key, chunk_part, group_part, group_parts, root_part, column_part, converted_part, plan_fields, signed_by}
use Rattle.parquet_fields.specs.Structs as read

pub page_head_is : (head : DataHead) → read.page_head (page_header head) ≡ Ok (Data head)
page_head_is head = refl

aes_gcm_by : (prefix : Option (List ℕ)) (unique : List ℕ) (supply : Bool) → read.aes_gcm (where_some (pos 1) binary prefix (field (pos 2) (binary unique) (where_true (pos 3) (truth true) supply no_fields))) ≡ Ok (record { prefix = prefix; unique = unique; supply = supply })
aes_gcm_by None unique false = refl
aes_gcm_by None unique true = refl
aes_gcm_by (Some prefix) unique false = refl
aes_gcm_by (Some prefix) unique true = refl

algorithm_by : (ctr : Bool) (algorithm : AlgorithmMeta) → read.algorithm (field (algorithm_id ctr) (struct (aes_gcm algorithm)) no_fields) ≡ Ok (record { ctr = ctr; prefix = algorithm.prefix; unique = algorithm.unique; supply = algorithm.supply })
algorithm_by false algorithm = ap (λ c. read.algorithm_of (record { gcm = of_checked c; ctr = state.Absent })) (aes_gcm_by algorithm.prefix algorithm.unique algorithm.supply)
algorithm_by true algorithm = ap (λ c. read.algorithm_of (record { gcm = state.Absent; ctr = of_checked c })) (aes_gcm_by algorithm.prefix algorithm.unique algorithm.supply)

pub algorithm_is : (algorithm : AlgorithmMeta) → read.algorithm (encryption_algorithm algorithm) ≡ Ok algorithm
algorithm_is algorithm = algorithm_by algorithm.ctr algorithm

pub file_crypto_is : (algorithm : AlgorithmMeta) (key_metadata : List ℕ) → read.file_crypto (file_crypto_meta_data algorithm key_metadata) ≡ Ok (record { algorithm = algorithm; key_metadata = Some key_metadata })
file_crypto_is algorithm key_metadata = ap (λ c. read.file_crypto_of (record { algorithm = of_checked c; key_metadata = state.Value key_metadata })) (algorithm_is algorithm)

pub column_meta_is : (chunk : WrittenChunk) → read.column_meta (column_meta_data chunk) ≡ Ok (chunk_meta chunk)
column_meta_is chunk = refl

chunk_by :
    (chunk : WrittenChunk) (shown : Bool) (crypto : ChunkCrypto) (sealed : Option (List ℕ))
    → read.column_chunk (field (pos 2) (int64 chunk.start) (where_true (pos 3) (struct (column_meta_data chunk)) shown (where_some (pos 8) struct (column_crypto chunk.spec.name crypto) (where_some (pos 9) binary sealed no_fields))))
    ≡ Ok (record { file_path = None; plain_meta = shown_meta chunk shown; crypto = chunk_key chunk.spec.name crypto; sealed_meta = sealed })
chunk_by chunk false key.Plain None = refl
chunk_by chunk false key.Plain (Some sealed) = refl
chunk_by chunk false key.FooterKey None = refl
chunk_by chunk false key.FooterKey (Some sealed) = refl
chunk_by chunk false (key.ColumnKey None) None = refl
chunk_by chunk false (key.ColumnKey None) (Some sealed) = refl
chunk_by chunk false (key.ColumnKey (Some metadata)) None = refl
chunk_by chunk false (key.ColumnKey (Some metadata)) (Some sealed) = refl
chunk_by chunk true key.Plain None = refl
chunk_by chunk true key.Plain (Some sealed) = refl
chunk_by chunk true key.FooterKey None = refl
chunk_by chunk true key.FooterKey (Some sealed) = refl
chunk_by chunk true (key.ColumnKey None) None = refl
chunk_by chunk true (key.ColumnKey None) (Some sealed) = refl
chunk_by chunk true (key.ColumnKey (Some metadata)) None = refl
chunk_by chunk true (key.ColumnKey (Some metadata)) (Some sealed) = refl

chunk_is : (chunk : WrittenChunk) → read.column_chunk (column_chunk chunk) ≡ Ok (chunk_part chunk)
chunk_is chunk = chunk_by chunk chunk.show_meta chunk.crypto chunk.sealed_meta

-- A list of structs, each of which is read as a value.
items_are :
    {A X : Type 0} (checked : Fields → Checked X) (f : A → Fields) (g : A → X)
    → ((a : A) → checked (f a) ≡ Ok (g a)) → (xs : List A) → items_of (struct_of checked) (structs (map_list f xs)) ≡ state.Value (map_list g xs)
items_are checked f g each [] = refl
items_are checked f g each (x ∷ xs) =
    ap (λ c. onto_items (of_checked c) (items_of (struct_of checked) (structs (map_list f xs)))) (each x) ∙ ap (onto_items (state.Value (g x))) (items_are checked f g each xs)

group_is : (position : ℕ) (group : WrittenGroup) → read.row_group (row_group position group) ≡ Ok (group_part position group)
group_is position group =
    ap (λ chunks. read.row_group_of (record { chunks = chunks; num_rows = state.Value group.num_rows; ordinal = state.Value (pos position) })) (items_are read.column_chunk column_chunk chunk_part chunk_is group.chunks)

groups_are : (position : ℕ) (groups : List WrittenGroup) → items_of (struct_of read.row_group) (structs (row_groups position groups)) ≡ state.Value (group_parts position groups)
groups_are position [] = refl
groups_are position (group ∷ groups) =
    ap (λ c. onto_items (of_checked c) (items_of (struct_of read.row_group) (structs (row_groups (position + 1) groups)))) (group_is position group)
    ∙ ap (onto_items (state.Value (group_part position group))) (groups_are (position + 1) groups)

column_by :
    (k : ℤ) (size : Option ℤ) (repeated : ℤ) (name : List ℕ) (text : Bool)
    → read.schema_element (field (pos 1) (int32 k) (where_some (pos 2) int32 size (field (pos 3) (int32 repeated) (field (pos 4) (binary name) (where_true (pos 6) (int32 (pos 0)) text no_fields)))))
    ≡ Ok (record { kind = Some k; type_length = size; repetition = Some repeated; name = name; num_children = None; converted = converted_part text })
column_by k None repeated name false = refl
column_by k None repeated name true = refl
column_by k (Some size) repeated name false = refl
column_by k (Some size) repeated name true = refl

column_is : (column : ColumnSpec) → read.schema_element (schema_column column) ≡ Ok (column_part column)
column_is column = column_by (kind_number column.kind) (fixed_length column.kind) (repetition column.optional) column.name column.text

schema_is : (columns : List ColumnSpec) → items_of (struct_of read.schema_element) (structs (schema columns)) ≡ state.Value (root_part (length columns) ∷ map_list column_part columns)
schema_is columns = ap (onto_items (state.Value (root_part (length columns)))) (items_are read.schema_element schema_column column_part column_is columns)

-- The state of an optional field.
abbrev state_of : {X : Type 0} → Option X → FieldState X
state_of None = state.Absent
state_of (Some x) = state.Value x

abbrev algorithm_state : Option AlgorithmMeta → FieldState AlgorithmMeta
algorithm_state None = state.Absent
algorithm_state (Some algorithm) = of_checked (read.algorithm (encryption_algorithm algorithm))

algorithm_state_is : (algorithm : Option AlgorithmMeta) → algorithm_state algorithm ≡ state_of algorithm
algorithm_state_is None = refl
algorithm_state_is (Some algorithm) = ap of_checked (algorithm_is algorithm)

abbrev judged_file : FieldState (List SchemaElement) → FieldState ℤ → FieldState (List RowGroup) → FieldState AlgorithmMeta → FieldState (List ℕ) → Checked RawFileMeta
judged_file schema rows groups algorithm metadata =
    read.raw_file_meta_of (record { schema = schema; num_rows = rows; groups = groups; algorithm = algorithm; signing_key_metadata = metadata })

abbrev judged_signing : FieldState AlgorithmMeta → FieldState (List ℕ) → Checked (Option AlgorithmMeta × Option (List ℕ))
judged_signing algorithm metadata = read.signing_of (record { algorithm = algorithm; key_metadata = metadata })

abbrev footer_of : Trees → ℤ → Trees → Option AlgorithmMeta → Option (List ℕ) → Fields
footer_of columns rows groups algorithm metadata =
    field (pos 1) (int32 (pos 1))
    (field (pos 2) (list columns)
    (field (pos 3) (int64 rows)
    (field (pos 4) (list groups)
    (field (pos 6) (binary (112 ∷ 109 ∷ 101 ∷ []))
    (where_some (pos 8) struct (signing_algorithm algorithm)
    (where_some (pos 9) binary metadata no_fields))))))

file_by :
    (columns groups : Trees) (rows : ℤ) (algorithm : Option AlgorithmMeta) (metadata : Option (List ℕ))
    → read.raw_file_meta (footer_of columns rows groups algorithm metadata)
    ≡ judged_file (items_of (struct_of read.schema_element) columns) (state.Value rows) (items_of (struct_of read.row_group) groups) (algorithm_state algorithm) (state_of metadata)
file_by columns groups rows None None = refl
file_by columns groups rows None (Some metadata) = refl
file_by columns groups rows (Some algorithm) None = refl
file_by columns groups rows (Some algorithm) (Some metadata) = refl

file_from :
    (plan : FooterPlan) (algorithm : Option AlgorithmMeta) (metadata : Option (List ℕ))
    → judged_file (state.Value (root_part (length plan.schema) ∷ map_list column_part plan.schema)) (state.Value plan.num_rows) (state.Value (group_parts 0 plan.groups)) (state_of algorithm) (state_of metadata)
    ≡ Ok (record { schema = root_part (length plan.schema) ∷ map_list column_part plan.schema; num_rows = plan.num_rows; groups = group_parts 0 plan.groups; algorithm = algorithm; signing_key_metadata = metadata })
file_from plan None None = refl
file_from plan None (Some metadata) = refl
file_from plan (Some algorithm) None = refl
file_from plan (Some algorithm) (Some metadata) = refl

pub raw_file_meta_are : (plan : FooterPlan) → read.raw_file_meta (file_meta_data plan) ≡ Ok (plan_fields plan)
raw_file_meta_are plan =
    file_by (structs (schema plan.schema)) (structs (row_groups 0 plan.groups)) plan.num_rows plan.algorithm plan.signing_key_metadata
    ∙ (ap (λ s. judged_file s (state.Value plan.num_rows) (items_of (struct_of read.row_group) (structs (row_groups 0 plan.groups))) (algorithm_state plan.algorithm) (state_of plan.signing_key_metadata)) (schema_is plan.schema)
    ∙ (ap (λ g. judged_file (state.Value (root_part (length plan.schema) ∷ map_list column_part plan.schema)) (state.Value plan.num_rows) g (algorithm_state plan.algorithm) (state_of plan.signing_key_metadata)) (groups_are 0 plan.groups)
    ∙ (ap (λ a. judged_file (state.Value (root_part (length plan.schema) ∷ map_list column_part plan.schema)) (state.Value plan.num_rows) (state.Value (group_parts 0 plan.groups)) a (state_of plan.signing_key_metadata)) (algorithm_state_is plan.algorithm)
    ∙ file_from plan plan.algorithm plan.signing_key_metadata)))

signing_by :
    (columns groups : Trees) (rows : ℤ) (algorithm : Option AlgorithmMeta) (metadata : Option (List ℕ))
    → read.signing (footer_of columns rows groups algorithm metadata) ≡ judged_signing (algorithm_state algorithm) (state_of metadata)
signing_by columns groups rows None None = refl
signing_by columns groups rows None (Some metadata) = refl
signing_by columns groups rows (Some algorithm) None = refl
signing_by columns groups rows (Some algorithm) (Some metadata) = refl

signing_from : (algorithm : Option AlgorithmMeta) (metadata : Option (List ℕ)) → judged_signing (state_of algorithm) (state_of metadata) ≡ Ok (signed_by algorithm metadata)
signing_from None None = refl
signing_from None (Some metadata) = refl
signing_from (Some algorithm) None = refl
signing_from (Some algorithm) (Some metadata) = refl

pub signing_is : (plan : FooterPlan) → read.signing (file_meta_data plan) ≡ Ok (signed_by plan.algorithm plan.signing_key_metadata)
signing_is plan =
    signing_by (structs (schema plan.schema)) (structs (row_groups 0 plan.groups)) plan.num_rows plan.algorithm plan.signing_key_metadata
    ∙ (ap (λ a. judged_signing a (state_of plan.signing_key_metadata)) (algorithm_state_is plan.algorithm) ∙ signing_from plan.algorithm plan.signing_key_metadata)
