-- Every refusal of a field has one of three causes.
use Rattle.std.specs.Prelude.{◌≡◌, ℤ, pos, Bool, true, false, ◌||◌, if◌then◌else◌, List, Option, Some, None, Ok, Err, refl}
use Rattle.std.specs.Ordering.{int_eq}
use Rattle.pme_base.specs.declared.refusal.Cause.{Cause}
use Rattle.pme_base.specs.declared.refusal.Cause.TheVariants.{BadThrift, MissingField, BadField, Unsupported, OutOfMemory}
use Rattle.pme_base.specs.declared.refusal.StructName.{StructName}
use Rattle.pme_base.specs.declared.refusal.StructName.TheVariants as name
use Rattle.pme_base.specs.Steps.{◌>>=◌}
use Rattle.thrift_compact.specs.Reading.{same_id}
use Rattle.thrift_compact.specs.Tree.{Tree, truth, int16, int32, int64, binary, list, struct, Trees, no_trees, tree, Fields, no_fields, field}
use Rattle.parquet_types.specs.declared.file_meta.AlgorithmMeta.{AlgorithmMeta}
use Rattle.parquet_fields.specs.declared.algorithm.AesGcm.{AesGcm}
use Rattle.parquet_types.specs.declared.raw_footer.ColumnCrypto.{ColumnCrypto}
use Rattle.parquet_fields.specs.declared.field_state.FieldState.{FieldState}
use Rattle.parquet_fields.specs.declared.field_state.FieldState.TheVariants.{Absent, WrongType, Refused, Value}
use Rattle.parquet_fields.specs.declared.page_parts.DataCounts.{DataCounts}
use Rattle.parquet_fields.specs.declared.page_parts.DictionaryCounts.{DictionaryCounts}
use Rattle.parquet_fields.specs.Fields.{Checked, binary_of, truth_of, int16_of, int32_of, int64_of, of_checked, struct_of, onto_items, items_of, list_of, pick, under, optional, needed}
use Rattle.parquet_fields.specs.Structs.{aes_gcm, one_algorithm, algorithm, file_crypto, schema_element, column_meta, column_key, footer_key, one_key, column_crypto, column_chunk, row_group, raw_file_meta, signing_with, signing, data_counts, dictionary_counts, data_page, dictionary_page, page_of_type, page_head}

-- the causes with which a field can be refused, and a struct
abbrev pub is_field_cause : Cause → Bool
is_field_cause MissingField = true
is_field_cause BadField = true
is_field_cause Unsupported = true
is_field_cause _ = false

abbrev pub is_struct_cause : Cause → Bool
is_struct_cause BadThrift = true
is_struct_cause OutOfMemory = true
is_struct_cause cause = is_field_cause cause

abbrev pub CheckedCause : {X : Type 0} → Checked X → Type 0
CheckedCause (Ok x) = Unit {0}
CheckedCause (Err r) = is_field_cause r.cause ≡ true

abbrev pub StateCause : {X : Type 0} → FieldState X → Type 0
StateCause (Refused r) = is_field_cause r.cause ≡ true
StateCause _ = Unit {0}

-- Values.
binary_causes : (t : Tree) → StateCause (binary_of t)
binary_causes (binary bytes) = tt
binary_causes _ = tt

truth_causes : (t : Tree) → StateCause (truth_of t)
truth_causes (truth b) = tt
truth_causes _ = tt

int16_causes : (t : Tree) → StateCause (int16_of t)
int16_causes (int16 z) = tt
int16_causes _ = tt

int32_causes : (t : Tree) → StateCause (int32_of t)
int32_causes (int32 z) = tt
int32_causes _ = tt

int64_causes : (t : Tree) → StateCause (int64_of t)
int64_causes (int64 z) = tt
int64_causes _ = tt

of_checked_causes : {X : Type 0} (r : Checked X) → CheckedCause r → StateCause (of_checked r)
of_checked_causes (Ok x) causes = tt
of_checked_causes (Err r) causes = causes

struct_causes : {X : Type 0} (checked : Fields → Checked X) → ((fs : Fields) → CheckedCause (checked fs)) → (t : Tree) → StateCause (struct_of checked t)
struct_causes checked causes (struct fs) = of_checked_causes (checked fs) (causes fs)
struct_causes checked causes _ = tt

onto_causes : {X : Type 0} (x : FieldState X) (xs : FieldState (List X)) → StateCause x → StateCause xs → StateCause (onto_items x xs)
onto_causes (Value x) (Value xs) one others = tt
onto_causes (Value x) Absent one others = tt
onto_causes (Value x) WrongType one others = tt
onto_causes (Value x) (Refused r) one others = others
onto_causes (Refused r) xs one others = one
onto_causes Absent xs one others = tt
onto_causes WrongType xs one others = tt

items_causes : {X : Type 0} (item : Tree → FieldState X) → ((t : Tree) → StateCause (item t)) → (ts : Trees) → StateCause (items_of item ts)
items_causes item causes no_trees = tt
items_causes item causes (tree t ts) = onto_causes (item t) (items_of item ts) (causes t) (items_causes item causes ts)

list_causes : {X : Type 0} (item : Tree → FieldState X) → ((t : Tree) → StateCause (item t)) → (t : Tree) → StateCause (list_of item t)
list_causes item causes (list ts) = items_causes item causes ts
list_causes item causes _ = tt

-- Fields.
one_of_causes : {X : Type 0} (b : Bool) (x y : FieldState X) → StateCause x → StateCause y → StateCause (if b then x else y)
one_of_causes true x y one other = one
one_of_causes false x y one other = other

under_causes : {X : Type 0} (value : Tree → FieldState X) (number : ℤ) (before : FieldState X) (fs : Fields) → ((t : Tree) → StateCause (value t)) → StateCause before → StateCause (under value number before fs)
under_causes value number before no_fields causes first = first
under_causes value number before (field id t fs) causes first = under_causes value number (pick value number id t before) fs causes (one_of_causes (same_id id number) (value t) before (causes t) first)

step_causes : {X Y : Type 0} (r : Checked X) (next : X → Checked Y) → CheckedCause r → ((x : X) → CheckedCause (next x)) → CheckedCause (r >>= next)
step_causes (Ok x) next one others = others x
step_causes (Err r) next one others = one

optional_causes : {X : Type 0} (called : StructName) (number : ℤ) (state : FieldState X) → StateCause state → CheckedCause (optional called number state)
optional_causes called number Absent causes = tt
optional_causes called number WrongType causes = refl
optional_causes called number (Refused r) causes = causes
optional_causes called number (Value x) causes = tt

needed_causes : {X : Type 0} (called : StructName) (number : ℤ) (state : FieldState X) → StateCause state → CheckedCause (needed called number state)
needed_causes called number Absent causes = refl
needed_causes called number WrongType causes = refl
needed_causes called number (Refused r) causes = causes
needed_causes called number (Value x) causes = tt

optional_then : {X Y : Type 0} (called : StructName) (number : ℤ) (value : Tree → FieldState X) (fs : Fields) (next : Option X → Checked Y) → ((t : Tree) → StateCause (value t)) → ((x : Option X) → CheckedCause (next x)) → CheckedCause (optional called number (under value number Absent fs) >>= next)
optional_then called number value fs next causes others =
    step_causes (optional called number (under value number Absent fs)) next (optional_causes called number (under value number Absent fs) (under_causes value number Absent fs causes tt)) others

needed_then : {X Y : Type 0} (called : StructName) (number : ℤ) (value : Tree → FieldState X) (fs : Fields) (next : X → Checked Y) → ((t : Tree) → StateCause (value t)) → ((x : X) → CheckedCause (next x)) → CheckedCause (needed called number (under value number Absent fs) >>= next)
needed_then called number value fs next causes others =
    step_causes (needed called number (under value number Absent fs)) next (needed_causes called number (under value number Absent fs) (under_causes value number Absent fs causes tt)) others

-- Structs.
one_algorithm_causes : (gcm ctr : Option AesGcm) → CheckedCause (one_algorithm gcm ctr)
one_algorithm_causes None None = refl
one_algorithm_causes (Some gcm) None = tt
one_algorithm_causes None (Some ctr) = tt
one_algorithm_causes (Some gcm) (Some ctr) = refl

one_key_causes : (footer column : Option ColumnCrypto) → CheckedCause (one_key footer column)
one_key_causes None None = refl
one_key_causes (Some footer) None = tt
one_key_causes None (Some column) = tt
one_key_causes (Some footer) (Some column) = refl

data_page_causes : (u c : ℤ) (counts : Option DataCounts) → CheckedCause (data_page u c counts)
data_page_causes u c None = refl
data_page_causes u c (Some counts) = tt

dictionary_page_causes : (u c : ℤ) (counts : Option DictionaryCounts) → CheckedCause (dictionary_page u c counts)
dictionary_page_causes u c None = refl
dictionary_page_causes u c (Some counts) = tt

chosen_causes : {X : Type 0} (b : Bool) (x y : Checked X) → CheckedCause x → CheckedCause y → CheckedCause (if b then x else y)
chosen_causes true x y one other = one
chosen_causes false x y one other = other

page_of_type_causes : (type u c : ℤ) (counts : Option DataCounts) (dictionary : Option DictionaryCounts) → CheckedCause (page_of_type type u c counts dictionary)
page_of_type_causes type u c counts dictionary =
    chosen_causes (int_eq type (pos 0)) _ _ (data_page_causes u c counts)
    (chosen_causes (int_eq type (pos 2)) _ _ (dictionary_page_causes u c dictionary)
    (chosen_causes (int_eq type (pos 1) || int_eq type (pos 3)) _ _ refl refl))

pub aes_gcm_causes : (fs : Fields) → CheckedCause (aes_gcm fs)
aes_gcm_causes fs =
    optional_then name.AesGcm (pos 1) binary_of fs _ binary_causes (λ x0.
    needed_then name.AesGcm (pos 2) binary_of fs _ binary_causes (λ x1.
    optional_then name.AesGcm (pos 3) truth_of fs _ truth_causes (λ x2.
    tt)))

pub algorithm_causes : (fs : Fields) → CheckedCause (algorithm fs)
algorithm_causes fs =
    optional_then name.EncryptionAlgorithm (pos 1) (struct_of aes_gcm) fs _ (struct_causes aes_gcm aes_gcm_causes) (λ x0.
    optional_then name.EncryptionAlgorithm (pos 2) (struct_of aes_gcm) fs _ (struct_causes aes_gcm aes_gcm_causes) (λ x1.
    one_algorithm_causes x0 x1))

pub file_crypto_causes : (fs : Fields) → CheckedCause (file_crypto fs)
file_crypto_causes fs =
    needed_then name.FileCryptoMetaData (pos 1) (struct_of algorithm) fs _ (struct_causes algorithm algorithm_causes) (λ x0.
    optional_then name.FileCryptoMetaData (pos 2) binary_of fs _ binary_causes (λ x1.
    tt))

pub schema_element_causes : (fs : Fields) → CheckedCause (schema_element fs)
schema_element_causes fs =
    optional_then name.SchemaElement (pos 1) int32_of fs _ int32_causes (λ x0.
    optional_then name.SchemaElement (pos 2) int32_of fs _ int32_causes (λ x1.
    optional_then name.SchemaElement (pos 3) int32_of fs _ int32_causes (λ x2.
    needed_then name.SchemaElement (pos 4) binary_of fs _ binary_causes (λ x3.
    optional_then name.SchemaElement (pos 5) int32_of fs _ int32_causes (λ x4.
    optional_then name.SchemaElement (pos 6) int32_of fs _ int32_causes (λ x5.
    tt))))))

pub column_meta_causes : (fs : Fields) → CheckedCause (column_meta fs)
column_meta_causes fs =
    needed_then name.ColumnMetaData (pos 1) int32_of fs _ int32_causes (λ x0.
    needed_then name.ColumnMetaData (pos 3) (list_of binary_of) fs _ (list_causes binary_of binary_causes) (λ x1.
    needed_then name.ColumnMetaData (pos 4) int32_of fs _ int32_causes (λ x2.
    needed_then name.ColumnMetaData (pos 5) int64_of fs _ int64_causes (λ x3.
    needed_then name.ColumnMetaData (pos 9) int64_of fs _ int64_causes (λ x4.
    optional_then name.ColumnMetaData (pos 11) int64_of fs _ int64_causes (λ x5.
    tt))))))

pub column_key_causes : (fs : Fields) → CheckedCause (column_key fs)
column_key_causes fs =
    needed_then name.EncryptionWithColumnKey (pos 1) (list_of binary_of) fs _ (list_causes binary_of binary_causes) (λ x0.
    optional_then name.EncryptionWithColumnKey (pos 2) binary_of fs _ binary_causes (λ x1.
    tt))

pub footer_key_causes : (fs : Fields) → CheckedCause (footer_key fs)
footer_key_causes fs = tt

pub column_crypto_causes : (fs : Fields) → CheckedCause (column_crypto fs)
column_crypto_causes fs =
    optional_then name.ColumnCryptoMetaData (pos 1) (struct_of footer_key) fs _ (struct_causes footer_key footer_key_causes) (λ x0.
    optional_then name.ColumnCryptoMetaData (pos 2) (struct_of column_key) fs _ (struct_causes column_key column_key_causes) (λ x1.
    one_key_causes x0 x1))

pub column_chunk_causes : (fs : Fields) → CheckedCause (column_chunk fs)
column_chunk_causes fs =
    optional_then name.ColumnChunk (pos 1) binary_of fs _ binary_causes (λ x0.
    optional_then name.ColumnChunk (pos 3) (struct_of column_meta) fs _ (struct_causes column_meta column_meta_causes) (λ x1.
    optional_then name.ColumnChunk (pos 8) (struct_of column_crypto) fs _ (struct_causes column_crypto column_crypto_causes) (λ x2.
    optional_then name.ColumnChunk (pos 9) binary_of fs _ binary_causes (λ x3.
    tt))))

pub row_group_causes : (fs : Fields) → CheckedCause (row_group fs)
row_group_causes fs =
    needed_then name.RowGroup (pos 1) (list_of (struct_of column_chunk)) fs _ (list_causes (struct_of column_chunk) (struct_causes column_chunk column_chunk_causes)) (λ x0.
    needed_then name.RowGroup (pos 3) int64_of fs _ int64_causes (λ x1.
    optional_then name.RowGroup (pos 7) int16_of fs _ int16_causes (λ x2.
    tt)))

pub raw_file_meta_causes : (fs : Fields) → CheckedCause (raw_file_meta fs)
raw_file_meta_causes fs =
    needed_then name.FileMetaData (pos 2) (list_of (struct_of schema_element)) fs _ (list_causes (struct_of schema_element) (struct_causes schema_element schema_element_causes)) (λ x0.
    needed_then name.FileMetaData (pos 3) int64_of fs _ int64_causes (λ x1.
    needed_then name.FileMetaData (pos 4) (list_of (struct_of row_group)) fs _ (list_causes (struct_of row_group) (struct_causes row_group row_group_causes)) (λ x2.
    optional_then name.FileMetaData (pos 8) (struct_of algorithm) fs _ (struct_causes algorithm algorithm_causes) (λ x3.
    optional_then name.FileMetaData (pos 9) binary_of fs _ binary_causes (λ x4.
    tt)))))

pub data_counts_causes : (fs : Fields) → CheckedCause (data_counts fs)
data_counts_causes fs =
    needed_then name.DataPageHeader (pos 1) int32_of fs _ int32_causes (λ x0.
    needed_then name.DataPageHeader (pos 2) int32_of fs _ int32_causes (λ x1.
    needed_then name.DataPageHeader (pos 3) int32_of fs _ int32_causes (λ x2.
    tt)))

pub dictionary_counts_causes : (fs : Fields) → CheckedCause (dictionary_counts fs)
dictionary_counts_causes fs =
    needed_then name.DictionaryPageHeader (pos 1) int32_of fs _ int32_causes (λ x0.
    needed_then name.DictionaryPageHeader (pos 2) int32_of fs _ int32_causes (λ x1.
    tt))

pub page_head_causes : (fs : Fields) → CheckedCause (page_head fs)
page_head_causes fs =
    needed_then name.PageHeader (pos 1) int32_of fs _ int32_causes (λ x0.
    needed_then name.PageHeader (pos 2) int32_of fs _ int32_causes (λ x1.
    needed_then name.PageHeader (pos 3) int32_of fs _ int32_causes (λ x2.
    optional_then name.PageHeader (pos 5) (struct_of data_counts) fs _ (struct_causes data_counts data_counts_causes) (λ x3.
    optional_then name.PageHeader (pos 7) (struct_of dictionary_counts) fs _ (struct_causes dictionary_counts dictionary_counts_causes) (λ x4.
    page_of_type_causes x0 x1 x2 x3 x4)))))

signing_with_causes : (fs : Fields) (algorithm : Option AlgorithmMeta) → CheckedCause (signing_with (under binary_of (pos 9) Absent fs) algorithm)
signing_with_causes fs None = tt
signing_with_causes fs (Some algorithm) = optional_then name.FileMetaData (pos 9) binary_of fs _ binary_causes (λ m. tt)

pub signing_causes : (fs : Fields) → CheckedCause (signing fs)
signing_causes fs =
    optional_then name.FileMetaData (pos 8) (struct_of algorithm) fs _ (struct_causes algorithm algorithm_causes) (λ a. signing_with_causes fs a)
