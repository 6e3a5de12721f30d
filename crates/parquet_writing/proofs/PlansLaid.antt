-- The trees of a plan have ascending field ids, and keep the limits if the plan does.
use Rattle.std.proofs.Common.{◌≡◌, ℕ, suc, ◌+◌, ◌<◌, ℤ, pos, int_lt, Bool, true, false, List, [], ◌∷◌, length, map as map_list, Option, Some, None, refl, sym, ◌∙◌, ap, subst, arith}
use Rattle.std.specs.List.{All}
use Rattle.std.proofs.lemmas.Int.{ints}
use Rattle.std.proofs.lemmas.List.{length-map}
use Rattle.std.proofs.lemmas.List.Elements.{All-nil, All-cons, All-head, All-tail, All-map, All-weaker}
use Rattle.std.proofs.Math.Numerals.{add-one}
use Rattle.thrift_compact.specs.declared.kind.TKind.TheVariants as kind
use Rattle.thrift_compact.specs.Proper.{IsSmall}
use Rattle.thrift_compact.specs.Spelling.{below_ids, items_kind}
use Rattle.thrift_compact.specs.Tree.{Tree, struct, binary, int32, list, Fields, no_fields, field, count}
use Rattle.parquet_types.specs.declared.column.ColumnKind.{ColumnKind}
use Rattle.parquet_types.specs.declared.column.ColumnKind.TheVariants as column_kind
use Rattle.parquet_types.specs.declared.column.ColumnSpec.{ColumnSpec}
use Rattle.parquet_types.specs.declared.file_meta.AlgorithmMeta.{AlgorithmMeta}
use Rattle.parquet_types.specs.declared.file_meta.ChunkCrypto.{ChunkCrypto}
use Rattle.parquet_types.specs.declared.file_meta.ChunkCrypto.TheVariants as key
use Rattle.parquet_types.specs.declared.page_head.DataHead.{DataHead}
use Rattle.parquet_types.specs.declared.plan.FooterPlan.{FooterPlan}
use Rattle.parquet_types.specs.declared.plan.WrittenChunk.{WrittenChunk}
use Rattle.parquet_types.specs.declared.plan.WrittenGroup.{WrittenGroup}
use Rattle.parquet_writing.specs.Fitting.{FitsOptional, FitsAlgorithm, FitsColumn, FitsCrypto, FitsChunk, FitsGroup, FitsIfSome, FitsFooter}
use Rattle.parquet_writing.specs.Plans.{where_some, where_true, structs, data_page_header, page_header, aes_gcm, algorithm_id, encryption_algorithm, file_crypto_meta_data, path_in_schema, column_meta_data, column_key, column_crypto, column_chunk, row_group, row_groups, schema_root, schema_column, schema, signing_algorithm, fixed_length, file_meta_data}
use Rattle.parquet_writing.proofs.PutLists.{groups_length}
use Rattle.parquet_writing.proofs.Laid.{IsLaid, AreLaid, AllLaid, is_id}

-- Fields that may follow an id may follow a smaller one.
above : (low high next : ℤ) → int_lt low high ≡ true → int_lt high next ≡ true → int_lt low next ≡ true
above low high next first second = grind (arith, ints, first, second)

earlier : (room : ℕ) (low high : ℤ) (fs : Fields) → int_lt low high ≡ true → AreLaid room high fs → AreLaid room low fs
earlier room low high no_fields up laid = tt
earlier room low high (field id t fs) up laid = (laid.0, above low high id up laid.1, laid.2, laid.3)

-- The value of an optional field.
abbrev pub LaidIfSome : {X : Type 0} → ℕ → (X → Tree) → Option X → Type 0
LaidIfSome room value None = Unit {0}
LaidIfSome room value (Some x) = IsLaid room (value x)

pub some_laid : {X : Type 0} (room : ℕ) (last id : ℤ) (value : X → Tree) (o : Option X) (others : Fields) → is_id id ≡ true → int_lt last id ≡ true → LaidIfSome room value o → AreLaid room id others → AreLaid room last (where_some id value o others)
some_laid room last id value None others is up one laid = earlier room last id others up laid
some_laid room last id value (Some x) others is up one laid = (is, up, one, laid)

pub true_laid : (room : ℕ) (last id : ℤ) (t : Tree) (flag : Bool) (others : Fields) → is_id id ≡ true → int_lt last id ≡ true → IsLaid room t → AreLaid room id others → AreLaid room last (where_true id t flag others)
true_laid room last id t false others is up one laid = earlier room last id others up laid
true_laid room last id t true others is up one laid = (is, up, one, laid)

pub few_laid : (room : ℕ) (bytes : Option (List ℕ)) → FitsOptional bytes → LaidIfSome room binary bytes
few_laid room None few = few
few_laid room (Some bytes) few = few

pub page_header_laid : (head : DataHead) → IsLaid 32 (struct (page_header head))
page_header_laid head =
    let counts : AreLaid 30 below_ids (data_page_header head) = (refl, refl, tt, (refl, refl, tt, (refl, refl, tt, (refl, refl, tt, tt)))) in
    (31, refl, (refl, refl, tt, (refl, refl, tt, (refl, refl, tt, (refl, refl, (30, refl, counts), tt)))))

pub aes_gcm_laid : (room : ℕ) (algorithm : AlgorithmMeta) → FitsAlgorithm algorithm → AreLaid room below_ids (aes_gcm algorithm)
aes_gcm_laid room algorithm fits =
    some_laid room below_ids (pos 1) binary algorithm.prefix _ refl refl (few_laid room algorithm.prefix fits.prefix)
    (refl, refl, fits.unique, true_laid room (pos 2) (pos 3) _ algorithm.supply no_fields refl refl tt tt)

algorithm_by : (room : ℕ) (algorithm : AlgorithmMeta) (ctr : Bool) → FitsAlgorithm algorithm → IsLaid (suc (suc room)) (struct (field (algorithm_id ctr) (struct (aes_gcm algorithm)) no_fields))
algorithm_by room algorithm false fits = (suc room, refl, (refl, refl, (room, refl, aes_gcm_laid room algorithm fits), tt))
algorithm_by room algorithm true fits = (suc room, refl, (refl, refl, (room, refl, aes_gcm_laid room algorithm fits), tt))

pub algorithm_laid : (room : ℕ) (algorithm : AlgorithmMeta) → FitsAlgorithm algorithm → IsLaid (suc (suc room)) (struct (encryption_algorithm algorithm))
algorithm_laid room algorithm fits = algorithm_by room algorithm algorithm.ctr fits

pub file_crypto_laid : (algorithm : AlgorithmMeta) (key_metadata : List ℕ) → FitsAlgorithm algorithm → IsSmall (length key_metadata) → IsLaid 32 (struct (file_crypto_meta_data algorithm key_metadata))
file_crypto_laid algorithm key_metadata fits few = (31, refl, (refl, refl, algorithm_laid 29 algorithm fits, (refl, refl, few, tt)))

path_laid : (room : ℕ) (name : List ℕ) → IsSmall (length name) → IsLaid (suc room) (list (path_in_schema name))
path_laid room name few = (room, refl, omega arith, (refl, few, tt))

pub column_meta_laid : (room : ℕ) (chunk : WrittenChunk) → IsSmall (length chunk.spec.name) → IsLaid (suc (suc room)) (struct (column_meta_data chunk))
column_meta_laid room chunk few = (
  suc room,
  refl,
  (
    refl,
    refl,
    tt,
    (
      refl,
      refl,
      (room, refl, omega arith, (refl, tt, (refl, tt, tt))),
      (
        refl,
        refl,
        path_laid room chunk.spec.name few,
        (refl, refl, tt, (refl, refl, tt, (refl, refl, tt, (refl, refl, tt, (refl, refl, tt, tt))))),
      ),
    ),
  ),
)

column_key_laid : (room : ℕ) (name : List ℕ) (metadata : Option (List ℕ)) → IsSmall (length name) → FitsOptional metadata → AreLaid (suc room) below_ids (column_key name metadata)
column_key_laid room name metadata few fits =
    (refl, refl, path_laid room name few, some_laid (suc room) (pos 1) (pos 2) binary metadata no_fields refl refl (few_laid (suc room) metadata fits) tt)

column_crypto_laid : (room : ℕ) (name : List ℕ) (crypto : ChunkCrypto) → IsSmall (length name) → FitsCrypto crypto → LaidIfSome (suc (suc (suc room))) struct (column_crypto name crypto)
column_crypto_laid room name key.Plain few fits = tt
column_crypto_laid room name key.FooterKey few fits = (suc (suc room), refl, (refl, refl, (suc room, refl, tt), tt))
column_crypto_laid room name (key.ColumnKey metadata) few fits =
    (suc (suc room), refl, (refl, refl, (suc room, refl, column_key_laid room name metadata few fits), tt))

column_chunk_laid : (room : ℕ) (chunk : WrittenChunk) → FitsChunk chunk → IsLaid (suc (suc (suc (suc room)))) (struct (column_chunk chunk))
column_chunk_laid room chunk fits =
    let within = suc (suc (suc room)) in
    let sealed = some_laid within (pos 8) (pos 9) binary chunk.sealed_meta no_fields refl refl (few_laid within chunk.sealed_meta fits.sealed_meta) tt in
    let crypto = some_laid within (pos 3) (pos 8) struct (column_crypto chunk.spec.name chunk.crypto) _ refl refl (column_crypto_laid room chunk.spec.name chunk.crypto fits.name fits.crypto) sealed in
    (within, refl, (refl, refl, tt, true_laid within (pos 2) (pos 3) (struct (column_meta_data chunk)) chunk.show_meta _ refl refl (column_meta_laid (suc room) chunk fits.name) crypto))

-- Lists of structs.
structs_laid : (room : ℕ) (fss : List Fields) → All (λ fs. IsLaid room (struct fs)) fss → AllLaid room kind.Struct (structs fss)
structs_laid room [] all = tt
structs_laid room (fs ∷ fss) all =
    (refl, All-head (λ fs. IsLaid room (struct fs)) fs fss all, structs_laid room fss (All-tail (λ fs. IsLaid room (struct fs)) fs fss all))

structs_kind : (fss : List Fields) → items_kind (structs fss) ≡ kind.Struct
structs_kind [] = refl
structs_kind (fs ∷ fss) = refl

structs_count : (fss : List Fields) → count (structs fss) ≡ length fss
structs_count [] = refl
structs_count (fs ∷ fss) = ap suc (structs_count fss)

list_laid : (room : ℕ) (fss : List Fields) → IsSmall (length fss) → All (λ fs. IsLaid room (struct fs)) fss → IsLaid (suc room) (list (structs fss))
list_laid room fss few all =
    (room, refl, subst IsSmall (sym (structs_count fss)) few, subst (λ k. AllLaid room k (structs fss)) (sym (structs_kind fss)) (structs_laid room fss all))

chunks_laid : (room : ℕ) (chunks : List WrittenChunk) → IsSmall (length chunks) → All FitsChunk chunks → IsLaid (suc (suc (suc (suc (suc room))))) (list (structs (map_list column_chunk chunks)))
chunks_laid room chunks few fits =
    let P = λ (fs : Fields). IsLaid (suc (suc (suc (suc room)))) (struct fs) in
    list_laid (suc (suc (suc (suc room)))) (map_list column_chunk chunks) (subst IsSmall (sym (length-map chunks column_chunk)) few)
    (All-map P column_chunk chunks (All-weaker FitsChunk (λ chunk. P (column_chunk chunk)) (λ chunk fit. column_chunk_laid room chunk fit) chunks fits))

row_group_laid : (room position : ℕ) (group : WrittenGroup) → FitsGroup group → IsLaid (suc (suc (suc (suc (suc (suc room)))))) (struct (row_group position group))
row_group_laid room position group fits = (
  suc (suc (suc (suc (suc room)))),
  refl,
  (
    refl,
    refl,
    chunks_laid room group.chunks fits.few fits.chunks,
    (refl, refl, tt, (refl, refl, tt, (refl, refl, tt, (refl, refl, tt, (refl, refl, tt, tt))))),
  ),
)

row_groups_laid : (room position : ℕ) (groups : List WrittenGroup) → All FitsGroup groups → All (λ fs. IsLaid (suc (suc (suc (suc (suc (suc room)))))) (struct fs)) (row_groups position groups)
row_groups_laid room position [] fits = All-nil (λ fs. IsLaid (suc (suc (suc (suc (suc (suc room)))))) (struct fs))
row_groups_laid room position (group ∷ groups) fits =
    All-cons (λ fs. IsLaid (suc (suc (suc (suc (suc (suc room)))))) (struct fs)) (row_group position group) (row_groups (position + 1) groups)
    (row_group_laid room position group (All-head FitsGroup group groups fits)) (row_groups_laid room (position + 1) groups (All-tail FitsGroup group groups fits))

length_laid : (room : ℕ) (k : ColumnKind) → LaidIfSome room int32 (fixed_length k)
length_laid room column_kind.Boolean = tt
length_laid room column_kind.Int32 = tt
length_laid room column_kind.Int64 = tt
length_laid room column_kind.Int96 = tt
length_laid room column_kind.Float = tt
length_laid room column_kind.Double = tt
length_laid room column_kind.ByteArray = tt
length_laid room (column_kind.Fixed length) = tt

schema_column_laid : (room : ℕ) (column : ColumnSpec) → FitsColumn column → IsLaid (suc room) (struct (schema_column column))
schema_column_laid room column fits =
    let text = true_laid room (pos 4) (pos 6) (int32 (pos 0)) column.text no_fields refl refl tt tt in
    (room, refl, (refl, refl, tt, some_laid room (pos 1) (pos 2) int32 (fixed_length column.kind) _ refl refl (length_laid room column.kind) (refl, refl, tt, (refl, refl, fits.name, text))))

schema_laid : (room : ℕ) (columns : List ColumnSpec) → IsSmall (length columns + 1) → All FitsColumn columns → IsLaid (suc (suc room)) (list (structs (schema columns)))
schema_laid room columns few fits =
    let P = λ (fs : Fields). IsLaid (suc room) (struct fs) in
    let root : P (schema_root (length columns)) = (room, refl, (refl, refl, omega arith, (refl, refl, tt, tt))) in
    let counted : length (schema columns) ≡ length columns + 1 = ap suc (length-map columns schema_column) ∙ sym (add-one (length columns)) in
    list_laid (suc room) (schema columns) (subst IsSmall (sym counted) few)
    (All-cons P (schema_root (length columns)) (map_list schema_column columns) root
    (All-map P schema_column columns (All-weaker FitsColumn (λ column. P (schema_column column)) (λ column fit. schema_column_laid room column fit) columns fits)))

signing_laid : (room : ℕ) (algorithm : Option AlgorithmMeta) → FitsIfSome algorithm → LaidIfSome (suc (suc room)) struct (signing_algorithm algorithm)
signing_laid room None fits = tt
signing_laid room (Some algorithm) fits = algorithm_laid room algorithm fits

pub file_meta_laid : (plan : FooterPlan) → FitsFooter plan → IsLaid 32 (struct (file_meta_data plan))
file_meta_laid plan fits =
    let few : length (row_groups 0 plan.groups) < 2147483648 = omega (arith, groups_length 0 plan.groups, fits.positions) in
    let key = some_laid 31 (pos 8) (pos 9) binary plan.signing_key_metadata no_fields refl refl (few_laid 31 plan.signing_key_metadata fits.signing_key_metadata) tt in
    let signing = some_laid 31 (pos 6) (pos 8) struct (signing_algorithm plan.algorithm) _ refl refl (signing_laid 29 plan.algorithm fits.algorithm) key in
    let groups = list_laid 30 (row_groups 0 plan.groups) few (row_groups_laid 24 0 plan.groups fits.groups) in
    (31, refl, (refl, refl, tt, (refl, refl, schema_laid 29 plan.schema fits.few fits.schema, (refl, refl, tt, (refl, refl, groups, (refl, refl, omega arith, signing))))))
