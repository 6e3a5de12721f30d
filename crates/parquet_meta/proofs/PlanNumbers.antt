-- The numbers in the trees of a plan are those of the plan, so they fit if those are in range.
use Rattle.std.proofs.Common.{◌≡◌, ℕ, ◌+◌, ◌<◌, ◌≤◌, ℤ, pos, Bool, true, false, FitsSigned, List, [], ◌∷◌, length, map as map_list, get_or, below_more, Option, Some, None, ◌∙◌, subst, arith, w16, w32, w64}
use Rattle.std.specs.List.{All}
use Rattle.std.proofs.lemmas.Int.{ints}
use Rattle.std.proofs.lemmas.List.{get_or_default}
use Rattle.std.proofs.lemmas.List.Elements.{All-head, All-tail}
use Rattle.thrift_compact.specs.Proper.{IsSmall}
use Rattle.thrift_compact.specs.Tree.{struct, binary, truth, int32, Fields, no_fields}
use Rattle.parquet_types.specs.declared.column.ColumnKind.{ColumnKind}
use Rattle.parquet_types.specs.declared.column.ColumnKind.TheVariants as kind
use Rattle.parquet_types.specs.declared.column.ColumnSpec.{ColumnSpec}
use Rattle.parquet_types.specs.declared.file_meta.AlgorithmMeta.{AlgorithmMeta}
use Rattle.parquet_types.specs.declared.file_meta.ChunkCrypto.{ChunkCrypto}
use Rattle.parquet_types.specs.declared.file_meta.ChunkCrypto.TheVariants as key
use Rattle.parquet_types.specs.declared.page_head.DataHead.{DataHead}
use Rattle.parquet_types.specs.declared.plan.FooterPlan.{FooterPlan}
use Rattle.parquet_types.specs.declared.plan.WrittenChunk.{WrittenChunk}
use Rattle.parquet_types.specs.declared.plan.WrittenGroup.{WrittenGroup}
use Rattle.parquet_writing.specs.Fitting.{FitsKind, FitsColumn, FitsGroup, FitsFooter}
use Rattle.parquet_writing.specs.Plans.{where_some, where_true, structs, page_header, first_start, kind_number, fixed_length, repetition, column_meta_data, column_crypto, column_chunk, row_group, row_groups, schema_column, signing_algorithm, file_meta_data}
use Rattle.parquet_meta.specs.Ranges.{HeadInRange, ChunkInRange, GroupInRange, PlanInRange}
use Rattle.parquet_meta.specs.ReadBack.{EachFits, FieldsFit}

-- A fact of each item before an index and of the item there holds for each item up to it.
pub all_more :
    {X : Type 0} (P : X → Type 0) (xs : List X) (i : ℕ) (x : X) → i < length xs → x ≡ get_or xs i x
    → ((k : ℕ) (d : X) → k < i → P (get_or xs k d)) → P x → (k : ℕ) (d : X) → k < i + 1 → P (get_or xs k d)
all_more P xs i x within is before here k d below =
    below_more (λ j. P (get_or xs j d)) i (λ j h. before j d h) (subst P (is ∙ get_or_default xs i x d within) here) k below

pub all_over : {X : Type 0} (P : X → Type 0) (xs ys : List X) (i : ℕ) → length xs ≤ i → xs ≡ ys → ((k : ℕ) (d : X) → k < i → P (get_or xs k d)) → All P ys
all_over P xs ys i over same before = subst (All P) same (λ k d h. before k d (omega (arith, h, over)))

-- Small numbers.
kind_fits : (k : ColumnKind) → FitsSigned w32 (kind_number k)
kind_fits kind.Boolean = grind (arith, ints)
kind_fits kind.Int32 = grind (arith, ints)
kind_fits kind.Int64 = grind (arith, ints)
kind_fits kind.Int96 = grind (arith, ints)
kind_fits kind.Float = grind (arith, ints)
kind_fits kind.Double = grind (arith, ints)
kind_fits kind.ByteArray = grind (arith, ints)
kind_fits (kind.Fixed length) = grind (arith, ints)

small_fits : (n : ℕ) → IsSmall n → FitsSigned w32 (pos n)
small_fits n small = grind (arith, ints, small)

position_fits : (n : ℕ) → n < 32768 → FitsSigned w16 (pos n)
position_fits n few = grind (arith, ints, few)

repetition_fits : (optional : Bool) → FitsSigned w32 (repetition optional)
repetition_fits true = grind (arith, ints)
repetition_fits false = grind (arith, ints)

-- A page header.
pub page_header_fits : (head : DataHead) → HeadInRange head → FieldsFit (page_header head)
page_header_fits head range =
    (small_fits 0 (omega arith), (range.uncompressed, (range.compressed, ((range.num_values, (range.encoding, (range.level_encoding, (small_fits 3 (omega arith), tt)))), tt))))

-- A column chunk.
pub column_meta_fits : (chunk : WrittenChunk) → ChunkInRange chunk → FieldsFit (column_meta_data chunk)
column_meta_fits chunk range = (
  kind_fits chunk.spec.kind,
  (
    (small_fits 0 (omega arith), (small_fits 3 (omega arith), tt)),
    (
      (tt, tt),
      (small_fits 0 (omega arith), (range.num_values, (range.uncompressed, (range.stored, (range.start, tt))))),
    ),
  ),
)

-- Fields of bytes alone have no numbers.
bytes_fit : (id : ℤ) (bytes : Option (List ℕ)) → FieldsFit (where_some id binary bytes no_fields)
bytes_fit id None = tt
bytes_fit id (Some bytes) = (tt, tt)

crypto_fits : (name : List ℕ) (crypto : ChunkCrypto) (others : Fields) → FieldsFit others → FieldsFit (where_some (pos 8) struct (column_crypto name crypto) others)
crypto_fits name key.Plain others fits = fits
crypto_fits name key.FooterKey others fits = ((tt, tt), fits)
crypto_fits name (key.ColumnKey metadata) others fits = ((((tt, tt), bytes_fit (pos 2) metadata), tt), fits)

shown_fits : (chunk : WrittenChunk) (shown : Bool) (others : Fields) → ChunkInRange chunk → FieldsFit others → FieldsFit (where_true (pos 3) (struct (column_meta_data chunk)) shown others)
shown_fits chunk false others range fits = fits
shown_fits chunk true others range fits = (column_meta_fits chunk range, fits)

chunk_fits : (chunk : WrittenChunk) → ChunkInRange chunk → FieldsFit (column_chunk chunk)
chunk_fits chunk range =
    (range.start, shown_fits chunk chunk.show_meta _ range (crypto_fits chunk.spec.name chunk.crypto _ (bytes_fit (pos 9) chunk.sealed_meta)))

chunks_fit : (chunks : List WrittenChunk) → All ChunkInRange chunks → EachFits (structs (map_list column_chunk chunks))
chunks_fit [] all = tt
chunks_fit (chunk ∷ chunks) all =
    (chunk_fits chunk (All-head ChunkInRange chunk chunks all), chunks_fit chunks (All-tail ChunkInRange chunk chunks all))

-- The row groups.
first_fits : (chunks : List WrittenChunk) → All ChunkInRange chunks → FitsSigned w64 (first_start chunks)
first_fits [] all = grind (arith, ints)
first_fits (chunk ∷ chunks) all = (All-head ChunkInRange chunk chunks all).start

group_fits : (position : ℕ) (group : WrittenGroup) → position < 32768 → FitsGroup group → GroupInRange group → FieldsFit (row_group position group)
group_fits position group few fits range = (
  chunks_fit group.chunks range.chunks,
  (fits.uncompressed, (range.num_rows, (first_fits group.chunks range.chunks, (fits.stored, (position_fits position few, tt))))),
)

groups_fit : (position : ℕ) (groups : List WrittenGroup) → position + length groups ≤ 32768 → All FitsGroup groups → All GroupInRange groups → EachFits (structs (row_groups position groups))
groups_fit position [] few fits ranges = tt
groups_fit position (group ∷ groups) few fits ranges = (
  group_fits position group (omega (arith, few)) (All-head FitsGroup group groups fits) (All-head GroupInRange group groups ranges),
  groups_fit (position + 1) groups (omega (arith, few)) (All-tail FitsGroup group groups fits) (All-tail GroupInRange group groups ranges),
)

-- The schema.
length_fits : (k : ColumnKind) (others : Fields) → FitsKind k → FieldsFit others → FieldsFit (where_some (pos 2) int32 (fixed_length k) others)
length_fits (kind.Fixed length) others small fits = (small_fits length small, fits)
length_fits kind.Boolean others small fits = fits
length_fits kind.Int32 others small fits = fits
length_fits kind.Int64 others small fits = fits
length_fits kind.Int96 others small fits = fits
length_fits kind.Float others small fits = fits
length_fits kind.Double others small fits = fits
length_fits kind.ByteArray others small fits = fits

text_fits : (text : Bool) → FieldsFit (where_true (pos 6) (int32 (pos 0)) text no_fields)
text_fits false = tt
text_fits true = (small_fits 0 (omega arith), tt)

columns_fit : (columns : List ColumnSpec) → All FitsColumn columns → EachFits (structs (map_list schema_column columns))
columns_fit [] all = tt
columns_fit (column ∷ columns) all =
    let fits = All-head FitsColumn column columns all in (
      (kind_fits column.kind, length_fits column.kind _ fits.kind (repetition_fits column.optional, (tt, text_fits column.text))),
      columns_fit columns (All-tail FitsColumn column columns all),
    )

-- The algorithm of a signed footer.
supply_fits : (supply : Bool) → FieldsFit (where_true (pos 3) (truth true) supply no_fields)
supply_fits false = tt
supply_fits true = (tt, tt)

prefix_fits : (prefix : Option (List ℕ)) (others : Fields) → FieldsFit others → FieldsFit (where_some (pos 1) binary prefix others)
prefix_fits None others fits = fits
prefix_fits (Some prefix) others fits = (tt, fits)

signed_fits : (algorithm : Option AlgorithmMeta) (others : Fields) → FieldsFit others → FieldsFit (where_some (pos 8) struct (signing_algorithm algorithm) others)
signed_fits None others fits = fits
signed_fits (Some algorithm) others fits = ((prefix_fits algorithm.prefix _ (tt, supply_fits algorithm.supply), tt), fits)

-- A footer.
pub file_meta_fits : (plan : FooterPlan) → FitsFooter plan → PlanInRange plan → FieldsFit (file_meta_data plan)
file_meta_fits plan fits range = (
  small_fits 1 (omega arith),
  (
    ((tt, (small_fits (length plan.schema) (omega (arith, fits.few)), tt)), columns_fit plan.schema fits.schema),
    (
      range.num_rows,
      (
        groups_fit 0 plan.groups (omega (arith, fits.positions)) fits.groups range.groups,
        (tt, signed_fits plan.algorithm _ (bytes_fit (pos 9) plan.signing_key_metadata)),
      ),
    ),
  ),
)
