-- The values of a plan that keeps the rules on footers pass these rules.
use Rattle.std.proofs.Common.{◌≡◌, ℕ, suc, ◌+◌, ◌≤◌, nat_lt, ℤ, pos, ◌+ℤ◌, ◌≤ℤ◌, int_lt, Bool, true, false, if◌then◌else◌, List, [], ◌∷◌, length, map as map_list, Some, Ok, refl, sym, ◌∙◌, ap, subst, arith}
use Rattle.std.specs.Ordering.{int_eq}
use Rattle.std.specs.FinSet.{contains, empty, insert}
use Rattle.std.specs.Str.{is_utf8, bytes_eq}
use Rattle.std.proofs.lemmas.Int.{ints}
use Rattle.std.proofs.lemmas.List.{length-map}
use Rattle.pme_base.specs.declared.place.Place.{Place}
use Rattle.pme_base.specs.declared.refusal.Cause.TheVariants.{BadField}
use Rattle.pme_base.specs.declared.refusal.StructName.{StructName}
use Rattle.pme_base.specs.declared.refusal.StructName.TheVariants as name
use Rattle.pme_base.specs.Steps.{◌>>=◌}
use Rattle.parquet_types.specs.declared.column.ColumnKind.{ColumnKind}
use Rattle.parquet_types.specs.declared.column.ColumnKind.TheVariants as kind
use Rattle.parquet_types.specs.declared.column.ColumnSpec.{ColumnSpec}
use Rattle.parquet_types.specs.declared.file_meta.ChunkCrypto.{ChunkCrypto}
use Rattle.parquet_types.specs.declared.file_meta.ChunkCrypto.TheVariants as key
use Rattle.parquet_types.specs.declared.file_meta.ChunkMeta.{ChunkMeta}
use Rattle.parquet_types.specs.declared.file_meta.FileMeta.{FileMeta}
use Rattle.parquet_types.specs.declared.file_meta.RowGroupMeta.{RowGroupMeta}
use Rattle.parquet_types.specs.declared.plan.FooterPlan.{FooterPlan}
use Rattle.parquet_types.specs.declared.plan.WrittenChunk.{WrittenChunk}
use Rattle.parquet_types.specs.declared.plan.WrittenGroup.{WrittenGroup}
use Rattle.footer_rules.specs.FileRules as rule
use Rattle.parquet_writing.specs.Plans.{kind_number, fixed_length, repetition, file_meta_data}
use Rattle.parquet_meta.specs.PlanRules.{IsKindOf, AreColumns, AreChunksOf, AreGroupsOf, rows_of, IsFilePlan, planned_chunk, planned_group, planned_groups, planned, FilePlanIsRead}
use Rattle.parquet_meta.specs.ReadBack.{written, chunk_key, chunk_part, group_part, group_parts, root_part, column_part, converted_part, plan_fields}
use Rattle.parquet_meta.proofs.ReadBackProved.{file_meta_read}

same : (z : ℤ) → int_eq z z ≡ true
same z = grind (arith, ints)

same_bytes : (xs : List ℕ) → bytes_eq xs xs ≡ true
same_bytes [] = refl
same_bytes (x ∷ xs) = grind (arith, same_bytes xs)

equal_numbers : (place : Place) (a b : ℤ) → a ≡ b → rule.check_equal place a b ≡ Ok tt
equal_numbers place a b e = subst (λ c. rule.check_equal place a c ≡ Ok tt) e (ap (λ t. if t then Ok tt else rule.differs place a a) (same a))

few : (place : Place) (n : ℕ) → n ≤ 32768 → rule.check_count place n ≡ Ok tt
few place n small = let within : nat_lt 32768 n ≡ false = grind arith in rw within refl

counted : (place : Place) (struct : StructName) (number z : ℤ) → pos 0 ≤ℤ z → rule.check_not_negative place struct number z ≡ Ok tt
counted place struct number z up = let within : int_lt z (pos 0) ≡ false = grind (arith, ints, up) in rw within refl

-- A column.
kind_is : (place : Place) (k : ColumnKind) (text : Bool) → IsKindOf k text → rule.kind_of place (Some (kind_number k)) (fixed_length k) ≡ Ok k
kind_is place kind.Boolean text is_one = refl
kind_is place kind.Int32 text is_one = refl
kind_is place kind.Int64 text is_one = refl
kind_is place kind.Int96 text is_one = refl
kind_is place kind.Float text is_one = refl
kind_is place kind.Double text is_one = refl
kind_is place kind.ByteArray text is_one = refl
kind_is place (kind.Fixed length) text is_one = let some : int_lt (pos length) (pos 1) ≡ false = grind (arith, ints, is_one.0) in rw some refl

text_is : (k : ColumnKind) (text : Bool) → IsKindOf k text → rule.is_text k (converted_part text) ≡ text
text_is kind.ByteArray false is_one = refl
text_is kind.ByteArray true is_one = refl
text_is kind.Boolean text is_one = sym is_one
text_is kind.Int32 text is_one = sym is_one
text_is kind.Int64 text is_one = sym is_one
text_is kind.Int96 text is_one = sym is_one
text_is kind.Float text is_one = sym is_one
text_is kind.Double text is_one = sym is_one
text_is (kind.Fixed length) text is_one = sym is_one.1

optional_is : (place : Place) (optional : Bool) → rule.optional_of place (Some (repetition optional)) ≡ Ok optional
optional_is place false = refl
optional_is place true = refl

fresh_is : (place : Place) (text : List ℕ) (earlier : rule.Names) → is_utf8 text ≡ true → contains earlier text ≡ false → rule.check_name place text earlier ≡ Ok tt
fresh_is place text earlier is_text new = rw (is_text, new) refl

column_is : (place : Place) (earlier : rule.Names) (column : ColumnSpec) → is_utf8 column.name ≡ true → contains earlier column.name ≡ false → IsKindOf column.kind column.text → rule.column_of place earlier (column_part column) ≡ Ok column
column_is place earlier column text new is_one =
    let last : ColumnKind → Bool → ColumnSpec = λ k optional. record { name = column.name; kind = k; optional = optional; text = rule.is_text k (converted_part column.text) } in
    ap (λ r. r >>= λ k. (rule.optional_of place (Some (repetition column.optional)) >>= λ o. (rule.check_name place column.name earlier >>= λ n. Ok (last k o)))) (kind_is place column.kind column.text is_one)
    ∙ (ap (λ r. r >>= λ o. (rule.check_name place column.name earlier >>= λ n. Ok (last column.kind o))) (optional_is place column.optional)
    ∙ (ap (λ r. r >>= λ n. Ok (last column.kind column.optional)) (fresh_is place column.name earlier text new)
    ∙ ap (λ t. Ok (record { name = column.name; kind = column.kind; optional = column.optional; text = t })) (text_is column.kind column.text is_one)))

columns_are : (place : Place) (earlier : rule.Names) (columns : List ColumnSpec) → AreColumns earlier columns → rule.columns_of place earlier (map_list column_part columns) ≡ Ok columns
columns_are place earlier [] are = refl
columns_are place earlier (column ∷ columns) are =
    ap (λ r. r >>= λ c. (rule.columns_of place (insert earlier column.name) (map_list column_part columns) >>= λ cs. Ok (c ∷ cs))) (column_is place earlier column are.0 are.1 are.2)
    ∙ ap (λ r. r >>= λ cs. Ok (column ∷ cs)) (columns_are place (insert earlier column.name) columns are.3)

schema_is : (place : Place) (columns : List ColumnSpec) → AreColumns empty columns → length columns ≤ 32768 → rule.schema_of place (root_part (length columns) ∷ map_list column_part columns) ≡ Ok columns
schema_is place columns are small =
    let elements = map_list column_part columns in
    let n : length elements ≡ length columns = length-map columns column_part in
    ap (λ r. r >>= λ u. (rule.check_count place (length elements) >>= λ v. rule.columns_of place empty elements)) (equal_numbers place (pos (length columns)) (pos (length elements)) (ap pos (sym n)))
    ∙ (ap (λ r. r >>= λ v. rule.columns_of place empty elements) (few place (length elements) (subst (λ m. m ≤ 32768) (sym n) small))
    ∙ columns_are place empty columns are)

-- The column chunks of a row group.
crypto_is : (place : Place) (text column : List ℕ) (crypto : ChunkCrypto) → text ≡ column → rule.chunk_crypto place column (chunk_key text crypto) ≡ Ok crypto
crypto_is place text column key.Plain e = refl
crypto_is place text column key.FooterKey e = refl
crypto_is place text column (key.ColumnKey metadata) e =
    let named : bytes_eq text column ≡ true = subst (λ c. bytes_eq text c ≡ true) e (same_bytes text) in rw named refl

chunks_are : (place : Place) (columns : List ColumnSpec) (chunks : List WrittenChunk) → AreChunksOf columns chunks → rule.chunks_of place columns (map_list chunk_part chunks) ≡ Ok (map_list planned_chunk chunks)
chunks_are place [] [] are = refl
chunks_are place [] (chunk ∷ chunks) are = absurd are
chunks_are place (column ∷ columns) [] are = absurd are
chunks_are place (column ∷ columns) (chunk ∷ chunks) are =
    ap (λ r. (r >>= λ k. Ok (record { crypto = k; plain_meta = (chunk_part chunk).plain_meta; sealed_meta = chunk.sealed_meta })) >>= λ c. (rule.chunks_of place columns (map_list chunk_part chunks) >>= λ cs. Ok (c ∷ cs))) (crypto_is place chunk.spec.name column.name chunk.crypto are.0)
    ∙ ap (λ r. r >>= λ cs. Ok (planned_chunk chunk ∷ cs)) (chunks_are place columns chunks are.1)

as_many : (columns : List ColumnSpec) (chunks : List WrittenChunk) → AreChunksOf columns chunks → length chunks ≡ length columns
as_many [] [] are = refl
as_many [] (chunk ∷ chunks) are = absurd are
as_many (column ∷ columns) [] are = absurd are
as_many (column ∷ columns) (chunk ∷ chunks) are = ap suc (as_many columns chunks are.1)

-- The row groups.
group_is : (place : Place) (columns : List ColumnSpec) (position : ℕ) (group : WrittenGroup) → AreChunksOf columns group.chunks → pos 0 ≤ℤ group.num_rows → rule.group_of place columns position (group_part position group) ≡ Ok (planned_group position group)
group_is place columns position group are up =
    let parts = map_list chunk_part group.chunks in
    let whole : length parts ≡ length columns = length-map group.chunks chunk_part ∙ as_many columns group.chunks are in
    let last : List ChunkMeta → RowGroupMeta = λ cs. record { chunks = cs; num_rows = group.num_rows; ordinal = Some (pos position) } in
    ap (λ r. r >>= λ w. (rule.check_not_negative place name.RowGroup (pos 3) group.num_rows >>= λ c. (rule.check_ordinal place position (Some (pos position)) >>= λ p. (rule.chunks_of place columns parts >>= λ cs. Ok (last cs))))) (equal_numbers place (pos (length parts)) (pos (length columns)) (ap pos whole))
    ∙ (ap (λ r. r >>= λ c. (rule.check_ordinal place position (Some (pos position)) >>= λ p. (rule.chunks_of place columns parts >>= λ cs. Ok (last cs)))) (counted place name.RowGroup (pos 3) group.num_rows up)
    ∙ (ap (λ r. r >>= λ p. (rule.chunks_of place columns parts >>= λ cs. Ok (last cs))) (equal_numbers place (pos position) (pos position) refl)
    ∙ ap (λ r. r >>= λ cs. Ok (last cs)) (chunks_are place columns group.chunks are)))

groups_are : (place : Place) (columns : List ColumnSpec) (position : ℕ) (groups : List WrittenGroup) → AreGroupsOf columns groups → rule.groups_of place columns position (group_parts position groups) ≡ Ok (planned_groups position groups)
groups_are place columns position [] are = refl
groups_are place columns position (group ∷ groups) are =
    ap (λ r. r >>= λ g. (rule.groups_of place columns (position + 1) (group_parts (position + 1) groups) >>= λ gs. Ok (g ∷ gs))) (group_is place columns position group are.0 are.1)
    ∙ ap (λ r. r >>= λ gs. Ok (planned_group position group ∷ gs)) (groups_are place columns (position + 1) groups are.2)

groups_count : (position : ℕ) (groups : List WrittenGroup) → length (group_parts position groups) ≡ length groups
groups_count position [] = refl
groups_count position (group ∷ groups) = ap suc (groups_count (position + 1) groups)

rows_are : (position : ℕ) (groups : List WrittenGroup) → rule.all_rows (planned_groups position groups) ≡ rows_of groups
rows_are position [] = refl
rows_are position (group ∷ groups) = ap (λ n. group.num_rows +ℤ n) (rows_are (position + 1) groups)

summed_is : (place : Place) (sum rows : ℤ) → sum ≡ rows → rows ≤ℤ pos 9223372036854775807 → rule.check_rows place sum rows ≡ Ok tt
summed_is place sum rows e small =
    let within : int_lt (pos 9223372036854775807) sum ≡ false = grind (arith, ints, e, small) in
    ap (λ b. if b then rule.bad_value place BadField name.FileMetaData (pos 3) else rule.check_equal place sum rows) within ∙ equal_numbers place sum rows e

file_is : (place : Place) (plan : FooterPlan) → IsFilePlan plan → rule.file_of place (plan_fields plan) ≡ Ok (planned plan)
file_is place plan keeps =
    let file = plan_fields plan in
    let last : List ColumnSpec → List RowGroupMeta → FileMeta = λ columns groups. record { schema = columns; num_rows = plan.num_rows; groups = groups; algorithm = plan.algorithm; signing_key_metadata = plan.signing_key_metadata } in
    ap (λ r. r >>= λ columns. (rule.check_not_negative place name.FileMetaData (pos 3) plan.num_rows >>= λ c. (rule.check_count place (length file.groups) >>= λ f. (rule.groups_of place columns 0 file.groups >>= λ groups. (rule.check_rows place (rule.all_rows groups) plan.num_rows >>= λ s. Ok (last columns groups)))))) (schema_is place plan.schema keeps.columns keeps.few_columns)
    ∙ (ap (λ r. r >>= λ c. (rule.check_count place (length file.groups) >>= λ f. (rule.groups_of place plan.schema 0 file.groups >>= λ groups. (rule.check_rows place (rule.all_rows groups) plan.num_rows >>= λ s. Ok (last plan.schema groups))))) (counted place name.FileMetaData (pos 3) plan.num_rows keeps.counted)
    ∙ (ap (λ r. r >>= λ f. (rule.groups_of place plan.schema 0 file.groups >>= λ groups. (rule.check_rows place (rule.all_rows groups) plan.num_rows >>= λ s. Ok (last plan.schema groups)))) (few place (length file.groups) (subst (λ m. m ≤ 32768) (sym (groups_count 0 plan.groups)) keeps.few_groups))
    ∙ (ap (λ r. r >>= λ groups. (rule.check_rows place (rule.all_rows groups) plan.num_rows >>= λ s. Ok (last plan.schema groups))) (groups_are place plan.schema 0 plan.groups keeps.groups)
    ∙ ap (λ r. r >>= λ s. Ok (last plan.schema (planned_groups 0 plan.groups))) (summed_is place (rule.all_rows (planned_groups 0 plan.groups)) plan.num_rows (rows_are 0 plan.groups ∙ keeps.summed) keeps.small))))

pub file_plan_read : FilePlanIsRead
file_plan_read place plan rest fits keeps numbers =
    file_meta_read place plan rest fits numbers ∙ ap (λ r. r >>= λ file. Ok (file, length (written (file_meta_data plan)))) (file_is place plan keeps)
