-- If the values of a plan pass the rules on footers, the result is the plan.
use Rattle.std.proofs.Common.{◌≡◌, ℕ, ◌+◌, ℤ, pos, int_lt, Bool, true, false, if◌then◌else◌, List, [], ◌∷◌, ◌++◌, length, map as map_list, Some, Result, Ok, refl, sym, ◌∙◌, ap, arith}
use Rattle.std.specs.FinSet.{empty, insert}
use Rattle.std.specs.Ordering.{int_eq}
use Rattle.std.proofs.lemmas.Int.{ints}
use Rattle.std.proofs.lemmas.List.{length-map}
use Rattle.pme_base.specs.declared.place.Place.{Place}
use Rattle.pme_base.specs.declared.refusal.Refusal.{Refusal}
use Rattle.pme_base.specs.declared.refusal.StructName.TheVariants as name
use Rattle.pme_base.proofs.Chain.{ok_same, bind_ok, tested, passed}
use Rattle.pme_base.specs.Steps.{◌>>=◌}
use Rattle.parquet_types.specs.declared.column.ColumnKind.{ColumnKind}
use Rattle.parquet_types.specs.declared.column.ColumnKind.TheVariants as kind
use Rattle.parquet_types.specs.declared.column.ColumnSpec.{ColumnSpec}
use Rattle.parquet_types.specs.declared.file_meta.ChunkCrypto.{ChunkCrypto}
use Rattle.parquet_types.specs.declared.file_meta.ChunkCrypto.TheVariants as key
use Rattle.parquet_types.specs.declared.file_meta.ChunkMeta.{ChunkMeta}
use Rattle.parquet_types.specs.declared.file_meta.FileMeta.{FileMeta}
use Rattle.parquet_types.specs.declared.file_meta.RowGroupMeta.{RowGroupMeta}
use Rattle.parquet_types.specs.declared.plan.FooterPlan.{FooterPlan}
use Rattle.parquet_types.specs.declared.plan.WrittenChunk.{WrittenChunk}
use Rattle.parquet_types.specs.declared.plan.WrittenGroup.{WrittenGroup}
use Rattle.footer_rules.specs.FileRules as rule
use Rattle.parquet_writing.specs.Plans.{kind_number, fixed_length, repetition, file_meta_data}
use Rattle.parquet_meta.specs.Footer.{file_meta_at}
use Rattle.parquet_writing.specs.Fitting.{FitsFooter}
use Rattle.thrift_compact.specs.Tree.{struct}
use Rattle.parquet_meta.specs.PlanRules.{IsTextOf, AreTyped, text_of, typed_column, planned_typed, TypedIsPlanned, planned_chunk, planned_group, planned_groups, PassedPlanIsRead}
use Rattle.parquet_meta.specs.ReadBack.{NumbersFit, written, chunk_key, chunk_part, group_part, group_parts, root_part, column_part, converted_part, plan_fields}
use Rattle.parquet_meta.proofs.ReadBackProved.{file_meta_read}

equal_were : (place : Place) (a b : ℤ) (u : Unit {0}) → rule.check_equal place a b ≡ Ok u → a ≡ b
equal_were place a b u e = let same : int_eq a b ≡ true = (tested (int_eq a b) tt u _ e).0 in grind (arith, ints, same)

-- A column.
kind_was : (place : Place) (k found : ColumnKind) → rule.kind_of place (Some (kind_number k)) (fixed_length k) ≡ Ok found → found ≡ k
kind_was place kind.Boolean found e = sym (ok_same kind.Boolean found e)
kind_was place kind.Int32 found e = sym (ok_same kind.Int32 found e)
kind_was place kind.Int64 found e = sym (ok_same kind.Int64 found e)
kind_was place kind.Int96 found e = sym (ok_same kind.Int96 found e)
kind_was place kind.Float found e = sym (ok_same kind.Float found e)
kind_was place kind.Double found e = sym (ok_same kind.Double found e)
kind_was place kind.ByteArray found e = sym (ok_same kind.ByteArray found e)
kind_was place (kind.Fixed length) found e = sym (ok_same (kind.Fixed length) found (passed (int_lt (pos length) (pos 1)) _ (Ok (kind.Fixed length)) found e).1)

optional_was : (place : Place) (optional found : Bool) → rule.optional_of place (Some (repetition optional)) ≡ Ok found → found ≡ optional
optional_was place false found e = sym (ok_same false found e)
optional_was place true found e = sym (ok_same true found e)

text_was : (k : ColumnKind) (text : Bool) → rule.is_text k (converted_part text) ≡ text_of k text
text_was kind.ByteArray false = refl
text_was kind.ByteArray true = refl
text_was kind.Boolean text = refl
text_was kind.Int32 text = refl
text_was kind.Int64 text = refl
text_was kind.Int96 text = refl
text_was kind.Float text = refl
text_was kind.Double text = refl
text_was (kind.Fixed length) text = refl

abbrev column_with : ColumnSpec → ColumnKind → Bool → Bool → ColumnSpec
column_with column k optional text = record { name = column.name; kind = k; optional = optional; text = text }

abbrev named : Place → rule.Names → ColumnSpec → ColumnKind → Bool → Result ColumnSpec Refusal
named place earlier column k optional =
    rule.check_name place column.name earlier >>= λ new. Ok (column_with column k optional (rule.is_text k (converted_part column.text)))

abbrev kept : Place → rule.Names → ColumnSpec → ColumnKind → Result ColumnSpec Refusal
kept place earlier column k = rule.optional_of place (Some (repetition column.optional)) >>= λ optional. named place earlier column k optional

column_was : (place : Place) (earlier : rule.Names) (column found : ColumnSpec) → rule.column_of place earlier (column_part column) ≡ Ok found → found ≡ typed_column column
column_was place earlier column found e =
    let k = bind_ok (rule.kind_of place (Some (kind_number column.kind)) (fixed_length column.kind)) (kept place earlier column) found e in
    let o = bind_ok (rule.optional_of place (Some (repetition column.optional))) (named place earlier column k.0) found k.2 in
    let n = bind_ok (rule.check_name place column.name earlier) (λ new. Ok (column_with column k.0 o.0 (rule.is_text k.0 (converted_part column.text)))) found o.2 in
    sym (ok_same (column_with column k.0 o.0 (rule.is_text k.0 (converted_part column.text))) found n.2)
    ∙ (ap (λ x. column_with column x o.0 (rule.is_text x (converted_part column.text))) (kind_was place column.kind k.0 k.1)
    ∙ (ap (λ x. column_with column column.kind x (rule.is_text column.kind (converted_part column.text))) (optional_was place column.optional o.0 o.1)
    ∙ ap (λ x. column_with column column.kind column.optional x) (text_was column.kind column.text)))

columns_were : (place : Place) (earlier : rule.Names) (columns found : List ColumnSpec) → rule.columns_of place earlier (map_list column_part columns) ≡ Ok found → found ≡ map_list typed_column columns
columns_were place earlier [] found e = sym (ok_same [] found e)
columns_were place earlier (column ∷ columns) found e =
    let others : Result (List ColumnSpec) Refusal = rule.columns_of place (insert earlier column.name) (map_list column_part columns) in
    let one = bind_ok (rule.column_of place earlier (column_part column)) (λ c. others >>= λ cs. Ok (c ∷ cs)) found e in
    let more = bind_ok others (λ cs. Ok (one.0 ∷ cs)) found one.2 in
    sym (ok_same (one.0 ∷ more.0) found more.2)
    ∙ (ap (λ c. c ∷ more.0) (column_was place earlier column one.0 one.1)
    ∙ ap (λ cs. typed_column column ∷ cs) (columns_were place (insert earlier column.name) columns more.0 more.1))

schema_was : (place : Place) (columns found : List ColumnSpec) → rule.schema_of place (root_part (length columns) ∷ map_list column_part columns) ≡ Ok found → found ≡ map_list typed_column columns
schema_was place columns found e =
    let elements = map_list column_part columns in
    let counted = bind_ok (rule.check_equal place (pos (length columns)) (pos (length elements))) (λ u. rule.check_count place (length elements) >>= λ v. rule.columns_of place empty elements) found e in
    let few = bind_ok (rule.check_count place (length elements)) (λ v. rule.columns_of place empty elements) found counted.2 in
    columns_were place empty columns found few.2

-- The column chunks of a row group.
crypto_was : (place : Place) (text column : List ℕ) (crypto found : ChunkCrypto) → rule.chunk_crypto place column (chunk_key text crypto) ≡ Ok found → found ≡ crypto
crypto_was place text column key.Plain found e = sym (ok_same key.Plain found e)
crypto_was place text column key.FooterKey found e = sym (ok_same key.FooterKey found e)
crypto_was place text column (key.ColumnKey metadata) found e =
    let own = bind_ok (rule.check_path place (text ∷ []) column) (λ u. Ok (key.ColumnKey metadata)) found e in
    sym (ok_same (key.ColumnKey metadata) found own.2)

abbrev chunk_with : WrittenChunk → ChunkCrypto → ChunkMeta
chunk_with chunk crypto = record { crypto = crypto; plain_meta = (chunk_part chunk).plain_meta; sealed_meta = chunk.sealed_meta }

chunk_was : (place : Place) (column : List ℕ) (chunk : WrittenChunk) (found : ChunkMeta) → rule.chunk_of place column (chunk_part chunk) ≡ Ok found → found ≡ planned_chunk chunk
chunk_was place column chunk found e =
    let crypto = bind_ok (rule.chunk_crypto place column (chunk_key chunk.spec.name chunk.crypto)) (λ k. Ok (chunk_with chunk k)) found e in
    sym (ok_same (chunk_with chunk crypto.0) found crypto.2) ∙ ap (chunk_with chunk) (crypto_was place chunk.spec.name column chunk.crypto crypto.0 crypto.1)

chunks_were : (place : Place) (columns : List ColumnSpec) (chunks : List WrittenChunk) (found : List ChunkMeta) → length chunks ≡ length columns → rule.chunks_of place columns (map_list chunk_part chunks) ≡ Ok found → found ≡ map_list planned_chunk chunks
chunks_were place [] [] found as_many e = sym (ok_same [] found e)
chunks_were place [] (chunk ∷ chunks) found as_many e = absurd (omega (as_many, arith))
chunks_were place (column ∷ columns) [] found as_many e = absurd (omega (as_many, arith))
chunks_were place (column ∷ columns) (chunk ∷ chunks) found as_many e =
    let others : Result (List ChunkMeta) Refusal = rule.chunks_of place columns (map_list chunk_part chunks) in
    let one = bind_ok (rule.chunk_of place column.name (chunk_part chunk)) (λ c. others >>= λ cs. Ok (c ∷ cs)) found e in
    let more = bind_ok others (λ cs. Ok (one.0 ∷ cs)) found one.2 in
    sym (ok_same (one.0 ∷ more.0) found more.2)
    ∙ (ap (λ c. c ∷ more.0) (chunk_was place column.name chunk one.0 one.1)
    ∙ ap (λ cs. planned_chunk chunk ∷ cs) (chunks_were place columns chunks more.0 (omega (as_many, arith)) more.1))

-- The row groups.
abbrev group_with : ℕ → WrittenGroup → List ChunkMeta → RowGroupMeta
group_with position group chunks = record { chunks = chunks; num_rows = group.num_rows; ordinal = Some (pos position) }

abbrev chunks_in : Place → List ColumnSpec → ℕ → WrittenGroup → Result RowGroupMeta Refusal
chunks_in place columns position group = rule.chunks_of place columns (map_list chunk_part group.chunks) >>= λ cs. Ok (group_with position group cs)

abbrev placed_in : Place → List ColumnSpec → ℕ → WrittenGroup → Result RowGroupMeta Refusal
placed_in place columns position group = rule.check_ordinal place position (Some (pos position)) >>= λ p. chunks_in place columns position group

abbrev counted_in : Place → ℤ → Result (Unit {0}) Refusal
counted_in place rows = rule.check_not_negative place name.RowGroup (pos 3) rows

group_was : (place : Place) (columns : List ColumnSpec) (position : ℕ) (group : WrittenGroup) (found : RowGroupMeta) → rule.group_of place columns position (group_part position group) ≡ Ok found → found ≡ planned_group position group
group_was place columns position group found e =
    let parts = map_list chunk_part group.chunks in
    let whole = bind_ok (rule.check_equal place (pos (length parts)) (pos (length columns))) (λ w. counted_in place group.num_rows >>= λ c. placed_in place columns position group) found e in
    let counted = bind_ok (counted_in place group.num_rows) (λ c. placed_in place columns position group) found whole.2 in
    let placed = bind_ok (rule.check_ordinal place position (Some (pos position))) (λ p. chunks_in place columns position group) found counted.2 in
    let chunks = bind_ok (rule.chunks_of place columns parts) (λ cs. Ok (group_with position group cs)) found placed.2 in
    let sized : pos (length parts) ≡ pos (length columns) = equal_were place (pos (length parts)) (pos (length columns)) whole.0 whole.1 in
    let same : length group.chunks ≡ length columns = sym (length-map group.chunks chunk_part) ∙ cc in
    sym (ok_same (group_with position group chunks.0) found chunks.2) ∙ ap (group_with position group) (chunks_were place columns group.chunks chunks.0 same chunks.1)

groups_were : (place : Place) (columns : List ColumnSpec) (position : ℕ) (groups : List WrittenGroup) (found : List RowGroupMeta) → rule.groups_of place columns position (group_parts position groups) ≡ Ok found → found ≡ planned_groups position groups
groups_were place columns position [] found e = sym (ok_same [] found e)
groups_were place columns position (group ∷ groups) found e =
    let others : Result (List RowGroupMeta) Refusal = rule.groups_of place columns (position + 1) (group_parts (position + 1) groups) in
    let one = bind_ok (rule.group_of place columns position (group_part position group)) (λ g. others >>= λ gs. Ok (g ∷ gs)) found e in
    let more = bind_ok others (λ gs. Ok (one.0 ∷ gs)) found one.2 in
    sym (ok_same (one.0 ∷ more.0) found more.2)
    ∙ (ap (λ g. g ∷ more.0) (group_was place columns position group one.0 one.1)
    ∙ ap (λ gs. planned_group position group ∷ gs) (groups_were place columns (position + 1) groups more.0 more.1))

abbrev file_with : FooterPlan → List ColumnSpec → List RowGroupMeta → FileMeta
file_with plan columns groups = record { schema = columns; num_rows = plan.num_rows; groups = groups; algorithm = plan.algorithm; signing_key_metadata = plan.signing_key_metadata }

abbrev summed : Place → FooterPlan → List ColumnSpec → List RowGroupMeta → Result FileMeta Refusal
summed place plan columns groups = rule.check_rows place (rule.all_rows groups) plan.num_rows >>= λ s. Ok (file_with plan columns groups)

abbrev grouped : Place → FooterPlan → List ColumnSpec → Result FileMeta Refusal
grouped place plan columns = rule.groups_of place columns 0 (group_parts 0 plan.groups) >>= λ groups. summed place plan columns groups

abbrev few_groups : Place → FooterPlan → List ColumnSpec → Result FileMeta Refusal
few_groups place plan columns = rule.check_count place (length (group_parts 0 plan.groups)) >>= λ f. grouped place plan columns

abbrev rows_in : Place → ℤ → Result (Unit {0}) Refusal
rows_in place rows = rule.check_not_negative place name.FileMetaData (pos 3) rows

file_was : (place : Place) (plan : FooterPlan) (found : FileMeta) → rule.file_of place (plan_fields plan) ≡ Ok found → found ≡ planned_typed plan
file_was place plan found e =
    let schema = bind_ok (rule.schema_of place (root_part (length plan.schema) ∷ map_list column_part plan.schema)) (λ columns. rows_in place plan.num_rows >>= λ c. few_groups place plan columns) found e in
    let counted = bind_ok (rows_in place plan.num_rows) (λ c. few_groups place plan schema.0) found schema.2 in
    let few = bind_ok (rule.check_count place (length (group_parts 0 plan.groups))) (λ f. grouped place plan schema.0) found counted.2 in
    let groups = bind_ok (rule.groups_of place schema.0 0 (group_parts 0 plan.groups)) (λ groups. summed place plan schema.0 groups) found few.2 in
    let sum = bind_ok (rule.check_rows place (rule.all_rows groups.0) plan.num_rows) (λ s. Ok (file_with plan schema.0 groups.0)) found groups.2 in
    sym (ok_same (file_with plan schema.0 groups.0) found sum.2)
    ∙ (ap (λ columns. file_with plan columns groups.0) (schema_was place plan.schema schema.0 schema.1)
    ∙ ap (λ gs. file_with plan (map_list typed_column plan.schema) gs) (groups_were place schema.0 0 plan.groups groups.0 groups.1))

-- If the footer of any plan is read, it is the plan with only byte arrays as text.
pub typed_plan_read :
    (place : Place) (plan : FooterPlan) (rest : List ℕ) (read : FileMeta × ℕ) → FitsFooter plan → NumbersFit (struct (file_meta_data plan))
    → file_meta_at place (written (file_meta_data plan) ++ rest) ≡ Ok read → read ≡ (planned_typed plan, length (written (file_meta_data plan)))
typed_plan_read place plan rest read fits numbers e =
    let size = length (written (file_meta_data plan)) in
    let file = bind_ok (rule.file_of place (plan_fields plan)) (λ file. Ok (file, size)) read (sym (file_meta_read place plan rest fits numbers) ∙ e) in
    sym (ok_same (file.0, size) read file.2) ∙ ap (λ f. (f, size)) (file_was place plan file.0 file.1)

text_is : (k : ColumnKind) (text : Bool) → IsTextOf k text → text_of k text ≡ text
text_is kind.ByteArray text is_one = refl
text_is kind.Boolean text is_one = sym is_one
text_is kind.Int32 text is_one = sym is_one
text_is kind.Int64 text is_one = sym is_one
text_is kind.Int96 text is_one = sym is_one
text_is kind.Float text is_one = sym is_one
text_is kind.Double text is_one = sym is_one
text_is (kind.Fixed length) text is_one = sym is_one

columns_are : (columns : List ColumnSpec) → AreTyped columns → map_list typed_column columns ≡ columns
columns_are [] typed = refl
columns_are (column ∷ columns) typed =
    ap (λ text. column_with column column.kind column.optional text ∷ map_list typed_column columns) (text_is column.kind column.text typed.0)
    ∙ ap (λ cs. column ∷ cs) (columns_are columns typed.1)

pub typed_is_planned : TypedIsPlanned
typed_is_planned plan typed = ap (λ columns. file_with plan columns (planned_groups 0 plan.groups)) (columns_are plan.schema typed)

pub passed_plan_read : PassedPlanIsRead
passed_plan_read place plan rest read fits typed numbers e =
    typed_plan_read place plan rest read fits numbers e ∙ ap (λ file. (file, length (written (file_meta_data plan)))) (typed_is_planned plan typed)
