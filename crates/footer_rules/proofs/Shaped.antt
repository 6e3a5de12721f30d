-- The shape of a footer that has passed the rules.
use Rattle.std.proofs.Common.{◌≡◌, ℕ, zero, suc, ◌+◌, ◌<◌, ◌≤◌, nat_lt, false, ℤ, pos, List, [], ◌∷◌, length, slice_index_or, Option, Some, None, Result, Ok, sym, ap, ◌∙◌, subst, arith, add-zero}
use Rattle.std.specs.FinSet.{empty, insert}
use Rattle.std.specs.Ordering.{int_eq}
use Rattle.std.proofs.lemmas.Bool.Decides.{nat_tests, Decides-int_eq}
use Rattle.pme_base.specs.declared.place.Place.{Place}
use Rattle.pme_base.specs.declared.refusal.Refusal.{Refusal}
use Rattle.pme_base.specs.declared.refusal.StructName.TheVariants as name
use Rattle.pme_base.specs.Steps.{◌>>=◌}
use Rattle.pme_base.proofs.Chain.{ok_same, bind_ok, tested, passed}
use Rattle.parquet_types.specs.declared.column.ColumnSpec.{ColumnSpec}
use Rattle.parquet_types.specs.declared.file_meta.ChunkMeta.{ChunkMeta}
use Rattle.parquet_types.specs.declared.file_meta.FileMeta.{FileMeta}
use Rattle.parquet_types.specs.declared.file_meta.RowGroupMeta.{RowGroupMeta}
use Rattle.parquet_types.specs.declared.raw_footer.ColumnChunk.{ColumnChunk}
use Rattle.parquet_types.specs.declared.raw_footer.RawFileMeta.{RawFileMeta}
use Rattle.parquet_types.specs.declared.raw_footer.RowGroup.{RowGroup}
use Rattle.parquet_types.specs.declared.raw_footer.SchemaElement.{SchemaElement}
use Rattle.footer_rules.specs.FileRules as rule
use Rattle.footer_rules.specs.Shape.{IsPosition, IsShaped}

same_numbers : (a b : ℕ) → ◌≡◌ {A = ℤ} (pos a) (pos b) → a ≡ b
same_numbers a b e = cc

numbers_were : (place : Place) (a b : ℤ) (u : Unit {0}) → rule.check_equal place a b ≡ Ok u → a ≡ b
numbers_were place a b u e = (Decides-int_eq a b).0 (tested (int_eq a b) tt u _ e).0

no_less : (a b : ℕ) → nat_lt a b ≡ false → b ≤ a
no_less a b e = grind (arith, nat_tests)

were_few : (place : Place) (n : ℕ) (u : Unit {0}) → rule.check_count place n ≡ Ok u → n ≤ 32768
were_few place n u e = no_less 32768 n (passed (nat_lt 32768 n) _ (Ok tt) u e).0

-- There is a column for each element of the schema after the root, and a column chunk for each column.
columns_count : (place : Place) (earlier : rule.Names) (elements : List SchemaElement) (columns : List ColumnSpec) → rule.columns_of place earlier elements ≡ Ok columns → length columns ≡ length elements
columns_count place earlier [] columns e = ap length (sym (ok_same {E = Refusal} [] columns e))
columns_count place earlier (element ∷ elements) columns e =
    let later : Result (List ColumnSpec) Refusal = rule.columns_of place (insert earlier element.name) elements in
    let (column, is, after) = bind_ok (rule.column_of place earlier element) (λ c. later >>= λ cs. Ok (c ∷ cs)) columns e in
    let (rest, rest_is, made) = bind_ok later (λ cs. Ok (column ∷ cs)) columns after in
    ap length (sym (ok_same {E = Refusal} (column ∷ rest) columns made)) ∙ ap suc (columns_count place (insert earlier element.name) elements rest rest_is)

schema_few : (place : Place) (elements : List SchemaElement) (columns : List ColumnSpec) → rule.schema_of place elements ≡ Ok columns → length columns ≤ 32768
schema_few place [] columns e = cc
schema_few place (root ∷ elements) columns e =
    let (u, counted, after) = bind_ok (rule.check_equal place _ (pos (length elements))) (λ u. rule.check_count place (length elements) >>= λ v. rule.columns_of place empty elements) columns e in
    let (v, few, made) = bind_ok (rule.check_count place (length elements)) (λ v. rule.columns_of place empty elements) columns after in
    subst (λ n. n ≤ 32768) (sym (columns_count place empty elements columns made)) (were_few place (length elements) v few)

chunks_count : (place : Place) (columns : List ColumnSpec) (chunks : List ColumnChunk) (made : List ChunkMeta) → length chunks ≡ length columns → rule.chunks_of place columns chunks ≡ Ok made → length made ≡ length columns
chunks_count place [] chunks made n e = ap length (sym (ok_same {E = Refusal} [] made e))
chunks_count place (column ∷ columns) [] made n e = absurd (omega arith)
chunks_count place (column ∷ columns) (chunk ∷ chunks) made n e =
    let later : Result (List ChunkMeta) Refusal = rule.chunks_of place columns chunks in
    let (c, is, after) = bind_ok (rule.chunk_of place column.name chunk) (λ c. later >>= λ cs. Ok (c ∷ cs)) made e in
    let (rest, rest_is, joined) = bind_ok later (λ cs. Ok (c ∷ cs)) made after in
    ap length (sym (ok_same {E = Refusal} (c ∷ rest) made joined)) ∙ ap suc (chunks_count place columns chunks rest (omega arith) rest_is)

position_was : (place : Place) (position : ℕ) (ordinal : Option ℤ) (u : Unit {0}) → rule.check_ordinal place position ordinal ≡ Ok u → IsPosition position ordinal
position_was place position None u e = tt
position_was place position (Some ordinal) u e = numbers_were place ordinal (pos position) u e

-- A row group that has passed, at its position.
pub record IsGroup (columns position : ℕ) (group : RowGroupMeta) : Type 0 where
  pub whole : length group.chunks ≡ columns
  pub placed : IsPosition position group.ordinal

group_is : (place : Place) (columns : List ColumnSpec) (position : ℕ) (group : RowGroup) (made : RowGroupMeta) → rule.group_of place columns position group ≡ Ok made → IsGroup (length columns) position made
group_is place columns position group made e =
    let last : List ChunkMeta → Result RowGroupMeta Refusal = λ chunks. Ok (record { chunks = chunks; num_rows = group.num_rows; ordinal = group.ordinal }) in
    let (u, whole, second) = bind_ok (rule.check_equal place (pos (length group.chunks)) (pos (length columns))) (λ u. rule.check_not_negative place name.RowGroup (pos 3) group.num_rows >>= λ v. rule.check_ordinal place position group.ordinal >>= λ w. rule.chunks_of place columns group.chunks >>= last) made e in
    let (v, counted, third) = bind_ok (rule.check_not_negative place name.RowGroup (pos 3) group.num_rows) (λ v. rule.check_ordinal place position group.ordinal >>= λ w. rule.chunks_of place columns group.chunks >>= last) made second in
    let (w, placed, fourth) = bind_ok (rule.check_ordinal place position group.ordinal) (λ w. rule.chunks_of place columns group.chunks >>= last) made third in
    let (chunks, chunks_are, joined) = bind_ok (rule.chunks_of place columns group.chunks) last made fourth in
    let same : record { chunks = chunks; num_rows = group.num_rows; ordinal = group.ordinal } ≡ made = ok_same {E = Refusal} _ made joined in
    let count : length group.chunks ≡ length columns = same_numbers _ _ (numbers_were place (pos (length group.chunks)) (pos (length columns)) u whole) in
    record {
      whole = ap (λ (g : RowGroupMeta). length g.chunks) (sym same) ∙ chunks_count place columns group.chunks chunks count chunks_are;
      placed = subst (λ o. IsPosition position o) (ap (λ (g : RowGroupMeta). g.ordinal) same) (position_was place position group.ordinal w placed);
    }

abbrev AreGroups : ℕ → ℕ → List RowGroupMeta → Type 0
AreGroups columns position groups = (k : ℕ) (d : RowGroupMeta) → k < length groups → IsGroup columns (position + k) (slice_index_or groups k d)

groups_next : (columns position : ℕ) (group : RowGroupMeta) (groups : List RowGroupMeta) → IsGroup columns position group → AreGroups columns (position + 1) groups → AreGroups columns position (group ∷ groups)
groups_next columns position group groups first later zero d below = subst (λ n. IsGroup columns n group) (sym (add-zero position)) first
groups_next columns position group groups first later (suc k) d below =
    let moved : position + 1 + k ≡ position + suc k = omega arith in
    subst (λ n. IsGroup columns n (slice_index_or groups k d)) moved (later k d (omega arith))

groups_are : (place : Place) (columns : List ColumnSpec) (position : ℕ) (groups : List RowGroup) (made : List RowGroupMeta) → rule.groups_of place columns position groups ≡ Ok made
    → (length made ≡ length groups) × AreGroups (length columns) position made
groups_are place columns position [] made e =
    let none : [] ≡ made = ok_same {E = Refusal} [] made e in
    (ap length (sym none), λ k d below. let empty_is : length made ≡ 0 = ap length (sym none) in absurd (omega (arith, empty_is, below)))
groups_are place columns position (group ∷ groups) made e =
    let later : Result (List RowGroupMeta) Refusal = rule.groups_of place columns (position + 1) groups in
    let (g, is, after) = bind_ok (rule.group_of place columns position group) (λ g. later >>= λ gs. Ok (g ∷ gs)) made e in
    let (rest, rest_is, joined) = bind_ok later (λ gs. Ok (g ∷ gs)) made after in
    let same : g ∷ rest ≡ made = ok_same {E = Refusal} (g ∷ rest) made joined in
    let (count, are) = groups_are place columns (position + 1) groups rest rest_is in (
      ap length (sym same) ∙ ap suc count,
      subst (λ gs. AreGroups (length columns) position gs) same (groups_next (length columns) position g rest (group_is place columns position group g is) are),
    )

pub shape_of : (place : Place) (fields : RawFileMeta) (meta : FileMeta) → rule.file_of place fields ≡ Ok meta → IsShaped meta
shape_of place file meta e =
    let last : List ColumnSpec → List RowGroupMeta → FileMeta = λ columns groups. record { schema = columns; num_rows = file.num_rows; groups = groups; algorithm = file.algorithm; signing_key_metadata = file.signing_key_metadata } in
    let fifth : List ColumnSpec → List RowGroupMeta → Result FileMeta Refusal = λ columns groups. rule.check_rows place (rule.all_rows groups) file.num_rows >>= λ s. Ok (last columns groups) in
    let fourth : List ColumnSpec → Result FileMeta Refusal = λ columns. rule.groups_of place columns 0 file.groups >>= fifth columns in
    let third : List ColumnSpec → Result FileMeta Refusal = λ columns. rule.check_count place (length file.groups) >>= λ f. fourth columns in
    let (columns, columns_are, after) = bind_ok (rule.schema_of place file.schema) (λ columns. rule.check_not_negative place name.FileMetaData (pos 3) file.num_rows >>= λ c. third columns) meta e in
    let (c, counted, then_few) = bind_ok (rule.check_not_negative place name.FileMetaData (pos 3) file.num_rows) (λ c. third columns) meta after in
    let (f, few, then_groups) = bind_ok (rule.check_count place (length file.groups)) (λ f. fourth columns) meta then_few in
    let (groups, are, then_rows) = bind_ok (rule.groups_of place columns 0 file.groups) (fifth columns) meta then_groups in
    let (s, summed, made) = bind_ok (rule.check_rows place (rule.all_rows groups) file.num_rows) (λ s. Ok (last columns groups)) meta then_rows in
    let same : last columns groups ≡ meta = ok_same {E = Refusal} (last columns groups) meta made in
    let (count, each) = groups_are place columns 0 file.groups groups are in
    let shaped : IsShaped (last columns groups) = record {
      few_columns = schema_few place file.schema columns columns_are;
      few_groups = subst (λ n. n ≤ 32768) (sym count) (were_few place (length file.groups) f few);
      chunks = λ k d below. (each k d below).whole;
      ordinals = λ k d below. subst (λ n. IsPosition n (slice_index_or groups k d).ordinal) (let zero_first : 0 + k ≡ k = omega arith in zero_first) (each k d below).placed;
    } in
    subst IsShaped same shaped
