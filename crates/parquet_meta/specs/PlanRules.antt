-- Plans that keep the rules on footers, and the footer that is read back from the bytes of a plan.
use Rattle.std.specs.Prelude.{◌≡◌, ℕ, ◌+◌, ◌<◌, ◌≤◌, ℤ, pos, ◌+ℤ◌, ◌≤ℤ◌, Bool, true, false, List, [], ◌∷◌, ◌++◌, length, map, Some, Ok}
use Rattle.std.specs.FinSet.{contains, empty, insert}
use Rattle.std.specs.Str.{is_utf8}
use Rattle.pme_base.specs.declared.place.Place.{Place}
use Rattle.thrift_compact.specs.Tree.{struct}
use Rattle.parquet_types.specs.declared.column.ColumnKind.{ColumnKind}
use Rattle.parquet_types.specs.declared.column.ColumnKind.TheVariants as kind
use Rattle.parquet_types.specs.declared.column.ColumnSpec.{ColumnSpec}
use Rattle.parquet_types.specs.declared.file_meta.ChunkMeta.{ChunkMeta}
use Rattle.parquet_types.specs.declared.file_meta.FileMeta.{FileMeta}
use Rattle.parquet_types.specs.declared.file_meta.RowGroupMeta.{RowGroupMeta}
use Rattle.parquet_types.specs.declared.plan.FooterPlan.{FooterPlan}
use Rattle.parquet_types.specs.declared.plan.WrittenChunk.{WrittenChunk}
use Rattle.parquet_types.specs.declared.plan.WrittenGroup.{WrittenGroup}
use Rattle.parquet_meta.specs.Footer.{file_meta_at}
use Rattle.footer_rules.specs.FileRules.{Names}
use Rattle.parquet_writing.specs.Fitting.{FitsFooter}
use Rattle.parquet_writing.specs.Plans.{file_meta_data}
use Rattle.parquet_fields.specs.Calls.{signing_at}
use Rattle.parquet_meta.specs.ReadBack.{NumbersFit, written, shown_meta, signed_by}

-- A fixed length is at least 1 byte, and only byte arrays are text.
abbrev pub IsKindOf : ColumnKind → Bool → Type 0
IsKindOf kind.ByteArray text = Unit {0}
IsKindOf (kind.Fixed length) text = (0 < length) × (text ≡ false)
IsKindOf k text = text ≡ false

-- Columns that follow columns with the names `earlier`: each name is UTF-8 and new.
abbrev pub AreColumns : Names → List ColumnSpec → Type 0
AreColumns earlier [] = Unit {0}
AreColumns earlier (column ∷ columns) =
    (is_utf8 column.name ≡ true) × (contains earlier column.name ≡ false) × IsKindOf column.kind column.text
    × AreColumns (insert earlier column.name) columns

-- There is a column chunk for each column.
abbrev pub AreChunksOf : List ColumnSpec → List WrittenChunk → Type 0
AreChunksOf [] [] = Unit {0}
AreChunksOf (column ∷ columns) (chunk ∷ chunks) = (chunk.spec.name ≡ column.name) × AreChunksOf columns chunks
AreChunksOf columns chunks = ⊥

abbrev pub AreGroupsOf : List ColumnSpec → List WrittenGroup → Type 0
AreGroupsOf columns [] = Unit {0}
AreGroupsOf columns (group ∷ groups) = AreChunksOf columns group.chunks × (pos 0 ≤ℤ group.num_rows) × AreGroupsOf columns groups

abbrev pub rows_of : List WrittenGroup → ℤ
rows_of [] = pos 0
rows_of (group ∷ groups) = group.num_rows +ℤ rows_of groups

-- A plan that keeps the rules on footers, as `pme` makes it.
pub record IsFilePlan (plan : FooterPlan) : Type 0 where
  pub columns : AreColumns empty plan.schema
  pub few_columns : length plan.schema ≤ 32768
  pub few_groups : length plan.groups ≤ 32768
  pub groups : AreGroupsOf plan.schema plan.groups
  pub counted : pos 0 ≤ℤ plan.num_rows
  pub small : plan.num_rows ≤ℤ pos 9223372036854775807
  pub summed : rows_of plan.groups ≡ plan.num_rows

-- The footer that a plan is read back as.
abbrev pub planned_chunk : WrittenChunk → ChunkMeta
planned_chunk chunk =
    record { crypto = chunk.crypto; plain_meta = shown_meta chunk chunk.show_meta; sealed_meta = chunk.sealed_meta }

abbrev pub planned_group : ℕ → WrittenGroup → RowGroupMeta
planned_group position group =
    record { chunks = map planned_chunk group.chunks; num_rows = group.num_rows; ordinal = Some (pos position) }

abbrev pub planned_groups : ℕ → List WrittenGroup → List RowGroupMeta
planned_groups position [] = []
planned_groups position (group ∷ groups) = planned_group position group ∷ planned_groups (position + 1) groups

abbrev pub planned : FooterPlan → FileMeta
planned plan = record {
  schema = plan.schema;
  num_rows = plan.num_rows;
  groups = planned_groups 0 plan.groups;
  algorithm = plan.algorithm;
  signing_key_metadata = plan.signing_key_metadata;
}

-- The footer of a plan that keeps the rules is read back as the plan.
abbrev pub FilePlanIsRead : Type 0
FilePlanIsRead =
    (place : Place) (plan : FooterPlan) (rest : List ℕ) → FitsFooter plan → IsFilePlan plan → NumbersFit (struct (file_meta_data plan))
    → file_meta_at place (written (file_meta_data plan) ++ rest) ≡ Ok (planned plan, length (written (file_meta_data plan)))

-- Only byte arrays are text.
abbrev pub IsTextOf : ColumnKind → Bool → Type 0
IsTextOf kind.ByteArray text = Unit {0}
IsTextOf k text = text ≡ false

abbrev pub AreTyped : List ColumnSpec → Type 0
AreTyped [] = Unit {0}
AreTyped (column ∷ columns) = IsTextOf column.kind column.text × AreTyped columns

-- A column as it is read back: only byte arrays are text.
abbrev pub text_of : ColumnKind → Bool → Bool
text_of kind.ByteArray text = text
text_of k text = false

abbrev pub typed_column : ColumnSpec → ColumnSpec
typed_column column =
    record { name = column.name; kind = column.kind; optional = column.optional; text = text_of column.kind column.text }

abbrev pub planned_typed : FooterPlan → FileMeta
planned_typed plan = record {
  schema = map typed_column plan.schema;
  num_rows = plan.num_rows;
  groups = planned_groups 0 plan.groups;
  algorithm = plan.algorithm;
  signing_key_metadata = plan.signing_key_metadata;
}

-- If only byte arrays are text, `planned_typed` and `planned` are the same footer.
abbrev pub TypedIsPlanned : Type 0
TypedIsPlanned = (plan : FooterPlan) → AreTyped plan.schema → planned_typed plan ≡ planned plan

-- If the footer of any plan passes the rules, it is read back as the plan.
abbrev pub PassedPlanIsRead : Type 0
PassedPlanIsRead =
    (place : Place) (plan : FooterPlan) (rest : List ℕ) (read : FileMeta × ℕ) → FitsFooter plan → AreTyped plan.schema → NumbersFit (struct (file_meta_data plan))
    → file_meta_at place (written (file_meta_data plan) ++ rest) ≡ Ok read → read ≡ (planned plan, length (written (file_meta_data plan)))

-- The bytes of a plan's footer, by what a reader gets from them, whatever bytes follow.
pub record IsFooterOf (plan : FooterPlan) (bytes : List ℕ) : Type 0 where
  -- A plan that keeps the rules is read back as the plan.
  pub keeps : IsFilePlan plan → (place : Place) (rest : List ℕ) → file_meta_at place (bytes ++ rest) ≡ Ok (planned plan, length bytes)
  -- If any plan is read at all, it is read back as the plan, with only byte arrays as text.
  pub passed :
      (place : Place) (rest : List ℕ) (read : FileMeta × ℕ) → file_meta_at place (bytes ++ rest) ≡ Ok read
      → read ≡ (planned_typed plan, length bytes)
  -- The signing algorithm and key are read back without the rules.
  pub signing :
      (place : Place) (rest : List ℕ) → signing_at place (bytes ++ rest)
      ≡ Ok (signed_by plan.algorithm plan.signing_key_metadata, length bytes)
