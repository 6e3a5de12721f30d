-- The shape of a footer that has passed the rules: its number of columns and row groups, a column chunk for each
-- column in each row group, and ordinals that are the positions of their row groups.
use Rattle.std.specs.Prelude.{◌≡◌, ℕ, ◌<◌, ◌≤◌, ℤ, pos, length, slice_index_or, Option, Some, None, Ok}
use Rattle.std.specs.List.{All}
use Rattle.pme_base.specs.declared.limits.TheConstants.{COLUMN_LIMIT}
use Rattle.pme_base.specs.declared.place.Place.{Place}
use Rattle.parquet_types.specs.declared.file_meta.FileMeta.{FileMeta}
use Rattle.parquet_types.specs.declared.file_meta.RowGroupMeta.{RowGroupMeta}
use Rattle.parquet_types.specs.declared.raw_footer.RawFileMeta.{RawFileMeta}
use Rattle.footer_rules.specs.FileRules.{file_of}

-- The ordinal, if there is one, is the position.
abbrev pub IsPosition : ℕ → Option ℤ → Type 0
IsPosition position None = Unit {0}
IsPosition position (Some ordinal) = ordinal ≡ pos position

pub record IsShaped (meta : FileMeta) : Type 0 where
  pub few_columns : length meta.schema ≤ COLUMN_LIMIT
  pub few_groups : length meta.groups ≤ COLUMN_LIMIT
  -- Each row group has a column chunk for each column.
  pub chunks : All (λ group. length group.chunks ≡ length meta.schema) meta.groups
  pub ordinals : (position : ℕ) (d : RowGroupMeta) → position < length meta.groups → IsPosition position (slice_index_or meta.groups position d).ordinal

-- Fields that pass the rules give a footer of this shape.
abbrev pub PassedFootersAreShaped : Type 0
PassedFootersAreShaped = (place : Place) (fields : RawFileMeta) (meta : FileMeta) → file_of place fields ≡ Ok meta → IsShaped meta
