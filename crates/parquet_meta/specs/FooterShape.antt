-- The shape of a footer that is read.
use Rattle.std.specs.Prelude.{◌≡◌, ℕ, List, Ok}
use Rattle.pme_base.specs.declared.place.Place.{Place}
use Rattle.parquet_types.specs.declared.file_meta.FileMeta.{FileMeta}
use Rattle.footer_rules.specs.Shape.{IsShaped}
use Rattle.parquet_meta.specs.Footer.{file_meta_at}

-- A footer that is read from the start of the bytes has the shape that the rules require.
abbrev pub ReadFootersAreShaped : Type 0
ReadFootersAreShaped = (place : Place) (bytes : List ℕ) (meta : FileMeta) (size : ℕ) → file_meta_at place bytes ≡ Ok (meta, size) → IsShaped meta
