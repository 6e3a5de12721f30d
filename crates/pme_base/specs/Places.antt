-- Places of a file, and which ordinals each kind has.
use Rattle.std.specs.Prelude.{ℕ}
use Rattle.pme_base.specs.declared.place.Place.{Place}
use Rattle.pme_base.specs.declared.place.PlaceKind.{PlaceKind}
use Rattle.pme_base.specs.declared.place.PlaceKind.TheVariants.{ColumnMetaData, DataPage, DictionaryPage, DataPageHeader, DictionaryPageHeader, ColumnIndex, OffsetIndex}

abbrev pub place_of : PlaceKind → ℕ → ℕ → ℕ → Place
place_of kind row_group column page = record { kind = kind; row_group = row_group; column = column; page = page }

-- a kind with a row group and a column, and no page
abbrev pub NeedsColumn : PlaceKind → Type 0
NeedsColumn ColumnMetaData = Unit {0}
NeedsColumn DictionaryPage = Unit {0}
NeedsColumn DictionaryPageHeader = Unit {0}
NeedsColumn ColumnIndex = Unit {0}
NeedsColumn OffsetIndex = Unit {0}
NeedsColumn _ = ⊥

-- a kind with a row group, a column and a page
abbrev pub NeedsPage : PlaceKind → Type 0
NeedsPage DataPage = Unit {0}
NeedsPage DataPageHeader = Unit {0}
NeedsPage _ = ⊥
