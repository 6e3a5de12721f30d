-- The associated data of the modules in a file (Parquet Modular Encryption, "AAD suffixes").
use Rattle.std.specs.Prelude.{◌≡◌, ◌≢◌, ℕ, ◌^◌, ◌<◌, List, [], ◌∷◌, ◌++◌, length}
use Rattle.std.specs.Int.{w16, to_le_bytes}
use Rattle.pme_base.specs.declared.place.Place.{Place}
use Rattle.pme_base.specs.declared.place.PlaceKind.{PlaceKind}
use Rattle.pme_base.specs.declared.place.PlaceKind.TheVariants.{File, Loose, Footer, ColumnMetaData, DataPage, DictionaryPage, DataPageHeader, DictionaryPageHeader, ColumnIndex, OffsetIndex}

-- a kind of place that holds a module of a file
abbrev pub IsModuleKind : PlaceKind → Type 0
IsModuleKind File = ⊥
IsModuleKind Loose = ⊥
IsModuleKind _ = Unit {0}

-- the type byte of a module; 0 for the two kinds of place that hold no module
abbrev pub type_byte : PlaceKind → ℕ
type_byte Footer = 0
type_byte ColumnMetaData = 1
type_byte DataPage = 2
type_byte DictionaryPage = 3
type_byte DataPageHeader = 4
type_byte DictionaryPageHeader = 5
type_byte ColumnIndex = 6
type_byte OffsetIndex = 7
type_byte File = 0
type_byte Loose = 0

-- the ordinals of a module of this kind, each in two bytes, little-endian
abbrev pub ordinals : PlaceKind → ℕ → ℕ → ℕ → List ℕ
ordinals File _ _ _ = []
ordinals Loose _ _ _ = []
ordinals Footer _ _ _ = []
ordinals DataPage row_group column page = to_le_bytes w16 row_group ++ to_le_bytes w16 column ++ to_le_bytes w16 page
ordinals DataPageHeader row_group column page = to_le_bytes w16 row_group ++ to_le_bytes w16 column ++ to_le_bytes w16 page
ordinals _ row_group column _ = to_le_bytes w16 row_group ++ to_le_bytes w16 column

-- the AAD suffix of the module at a place
abbrev pub suffix : Place → List ℕ
suffix place = type_byte place.kind ∷ ordinals place.kind place.row_group place.column place.page

-- the associated data of the module at a place, where `file` is the prefix and the unique bytes of the file
abbrev pub aad : List ℕ → Place → List ℕ
aad file place = file ++ suffix place

-- valid ordinals for a kind of place: each fits in two bytes, and ordinals that the kind doesn't use are 0
abbrev pub HasOrdinals : PlaceKind → ℕ → ℕ → ℕ → Type 0
HasOrdinals File _ _ _ = ⊥
HasOrdinals Loose _ _ _ = ⊥
HasOrdinals Footer row_group column page = (row_group ≡ 0) × (column ≡ 0) × (page ≡ 0)
HasOrdinals DataPage row_group column page = (row_group < 2 ^ 16) × (column < 2 ^ 16) × (page < 2 ^ 16)
HasOrdinals DataPageHeader row_group column page = (row_group < 2 ^ 16) × (column < 2 ^ 16) × (page < 2 ^ 16)
HasOrdinals _ row_group column page = (row_group < 2 ^ 16) × (column < 2 ^ 16) × (page ≡ 0)

-- a place that holds a module, with valid ordinals
abbrev pub IsModulePlace : Place → Type 0
IsModulePlace place = HasOrdinals place.kind place.row_group place.column place.page

-- different places in one file have different associated data
abbrev pub DistinctPlaces : Type 0
DistinctPlaces = (file : List ℕ) (p q : Place) → IsModulePlace p → IsModulePlace q → aad file p ≡ aad file q → p ≡ q

-- modules of two files with the same prefix and different unique bytes of equal length have different associated data
abbrev pub DistinctFiles : Type 0
DistinctFiles = (prefix u v : List ℕ) (p q : Place) → length u ≡ length v → u ≢ v → aad (prefix ++ u) p ≢ aad (prefix ++ v) q
