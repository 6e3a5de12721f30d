-- How the reader keeps the ids of a struct's fields.
use Rattle.std.specs.Prelude.{◌≡◌, ℤ, ◌<ℤ◌, false, List}
use Rattle.std.specs.BTreeSet.{BTreeSet, contains}
use Rattle.std.specs.Ordering.{int_cmp}
use Rattle.thrift_compact.specs.declared.ids.Held.{Held}
use Rattle.thrift_compact.specs.declared.ids.Held.TheVariants.{Few, Many}
use Rattle.thrift_compact.specs.Reading.{is_among, last as last_of}

abbrev pub ids_held : Held → List ℤ
ids_held (Few few) = few
ids_held (Many many) = many

-- `last` is the last id or 0, and no id is greater than `greatest`
pub record IsKept (last greatest : ℤ) (ids : List ℤ) : Type 0 where
  pub is_last : last ≡ last_of ids
  pub none_above : (id : ℤ) → greatest <ℤ id → is_among id ids ≡ false

-- the set has the same ids as the list
pub record IsIndex (index : BTreeSet ℤ) (ids : List ℤ) : Type 0 where
  pub same : (id : ℤ) → is_among id ids ≡ contains int_cmp index id
