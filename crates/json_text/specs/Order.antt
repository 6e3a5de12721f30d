-- The order of the members of an object.
use Rattle.std.specs.Prelude.{◌≡◌, ℕ, List}
use Rattle.std.specs.Ordering.{nat_cmp}
use Rattle.std.specs.declared.cmp.Ordering.TheVariants.{Less}
use Rattle.std.specs.Cmp.Lexicographic.{slice_cmp}
use Rattle.serde_json.specs.Data.{Members, no_members, member}

-- the name is less than each name of the members
abbrev pub AllAfter : List ℕ → Members → Type 0
AllAfter name no_members = Unit {0}
AllAfter name (member later d ms) = (slice_cmp nat_cmp name later ≡ Less) × AllAfter name ms

-- each name is less than the names after it, so that no name is repeated
abbrev pub AreInByteOrder : Members → Type 0
AreInByteOrder no_members = Unit {0}
AreInByteOrder (member name d ms) = AllAfter name ms × AreInByteOrder ms
