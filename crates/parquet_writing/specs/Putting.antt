-- What the writer has written after each field and each item, in terms of the tree.
use Rattle.std.specs.Prelude.{ℕ, ◌+◌, ◌*◌, ◌<◌, ℤ, pos, ◌+ℤ◌, ◌<ℤ◌, ◌≤ℤ◌, length}
use Rattle.thrift_compact.specs.declared.writer.Part.{Part}
use Rattle.thrift_compact.specs.Spelling.{spelling}
use Rattle.thrift_compact.specs.Tree.{Tree, Fields, no_fields, field, kind_of_tree}
use Rattle.thrift_compact.specs.Writing.{Draft, with_field, Follows}

-- A field and its value are added to the open struct.
abbrev pub with_value : ℤ → Tree → Draft → Draft
with_value id t d = with_field id (kind_of_tree t) (spelling t) d

-- Fields are added one after the other.
abbrev pub with_fields : Fields → Draft → Draft
with_fields no_fields d = d
with_fields (field id t fs) d = with_fields fs (with_value id t d)

-- `depth` more structs and lists may be opened inside each other.
abbrev pub HasDepth : ℕ → Draft → Type 0
HasDepth depth d = length d.outer + depth < 32

-- Fields with greater ids may follow.
abbrev pub IsUpTo : ℤ → Part → Type 0
IsUpTo id inner = (next : ℤ) → id <ℤ next → Follows next inner

-- The number is within the range of a sum of `n` numbers of 64 bits with sign.
pub record IsWithin (n : ℕ) (z : ℤ) : Type 0 where
  pub low : pos 0 ≤ℤ (z +ℤ pos (n * 9223372036854775808))
  pub high : z ≤ℤ pos (n * 9223372036854775808)
