-- The state of a typed reader, and the results of its calls by the definitions of Reading.
use Rattle.std.specs.Prelude.{◌≡◌, ℕ, ◌-◌, ◌<◌, ℤ, List, [], ◌∷◌, ◌++◌, length, Option, Some, None, Result, Ok, Err}
use Rattle.thrift_compact.specs.declared.cursor.Stop.{Stop}
use Rattle.thrift_compact.specs.declared.frame.Frame.{Frame}
use Rattle.thrift_compact.specs.declared.frame.Frame.TheVariants as frame
use Rattle.thrift_compact.specs.declared.frame.FieldHead.{FieldHead}
use Rattle.thrift_compact.specs.declared.kind.TKind.{TKind}
use Rattle.thrift_compact.specs.declared.kind.TKind.TheVariants as kind
use Rattle.thrift_compact.specs.declared.refusal.ThriftRefusal.{ThriftRefusal}
use Rattle.thrift_compact.specs.declared.refusal.ThriftRefusal.TheVariants.{Bad, OutOfMemory}
use Rattle.thrift_compact.specs.Reading.{Fault, nest, value, list_head, field_head}
use Rattle.thrift_compact.specs.Tree.{Tree, kind_of_tree}

-- the unread bytes, the length of the whole input, the innermost open part, and the parts around it, innermost first
pub record Standing : Type 0 where
  pub rest : List ℕ
  pub size : ℕ
  pub inner : Frame
  pub outer : List Frame

-- the last part, and only that, is Outside
abbrev pub IsStack : Frame → List Frame → Type 0
IsStack frame.Outside [] = Unit {0}
IsStack frame.Outside (around ∷ outer) = ⊥
IsStack inner [] = ⊥
IsStack inner (around ∷ outer) = IsStack around outer

-- the number of levels of structs, lists, sets and maps that may still be opened
abbrev pub depth_left : Standing → ℕ
depth_left s = 32 - length s.outer

abbrev pub IsStruct : Frame → Type 0
IsStruct (frame.Struct ids) = Unit {0}
IsStruct _ = ⊥

abbrev pub IsList : Frame → Type 0
IsList frame.List = Unit {0}
IsList _ = ⊥

-- the ids of the fields of a struct so far
abbrev pub ids_of : Frame → List ℤ
ids_of (frame.Struct ids) = ids
ids_of _ = []

-- the error has the fault of the reading and its offset; any call may return OutOfMemory
abbrev pub FailsAt : {X : Type 0} → ℕ → ThriftRefusal → Result X Fault → Type 0
FailsAt size (Bad at why) read = (left : ℕ) × (read ≡ Err (why, left)) × (at ≡ size - left)
FailsAt size OutOfMemory read = Unit {0}

-- the open parts are unchanged
pub record Moves (before after : Standing) : Type 0 where
  pub size : after.size ≡ before.size
  pub inner : after.inner ≡ before.inner
  pub outer : after.outer ≡ before.outer

-- a result Ok is the value of the reading, seen through `view`, and the reader moves past it; a result Err is its fault
abbrev pub GivesAt : {X Y : Type 0} → (X → Y) → Standing → Standing → Result X ThriftRefusal → Result (Y × List ℕ) Fault → Type 0
GivesAt view before after (Ok x) read = (read ≡ Ok (view x, after.rest)) × Moves before after
GivesAt view before after (Err refusal) read = FailsAt before.size refusal read

-- a part is opened inside the innermost one
pub record Opens (before after : Standing) (opened : Frame) : Type 0 where
  pub depth_left : 0 < depth_left before
  pub size : after.size ≡ before.size
  pub inner : after.inner ≡ opened
  pub outer : after.outer ≡ before.inner ∷ before.outer

-- the innermost open part is closed
pub record Closes (before after : Standing) : Type 0 where
  pub size : after.size ≡ before.size
  pub outer : before.outer ≡ after.inner ∷ after.outer

abbrev pub BeginsStruct : Standing → Standing → Result (Unit {0}) ThriftRefusal → Type 0
BeginsStruct before after (Ok _) = (after.rest ≡ before.rest) × Opens before after (frame.Struct [])
BeginsStruct before after (Err refusal) = FailsAt before.size refusal ((nest (depth_left before)).fields before.rest)

abbrev pub BeginsList : Standing → Standing → Result (TKind × ℕ) ThriftRefusal → Type 0
BeginsList before after (Ok head) =
    (list_head before.rest ≡ Ok (head, after.rest)) × Opens before after frame.List
BeginsList before after (Err refusal) = FailsAt before.size refusal ((nest (depth_left before)).trees before.rest)

-- the next field's id is appended to the struct's ids, or the stop byte closes the struct
abbrev pub ReadsField : Standing → Standing → Result (Option FieldHead) ThriftRefusal → Type 0
ReadsField before after (Ok (Some head)) =
    (field_head (ids_of before.inner) before.rest ≡ Ok (Some (head.id, head.kind), after.rest))
    × (after.size ≡ before.size)
    × (after.inner ≡ frame.Struct (ids_of before.inner ++ head.id ∷ []))
    × (after.outer ≡ before.outer)
ReadsField before after (Ok None) =
    (field_head (ids_of before.inner) before.rest ≡ Ok (None, after.rest)) × Closes before after
ReadsField before after (Err refusal) =
    FailsAt before.size refusal (field_head (ids_of before.inner) before.rest)

-- a field's head as a pair of id and kind
abbrev pub head_of : Option FieldHead → Option (ℤ × TKind)
head_of (Some head) = Some (head.id, head.kind)
head_of None = None

abbrev pub TakesHead : Result (Option FieldHead) Stop → Frame → Frame → Type 0
TakesHead (Ok (Some head)) before after = after ≡ frame.Struct (ids_of before ++ head.id ∷ [])
TakesHead (Ok None) before after = after ≡ before
TakesHead (Err stop) before after = IsStruct after

-- the kinds of integers
abbrev pub IsWholeKind : TKind → Type 0
IsWholeKind kind.I8 = Unit {0}
IsWholeKind kind.I16 = Unit {0}
IsWholeKind kind.I32 = Unit {0}
IsWholeKind kind.I64 = Unit {0}
IsWholeKind _ = ⊥

-- a field's value of the kind is skipped
abbrev pub Skips : Standing → Standing → TKind → Result (Unit {0}) ThriftRefusal → Type 0
Skips before after k (Ok _) =
    (t : Tree) × (value (depth_left before) k before.rest ≡ Ok (t, after.rest)) × (kind_of_tree t ≡ k) × Moves before after
Skips before after k (Err refusal) = FailsAt before.size refusal (value (depth_left before) k before.rest)
