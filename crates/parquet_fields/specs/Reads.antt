-- The results of the calls that read a value, the items of a list or the fields of a struct. Errors of the compact
-- protocol end them at once; a refused field is a field state.
use Rattle.std.specs.Prelude.{◌≡◌, ℕ, List, [], ◌∷◌, ◌++◌, Result, Ok, Err}
use Rattle.pme_base.specs.declared.place.Place.{Place}
use Rattle.pme_base.specs.declared.refusal.Cause.TheVariants.{BadThrift}
use Rattle.pme_base.specs.declared.refusal.Cause.TheVariants.{OutOfMemory as no_memory}
use Rattle.pme_base.specs.declared.refusal.Detail.TheVariants.{Thrift}
use Rattle.pme_base.specs.declared.refusal.Refusal.{Refusal}
use Rattle.pme_base.specs.Refusals.{refusal_at, plain_refusal}
use Rattle.thrift_compact.specs.declared.kind.TKind.{TKind}
use Rattle.thrift_compact.specs.declared.refusal.ThriftRefusal.{ThriftRefusal}
use Rattle.thrift_compact.specs.declared.refusal.ThriftRefusal.TheVariants.{Bad, OutOfMemory}
use Rattle.parquet_fields.specs.declared.field_state.FieldState.{FieldState}
use Rattle.parquet_fields.specs.declared.field_state.FieldState.TheVariants.{Value, Refused, WrongType}
use Rattle.thrift_compact.specs.Reading.{Fault, value, element}
use Rattle.thrift_compact.specs.Standing.{Standing, depth_left, FailsAt, Moves}
use Rattle.thrift_compact.specs.Tree.{Tree}

-- A value is read, and the result is what `gives` makes of it.
abbrev pub ReadsAs : {X : Type 0} → (Tree → X) → Standing → Standing → Result X ThriftRefusal → Result (Tree × List ℕ) Fault → Type 0
ReadsAs gives before after (Ok found) read = (t : Tree) × (read ≡ Ok (t, after.rest)) × (found ≡ gives t) × Moves before after
ReadsAs gives before after (Err refusal) read = FailsAt before.size refusal read

-- The value of a field is read.
abbrev pub ReadsValue : {X : Type 0} → (Tree → X) → TKind → Standing → Standing → Result X ThriftRefusal → Type 0
ReadsValue gives kind before after result = ReadsAs gives before after result (value (depth_left before) kind before.rest)

-- An item of a list is read.
abbrev pub ReadsItem : {X : Type 0} → (Tree → X) → TKind → Standing → Standing → Result X ThriftRefusal → Type 0
ReadsItem gives kind before after result = ReadsAs gives before after result (element (value (depth_left before)) kind before.rest)

-- The value of a field is read and added to the known fields of its struct.
abbrev pub ReadsKnown : {M : Type 0} → (Tree → M) → TKind → M → Standing → Standing → Result (Unit {0}) ThriftRefusal → Type 0
ReadsKnown step kind known before after (Ok _) =
    (t : Tree) × (value (depth_left before) kind before.rest ≡ Ok (t, after.rest)) × (known ≡ step t) × Moves before after
ReadsKnown step kind known before after (Err refusal) = FailsAt before.size refusal (value (depth_left before) kind before.rest)

-- The bytes are copied, unless there is no memory.
abbrev pub Copies : List ℕ → Result (FieldState (List ℕ)) ThriftRefusal → Type 0
Copies bytes (Ok copy) = copy ≡ Value bytes
Copies bytes (Err refusal) = refusal ≡ OutOfMemory

-- The refusal for an error of the compact protocol, at a place.
abbrev pub thrift_refusal_at : Place → ThriftRefusal → Refusal
thrift_refusal_at place (Bad at why) = refusal_at BadThrift place at (Thrift why)
thrift_refusal_at place OutOfMemory = plain_refusal no_memory

-- The item is appended, unless there is no memory.
abbrev pub Adds : {X : Type 0} → List X → X → List X → Result (Unit {0}) ThriftRefusal → Type 0
Adds before x after (Ok _) = after ≡ before ++ x ∷ []
Adds before x after (Err refusal) = refusal ≡ OutOfMemory

-- The state of a list whose first bad item has the given state.
abbrev pub bad_items : {X : Type 0} → FieldState X → FieldState (List X)
bad_items (Refused r) = Refused r
bad_items _ = WrongType
