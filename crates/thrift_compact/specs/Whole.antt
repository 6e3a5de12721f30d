-- The result of reading the outermost struct: its tree and its length in bytes, or the fault and its offset.
use Rattle.std.specs.Prelude.{◌≡◌, ℕ, ◌-◌, List, length, Result, Ok, Err}
use Rattle.pme_base.specs.declared.refusal.ThriftFault.{ThriftFault}
use Rattle.thrift_compact.specs.declared.refusal.ThriftRefusal.{ThriftRefusal}
use Rattle.thrift_compact.specs.declared.refusal.ThriftRefusal.TheVariants.{Bad, OutOfMemory}
use Rattle.thrift_compact.specs.declared.tree.TVal.{TVal}
use Rattle.thrift_compact.specs.Faults.{HasFault}
use Rattle.thrift_compact.specs.Reading.{Fault, whole_struct}
use Rattle.thrift_compact.specs.Tree.{Tree, struct, Fields}
use Rattle.thrift_compact.specs.View.{view}

-- the tree and its length, or the fault and its offset, where the whole input has `size` bytes
abbrev pub with_offsets : ℕ → Result (Fields × List ℕ) Fault → Result (Tree × ℕ) Fault
with_offsets size (Ok x) = Ok (struct x.0, size - length x.1)
with_offsets size (Err f) = Err (f.0, size - f.1)

-- the result is that of the reading, unless it is OutOfMemory
abbrev pub ReadsTree : List ℕ → Result (TVal × ℕ) ThriftRefusal → Type 0
ReadsTree bytes (Ok r) = with_offsets (length bytes) (whole_struct bytes) ≡ Ok (view r.0, r.1)
ReadsTree bytes (Err (Bad at why)) = with_offsets (length bytes) (whole_struct bytes) ≡ Err (why, at)
ReadsTree bytes (Err OutOfMemory) = Unit {0}

-- the result is this tree and the length of its spelling `front`, unless it is OutOfMemory
abbrev pub IsReadAs : Tree → List ℕ → Result (TVal × ℕ) ThriftRefusal → Type 0
IsReadAs tree front (Ok r) = (view r.0 ≡ tree) × (r.1 ≡ length front)
IsReadAs tree front (Err (Bad at why)) = ⊥
IsReadAs tree front (Err OutOfMemory) = Unit {0}

-- the error has a fault of the bytes and its offset, unless it is OutOfMemory
abbrev pub ReportsFault : List ℕ → ThriftRefusal → Type 0
ReportsFault bytes (Bad at why) = HasFault bytes why at
ReportsFault bytes OutOfMemory = Unit {0}

-- the result is the error with this fault and its offset, unless it is OutOfMemory
abbrev pub IsRefusedFor : ThriftFault → ℕ → Result (TVal × ℕ) ThriftRefusal → Type 0
IsRefusedFor why at (Ok r) = ⊥
IsRefusedFor why at (Err (Bad other fault)) = (other ≡ at) × (fault ≡ why)
IsRefusedFor why at (Err OutOfMemory) = Unit {0}
