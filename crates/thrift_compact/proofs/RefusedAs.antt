-- An error of reading a struct, in terms of the faults.
use Rattle.std.proofs.Common.{◌≡◌, ℕ, ◌-◌, List, length, refl, sym, ap, ◌∙◌, subst, Result, Ok, Err}
use Rattle.std.specs.Prelude.{IfErr}
use Rattle.pme_base.specs.declared.refusal.ThriftFault.{ThriftFault}
use Rattle.thrift_compact.specs.declared.refusal.ThriftRefusal.{ThriftRefusal}
use Rattle.thrift_compact.specs.declared.refusal.ThriftRefusal.TheVariants.{Bad, OutOfMemory}
use Rattle.thrift_compact.specs.declared.tree.TVal.{TVal}
use Rattle.thrift_compact.specs.Faults.{HasFault}
use Rattle.thrift_compact.specs.Reading.{Fault, whole_struct}
use Rattle.thrift_compact.specs.Spelled.{AreBytes}
use Rattle.thrift_compact.specs.Tree.{Tree, Fields}
use Rattle.thrift_compact.specs.View.{view}
use Rattle.thrift_compact.specs.Whole.{with_offsets, ReadsTree, ReportsFault, IsRefusedFor}
use Rattle.thrift_compact.proofs.WholeStruct.{whole_refused, whole_faulty}

abbrev Answer : Type 0
Answer = Result (Tree × ℕ) Fault

fault_parts : (f g : Fault) → ◌≡◌ {A = Answer} (Err f) (Err g) → (f.0 ≡ g.0) × (f.1 ≡ g.1)
fault_parts f g e = let same : f ≡ g = cc in (ap (λ p. p.0) same, ap (λ p. p.1) same)

apart : (f : Fault) (x : Tree × ℕ) → ◌≡◌ {A = Answer} (Ok x) (Err f) → ⊥
apart f x e = cc

fault_from : (bytes : List ℕ) (read : Result (Fields × List ℕ) Fault) (why : ThriftFault) (at : ℕ) → AreBytes bytes → whole_struct bytes ≡ read
    → with_offsets (length bytes) read ≡ Err (why, at) → HasFault bytes why at
fault_from bytes (Ok x) why at each is e = absurd cc
fault_from bytes (Err f) why at each is e =
    let same = fault_parts (f.0, length bytes - f.1) (why, at) e in
    subst (λ (w : ThriftFault). HasFault bytes w at) same.0
    (subst (λ (n : ℕ). HasFault bytes f.0 n) same.1 (whole_refused bytes f.0 f.1 each is))

-- an error reports a fault of the bytes
pub fault_reported : (bytes : List ℕ) (result : Result (TVal × ℕ) ThriftRefusal) → AreBytes bytes → ReadsTree bytes result
    → IfErr result (λ refusal. ReportsFault bytes refusal)
fault_reported bytes (Ok r) each reads = tt
fault_reported bytes (Err (Bad at why)) each reads = fault_from bytes (whole_struct bytes) why at each refl reads
fault_reported bytes (Err OutOfMemory) each reads = tt

-- a fault of the bytes is reported
pub refused_for : (bytes : List ℕ) (result : Result (TVal × ℕ) ThriftRefusal) → ReadsTree bytes result
    → (why : ThriftFault) (at : ℕ) → HasFault bytes why at → IsRefusedFor why at result
refused_for bytes (Ok r) reads why at fault =
    let there = whole_faulty bytes why at fault in
    apart (why, length bytes - there.0) (view r.0, r.1) (sym reads ∙ ap (with_offsets (length bytes)) there.1)
refused_for bytes (Err (Bad other found)) reads why at fault =
    let there = whole_faulty bytes why at fault in
    let same = fault_parts (found, other) (why, length bytes - there.0) (sym reads ∙ ap (with_offsets (length bytes)) there.1) in
    (same.1 ∙ sym there.2, same.0)
refused_for bytes (Err OutOfMemory) reads why at fault = tt
