-- The result of reading a struct, in terms of the grammar.
use Rattle.std.proofs.Common.{◌≡◌, ℕ, ◌-◌, List, ◌++◌, length, take, refl, sym, ap, ◌∙◌, subst, arith, length-append, Result, Ok, Err}
use Rattle.std.specs.Prelude.{IfOk}
use Rattle.thrift_compact.specs.declared.kind.TKind.TheVariants as kind
use Rattle.thrift_compact.specs.declared.refusal.ThriftRefusal.{ThriftRefusal}
use Rattle.thrift_compact.specs.declared.refusal.ThriftRefusal.TheVariants.{Bad, OutOfMemory}
use Rattle.thrift_compact.specs.declared.tree.TVal.{TVal}
use Rattle.thrift_compact.specs.Grammar.{Spells}
use Rattle.thrift_compact.specs.Reading.{Fault, whole_struct}
use Rattle.thrift_compact.specs.Spelled.{AreBytes}
use Rattle.thrift_compact.specs.Tree.{Tree, struct, Fields}
use Rattle.thrift_compact.specs.View.{view}
use Rattle.thrift_compact.specs.Whole.{with_offsets, ReadsTree, IsReadAs}
use Rattle.thrift_compact.proofs.WholeStruct.{whole_spelled, whole_read}

parts_of : (a b : Tree) (n m : ℕ) → ◌≡◌ {A = Result (Tree × ℕ) Fault} (Ok (a, n)) (Ok (b, m)) → (a ≡ b) × (n ≡ m)
parts_of a b n m e = let same : ◌≡◌ {A = Tree × ℕ} (a, n) (b, m) = cc in (ap (λ p. p.0) same, ap (λ p. p.1) same)

apart : (f : Fault) (x : Tree × ℕ) → ◌≡◌ {A = Result (Tree × ℕ) Fault} (Err f) (Ok x) → ⊥
apart f x e = cc

found_from : (bytes : List ℕ) (read : Result (Fields × List ℕ) Fault) (t : Tree) (n : ℕ) → AreBytes bytes → whole_struct bytes ≡ read
    → with_offsets (length bytes) read ≡ Ok (t, n) → Spells 32 kind.Struct t (take n bytes)
found_from bytes (Ok x) t n each is e =
    let same = parts_of (struct x.0) t (length bytes - length x.1) n e in
    subst (λ (u : Tree). Spells 32 kind.Struct u (take n bytes)) same.0
    (subst (λ (m : ℕ). Spells 32 kind.Struct (struct x.0) (take m bytes)) same.1 (whole_spelled bytes x.0 x.1 each is))
found_from bytes (Err f) t n each is e = absurd cc

-- a returned tree is spelled by as many first bytes as the returned length says
pub spelled_at_front : (bytes : List ℕ) (result : Result (TVal × ℕ) ThriftRefusal) → AreBytes bytes → ReadsTree bytes result
    → IfOk result (λ r. Spells 32 kind.Struct (view r.0) (take r.1 bytes))
spelled_at_front bytes (Ok r) each reads = found_from bytes (whole_struct bytes) (view r.0) r.1 each refl reads
spelled_at_front bytes (Err e) each reads = tt

-- a tree that the first bytes spell is returned
pub read_as_spelled : (bytes : List ℕ) (result : Result (TVal × ℕ) ThriftRefusal) → ReadsTree bytes result
    → (t : Tree) (front rest : List ℕ) → Spells 32 kind.Struct t front → bytes ≡ front ++ rest → IsReadAs t front result
read_as_spelled bytes (Ok r) reads t front rest spelled parts =
    let there = whole_read t front rest bytes spelled parts in
    let same = parts_of (view r.0) (struct there.0) r.1 (length bytes - length rest) (sym reads ∙ ap (with_offsets (length bytes)) there.1) in
    (same.0 ∙ sym there.2, same.1 ∙ omega (arith, ap length parts, length-append front rest))
read_as_spelled bytes (Err (Bad at why)) reads t front rest spelled parts =
    let there = whole_read t front rest bytes spelled parts in
    let no_fault : ◌≡◌ {A = Result (Tree × ℕ) Fault} (Err (why, at)) (Ok (struct there.0, length bytes - length rest)) = sym reads ∙ ap (with_offsets (length bytes)) there.1 in
    absurd (apart (why, at) (struct there.0, length bytes - length rest) no_fault)
read_as_spelled bytes (Err OutOfMemory) reads t front rest spelled parts = tt
