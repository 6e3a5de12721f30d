-- Bytes either begin with a spelling or have exactly one fault, since reading them has exactly one result.
use Rattle.std.proofs.Common.{◌≡◌, ◌⊎◌, inl, inr, ℕ, List, refl, ap, ◌∙◌, Result, Ok, Err}
use Rattle.pme_base.proofs.Chain.{not_both}
use Rattle.thrift_compact.specs.declared.kind.TKind.{TKind}
use Rattle.thrift_compact.specs.Tree.{Tree}
use Rattle.thrift_compact.specs.Reading.{Fault, value}
use Rattle.thrift_compact.specs.Faults.{Faults}
use Rattle.thrift_compact.specs.Spelled.{AreBytes, BeginsWith}
use Rattle.thrift_compact.proofs.Steps.{one_refusal}
use Rattle.thrift_compact.proofs.Again.{value_again}
use Rattle.thrift_compact.proofs.Sound.{sound}
use Rattle.thrift_compact.proofs.Faulty.{refused_is_faulty}
use Rattle.thrift_compact.proofs.Refused.{refuses}

judged_by : (depth : ℕ) (k : TKind) (bytes : List ℕ) (r : Result (Tree × List ℕ) Fault) → AreBytes bytes → value depth k bytes ≡ r
    → ((t : Tree) × (rest : List ℕ) × BeginsWith depth k t bytes rest) ⊎ ((f : Fault) × Faults depth k bytes f)
judged_by depth k bytes (Ok x) each read = let took = sound depth k bytes x each read in inl (x.0, x.1, (took.front, took.is, took.parts))
judged_by depth k bytes (Err f) each refused = inr (f, refused_is_faulty depth k bytes f each refused)

pub judged : (depth : ℕ) (k : TKind) (bytes : List ℕ) → AreBytes bytes
    → ((t : Tree) × (rest : List ℕ) × BeginsWith depth k t bytes rest) ⊎ ((f : Fault) × Faults depth k bytes f)
judged depth k bytes each = judged_by depth k bytes (value depth k bytes) each refl

pub never_both : (depth : ℕ) (k : TKind) (t : Tree) (bytes rest : List ℕ) (f : Fault) → BeginsWith depth k t bytes rest → Faults depth k bytes f → ⊥
never_both depth k t bytes rest f (front, spelled, parts) fault =
    not_both (value depth k bytes) (t, rest) f (ap (value depth k) parts ∙ value_again t depth k front rest spelled) (refuses depth k bytes f fault)

pub one_fault : (depth : ℕ) (k : TKind) (bytes : List ℕ) (f g : Fault) → Faults depth k bytes f → Faults depth k bytes g → f ≡ g
one_fault depth k bytes f g one two = one_refusal (value depth k bytes) g f (refuses depth k bytes g two) (refuses depth k bytes f one)
