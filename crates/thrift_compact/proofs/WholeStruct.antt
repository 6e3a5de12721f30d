-- Laws on the outermost struct, in terms of its fields.
use Rattle.std.proofs.Common.{◌≡◌, ℕ, ◌-◌, List, ◌++◌, length, take, sym, ap, ◌∙◌, subst, arith, length-append, Ok, Err}
use Rattle.std.proofs.lemmas.List.{take_at}
use Rattle.pme_base.specs.Steps.{◌>>=◌}
use Rattle.pme_base.specs.declared.refusal.ThriftFault.{ThriftFault}
use Rattle.thrift_compact.specs.declared.kind.TKind.TheVariants as kind
use Rattle.thrift_compact.specs.Tree.{Tree, struct, Fields}
use Rattle.thrift_compact.specs.Reading.{Fault, nest, value, whole_struct}
use Rattle.thrift_compact.specs.Grammar.{Spells}
use Rattle.thrift_compact.specs.Faults.{Faults, HasFault}
use Rattle.thrift_compact.specs.Spelled.{AreBytes}
use Rattle.pme_base.proofs.Chain.{bind_refused}
use Rattle.thrift_compact.proofs.Steps.{after_ok}
use Rattle.thrift_compact.proofs.Took.{done}
use Rattle.thrift_compact.proofs.Again.{value_again}
use Rattle.thrift_compact.proofs.Sound.{sound}
use Rattle.thrift_compact.proofs.Faulty.{refused_is_faulty}
use Rattle.thrift_compact.proofs.Refused.{refuses}
use Rattle.thrift_compact.proofs.Places.{place_inside}

-- the first bytes, up to the rest
before_rest : (bytes front rest : List ℕ) → bytes ≡ front ++ rest → take (length bytes - length rest) bytes ≡ front
before_rest bytes front rest parts =
    let counted : length front ≡ length bytes - length rest = omega (arith, ap length parts, length-append front rest) in
    ap (take (length bytes - length rest)) parts ∙ take_at front rest (length bytes - length rest) counted

pub struct_spelled : (depth : ℕ) (bytes : List ℕ) (fs : Fields) (rest : List ℕ) → AreBytes bytes → (nest depth).fields bytes ≡ Ok (fs, rest)
    → Spells depth kind.Struct (struct fs) (take (length bytes - length rest) bytes)
struct_spelled depth bytes fs rest each read =
    let took = sound depth kind.Struct bytes (struct fs, rest) each (ap (λ r. r >>= λ x. Ok (struct x.0, x.1)) read) in
    subst (λ (a : List ℕ). Spells depth kind.Struct (struct fs) a) (sym (before_rest bytes took.front rest took.parts)) took.is

same_done : (x y : Tree × List ℕ) → done x ≡ done y → x ≡ y
same_done x y e = cc

pub record IsFieldsOf (depth : ℕ) (t : Tree) (bytes rest : List ℕ) : Type 0 where
  pub fields : Fields
  pub read : (nest depth).fields bytes ≡ Ok (fields, rest)
  pub is : t ≡ struct fields

pub struct_read : (depth : ℕ) (t : Tree) (front rest bytes : List ℕ) → Spells depth kind.Struct t front → bytes ≡ front ++ rest → IsFieldsOf depth t bytes rest
struct_read depth t front rest bytes spelled parts =
    after_ok _ ((nest depth).fields bytes) (λ x. Ok (struct x.0, x.1)) (t, rest) (ap (value depth kind.Struct) parts ∙ value_again t depth kind.Struct front rest spelled) (λ x read same.
    let answer = same_done (struct x.0, x.1) (t, rest) same in
    record { fields = x.0; read = read ∙ ap (λ r. done (x.0, r)) (ap (λ p. p.1) answer); is = sym (ap (λ p. p.0) answer) })

-- fields that are read are the fields of the struct that the bytes before the rest spell
pub whole_spelled : (bytes : List ℕ) (fs : Fields) (rest : List ℕ) → AreBytes bytes → whole_struct bytes ≡ Ok (fs, rest)
    → Spells 32 kind.Struct (struct fs) (take (length bytes - length rest) bytes)
whole_spelled bytes fs rest each read = struct_spelled 32 bytes fs rest each read

-- if bytes begin with a struct, its fields are read, and the bytes after it are the rest
pub whole_read : (t : Tree) (front rest bytes : List ℕ) → Spells 32 kind.Struct t front → bytes ≡ front ++ rest
    → (fs : Fields) × (whole_struct bytes ≡ Ok (fs, rest)) × (t ≡ struct fs)
whole_read t front rest bytes spelled parts =
    let f = struct_read 32 t front rest bytes spelled parts in
    (f.fields, f.read, f.is)

-- the fields are refused with a fault exactly if the struct has it; its place is inside the bytes or at their end
pub struct_refused : (depth : ℕ) (bytes : List ℕ) (f : Fault) → AreBytes bytes → (nest depth).fields bytes ≡ Err f → Faults depth kind.Struct bytes f
struct_refused depth bytes f each refused = refused_is_faulty depth kind.Struct bytes f each (ap (λ r. r >>= λ x. Ok (struct x.0, x.1)) refused)

pub struct_faulty : (depth : ℕ) (bytes : List ℕ) (f : Fault) → Faults depth kind.Struct bytes f → (nest depth).fields bytes ≡ Err f
struct_faulty depth bytes f fault =
    bind_refused _ ((nest depth).fields bytes) (λ x. Ok (struct x.0, x.1)) f (refuses depth kind.Struct bytes f fault) (λ refused. refused) (λ x read wrong. cc)

pub whole_refused : (bytes : List ℕ) (why : ThriftFault) (left : ℕ) → AreBytes bytes → whole_struct bytes ≡ Err (why, left) → HasFault bytes why (length bytes - left)
whole_refused bytes why left each refused =
    let fault : Faults 32 kind.Struct bytes (why, left) = struct_refused 32 bytes (why, left) each refused in
    (left, omega (arith, place_inside 32 kind.Struct bytes (why, left) fault), fault)

pub whole_faulty : (bytes : List ℕ) (why : ThriftFault) (at : ℕ) → HasFault bytes why at → (left : ℕ) × (whole_struct bytes ≡ Err (why, left)) × (at ≡ length bytes - left)
whole_faulty bytes why at (left, sum, fault) = (left, struct_faulty 32 bytes (why, left) fault, omega (arith, sum))
