-- Laws that relate the grammar and the reading: a value is read exactly if the bytes begin with a spelling of it, and
-- the bytes are refused with a fault exactly if they have that fault.
use Rattle.std.specs.Prelude.{◌≡◌, ◌⊎◌, ℕ, ◌≤◌, List, ◌++◌, length, Ok, Err}
pub use Rattle.pme_base.specs.Outside.{AreBytes}
use Rattle.thrift_compact.specs.declared.kind.TKind.{TKind}
use Rattle.thrift_compact.specs.Tree.{Tree}
use Rattle.thrift_compact.specs.Reading.{Fault, value}
use Rattle.thrift_compact.specs.Faults.{Faults}
use Rattle.thrift_compact.specs.Grammar.{Spells}

-- bytes that spell a tree are read as that tree, whatever follows them
abbrev pub SpelledIsRead : Type 0
SpelledIsRead =
    (depth : ℕ) (k : TKind) (t : Tree) (front rest : List ℕ) → Spells depth k t front
    → value depth k (front ++ rest) ≡ Ok (t, rest)

-- two spellings that the same bytes begin with are equal, and so are their trees and the bytes after them
pub record AreOne (t u : Tree) (front other rest others : List ℕ) : Type 0 where
  pub trees : t ≡ u
  pub fronts : front ≡ other
  pub rests : rest ≡ others

-- at most one prefix of the bytes is a spelling, so no spelling is a proper prefix of another
abbrev pub OneSpelling : Type 0
OneSpelling =
    (depth : ℕ) (k : TKind) (t u : Tree) (front other rest others : List ℕ) → Spells depth k t front
    → Spells depth k u other → front ++ rest ≡ other ++ others → AreOne t u front other rest others

-- the bytes are a spelling of the tree followed by `rest`
abbrev pub BeginsWith : ℕ → TKind → Tree → List ℕ → List ℕ → Type 0
BeginsWith depth k t bytes rest = (front : List ℕ) × Spells depth k t front × (bytes ≡ front ++ rest)

-- a tree that is read is spelled by the bytes before the rest
abbrev pub ReadIsSpelled : Type 0
ReadIsSpelled =
    (depth : ℕ) (k : TKind) (t : Tree) (bytes rest : List ℕ) → AreBytes bytes → value depth k bytes ≡ Ok (t, rest)
    → BeginsWith depth k t bytes rest

-- bytes that are refused have the reported fault
abbrev pub RefusedIsFaulty : Type 0
RefusedIsFaulty =
    (depth : ℕ) (k : TKind) (bytes : List ℕ) (f : Fault) → AreBytes bytes → value depth k bytes ≡ Err f
    → Faults depth k bytes f

-- bytes that have a fault are refused with that fault
abbrev pub FaultyIsRefused : Type 0
FaultyIsRefused =
    (depth : ℕ) (k : TKind) (bytes : List ℕ) (f : Fault) → Faults depth k bytes f → value depth k bytes ≡ Err f

-- bytes begin with a spelling or have a fault
abbrev pub EachIsJudged : Type 0
EachIsJudged =
    (depth : ℕ) (k : TKind) (bytes : List ℕ) → AreBytes bytes
    → ((t : Tree) × (rest : List ℕ) × BeginsWith depth k t bytes rest) ⊎ ((f : Fault) × Faults depth k bytes f)

-- bytes that begin with a spelling have no fault
abbrev pub NeverBoth : Type 0
NeverBoth =
    (depth : ℕ) (k : TKind) (t : Tree) (bytes rest : List ℕ) (f : Fault) → BeginsWith depth k t bytes rest
    → Faults depth k bytes f → ⊥

-- bytes have at most one fault
abbrev pub OneFault : Type 0
OneFault =
    (depth : ℕ) (k : TKind) (bytes : List ℕ) (f g : Fault) → Faults depth k bytes f → Faults depth k bytes g → f ≡ g

-- the place of a fault is inside the bytes or at their end
abbrev pub PlaceInside : Type 0
PlaceInside = (depth : ℕ) (k : TKind) (bytes : List ℕ) (f : Fault) → Faults depth k bytes f → f.1 ≤ length bytes
