-- A value that is read or spelled as one of a kind has this kind.
use Rattle.std.proofs.Common.{◌≡◌, ℕ, true, false, List, refl, sym, ap, ◌∙◌, Ok}
use Rattle.thrift_compact.specs.declared.kind.TKind.{TKind}
use Rattle.thrift_compact.specs.declared.kind.TKind.TheVariants as kind
use Rattle.thrift_compact.specs.Tree.{Tree, truth, int8, int16, int32, int64, double, binary, list, set, map, struct, kind_of_tree}
use Rattle.thrift_compact.specs.Reading.{Read, bytes_at, int8_at, int16_at, int32_at, int64_at, binary_at, as_tree, nest, value}
use Rattle.thrift_compact.specs.Grammar.{Spells}
use Rattle.thrift_compact.proofs.Steps.{after_ok}
use Rattle.thrift_compact.proofs.Took.{done}

kind_at : (x y : Tree × List ℕ) (k : TKind) → done x ≡ done y → kind_of_tree x.0 ≡ k → kind_of_tree y.0 ≡ k
kind_at x y k e is = let same : x.0 ≡ y.0 = cc in ap kind_of_tree (sym same) ∙ is

part_kind : {A : Type 0} (make : A → Tree) (part : Read A) (k : TKind) (bs : List ℕ) (x : Tree × List ℕ) → ((a : A) → kind_of_tree (make a) ≡ k)
    → as_tree make part bs ≡ Ok x → kind_of_tree x.0 ≡ k
part_kind make part k bs x is e =
    after_ok _ (part bs) (λ a. Ok (make a.0, a.1)) x e (λ a read same. kind_at (make a.0, a.1) x k same (is a.0))

kind_of_answer : (depth : ℕ) (k : TKind) (bs : List ℕ) (x : Tree × List ℕ) → value depth k bs ≡ Ok x → kind_of_tree x.0 ≡ k
kind_of_answer depth kind.True bs x e = kind_at (truth true, bs) x kind.True e refl
kind_of_answer depth kind.False bs x e = kind_at (truth false, bs) x kind.False e refl
kind_of_answer depth kind.I8 bs x e = part_kind int8 int8_at kind.I8 bs x (λ a. refl) e
kind_of_answer depth kind.I16 bs x e = part_kind int16 int16_at kind.I16 bs x (λ a. refl) e
kind_of_answer depth kind.I32 bs x e = part_kind int32 int32_at kind.I32 bs x (λ a. refl) e
kind_of_answer depth kind.I64 bs x e = part_kind int64 int64_at kind.I64 bs x (λ a. refl) e
kind_of_answer depth kind.Double bs x e = part_kind double (bytes_at 8) kind.Double bs x (λ a. refl) e
kind_of_answer depth kind.Binary bs x e = part_kind binary binary_at kind.Binary bs x (λ a. refl) e
kind_of_answer depth kind.List bs x e = part_kind list (nest depth).trees kind.List bs x (λ a. refl) e
kind_of_answer depth kind.Set bs x e = part_kind set (nest depth).trees kind.Set bs x (λ a. refl) e
kind_of_answer depth kind.Map bs x e = part_kind map (nest depth).pairs kind.Map bs x (λ a. refl) e
kind_of_answer depth kind.Struct bs x e = part_kind struct (nest depth).fields kind.Struct bs x (λ a. refl) e

pub value_kind : (depth : ℕ) (k : TKind) (bs : List ℕ) (t : Tree) (rest : List ℕ) → value depth k bs ≡ Ok (t, rest) → kind_of_tree t ≡ k
value_kind depth k bs t rest e = kind_of_answer depth k bs (t, rest) e

pub spelled_kind : (t : Tree) (depth : ℕ) (k : TKind) (bs : List ℕ) → Spells depth k t bs → kind_of_tree t ≡ k
spelled_kind (truth true) depth k bs s = sym s.0
spelled_kind (truth false) depth k bs s = sym s.0
spelled_kind (int8 z) depth k bs s = sym s.0
spelled_kind t depth k bs s = sym s.0
