-- The spellings of the heads of lists, maps and fields, and of booleans, are read as what they spell, whatever follows.
use Rattle.std.proofs.Common.{◌≡◌, inl, inr, ℕ, ◌+◌, ◌*◌, ◌/◌, ◌%◌, ◌<◌, ◌≤◌, ℤ, Bool, true, false, ◌==◌, List, ◌∷◌, ◌++◌, length, refl, ap, ◌∙◌, arith, Some, Ok}
use Rattle.thrift_compact.specs.declared.kind.TKind.{TKind}
use Rattle.thrift_compact.specs.declared.kind.TKind.TheVariants as kind
use Rattle.thrift_compact.specs.Kinds.{code, of_code}
use Rattle.thrift_compact.specs.Reading.{truth_at, list_head, map_kinds, field_head}
use Rattle.thrift_compact.specs.Grammar.{IsTruthByte, IsListHead, IsFieldHead}
use Rattle.thrift_compact.proofs.Steps.{other}
use Rattle.thrift_compact.proofs.Numbers.{number_again, size_again}

pub code_range : (k : TKind) → (0 < code k) × (code k < 13)
code_range kind.True = (omega arith, omega arith)
code_range k = (omega arith, omega arith)

pub of_code_again : (k : TKind) → of_code (code k) ≡ Some k
of_code_again kind.True = refl
of_code_again k = refl

-- the low and the high half of a byte 16 * n + code k
pub low_kind : (n : ℕ) (k : TKind) → of_code ((16 * n + code k) % 16) ≡ Some k
low_kind n k = let e : (16 * n + code k) % 16 ≡ code k = omega (arith, code_range k) in ap of_code e ∙ of_code_again k

pub own_kind : (k : TKind) → of_code (code k % 16) ≡ Some k
own_kind k = let e : code k % 16 ≡ code k = omega (arith, code_range k) in ap of_code e ∙ of_code_again k

pub high_half : (n : ℕ) (k : TKind) → (16 * n + code k) / 16 ≡ n
high_half n k = omega (arith, code_range k)

pub high_kind : (key value : TKind) → of_code ((16 * code key + code value) / 16) ≡ Some key
high_kind key value = ap of_code (high_half (code key) value) ∙ of_code_again key

pub truth_again : (b : Bool) (a r : List ℕ) → IsTruthByte b a → truth_at (a ++ r) ≡ Ok (b, r)
truth_again true a r s = rw s refl
truth_again false a r (inl s) = rw s refl
truth_again false a r (inr s) = rw s refl

pub list_head_again : (k : TKind) (n : ℕ) (head r : List ℕ) → IsListHead k n head → list_head (head ++ r) ≡ Ok ((k, n), r)
list_head_again k n head r (inl s) =
    let t : (n == 15) ≡ false = other n 15 (λ e. omega arith) in
    rw (s.1, low_kind n k, high_half n k, t) refl
list_head_again k n head r (inr s) =
    rw (s.2, low_kind 15 k, high_half 15 k, size_again n s.0 r s.1) refl

pub map_kinds_again : (key value : TKind) (r : List ℕ) → map_kinds ((16 * code key + code value) ∷ r) ≡ Ok ((key, value), r)
map_kinds_again key value r = rw (high_kind key value, low_kind (code key) value) refl

pub field_head_again : (ids : List ℤ) (id : ℤ) (k : TKind) (head r : List ℕ) → IsFieldHead ids id k head → field_head ids (head ++ r) ≡ Ok (Some (id, k), r)
field_head_again ids id k head r (new, inl s) =
    let more : (16 * s.0 + code k == 0) ≡ false = other (16 * s.0 + code k) 0 (λ e. omega (arith, code_range k)) in
    let near : (s.0 == 0) ≡ false = other s.0 0 (λ e. omega (arith, s.1)) in
    rw (s.5, more, low_kind s.0 k, high_half s.0 k, near, ← s.3, s.4, new) refl
field_head_again ids id k head r (new, inr s) =
    let more : (code k == 0) ≡ false = other (code k) 0 (λ e. omega (arith, code_range k)) in
    let far : code k / 16 ≡ 0 = omega (arith, code_range k) in
    rw (s.2, more, own_kind k, far, number_again 65536 id s.0 r (omega arith) s.1, new) refl

pub head_long : (ids : List ℤ) (id : ℤ) (k : TKind) (head : List ℕ) → IsFieldHead ids id k head → 1 ≤ length head
head_long ids id k head (new, inl s) = rw s.5 (omega arith)
head_long ids id k head (new, inr s) = rw s.2 (omega arith)
