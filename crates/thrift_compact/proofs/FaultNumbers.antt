-- If reading a varint, an integer, bytes or a boolean fails, the bytes have the reported fault.
use Rattle.std.proofs.Common.{◌≡◌, ◌⊎◌, inl, inr, ℕ, zero, suc, ◌+◌, ◌-◌, ◌*◌, ◌<◌, ◌≤◌, nat_lt, ◌==◌, if◌then◌else◌, List, [], ◌∷◌, ◌++◌, length, take, drop, refl, ap, arith, Ok, Err}
use Rattle.pme_base.specs.Steps.{◌>>=◌}
use Rattle.pme_base.specs.declared.refusal.ThriftFault.TheVariants.{End, WrongType, Varint, Range}
use Rattle.thrift_compact.specs.Reading.{Fault, byte_at, bytes_at, varint_within, varint_at, zigzag, number_at, size_at, signed_byte, int8_at, binary_at, truth_at}
use Rattle.thrift_compact.specs.Grammar.{IsBelow, IsSize}
use Rattle.thrift_compact.specs.Faults.{NoByte, TooFew, Later, GoOn, VarintFault, NumberFault, SizeFault, BinaryFault, TruthFault}
use Rattle.thrift_compact.specs.Spelled.{AreBytes}
use Rattle.pme_base.proofs.Chain.{bind_refused}
use Rattle.thrift_compact.proofs.Steps.{one_refusal, cond_err, chosen, below_if, not_below_if}
use Rattle.thrift_compact.proofs.Took.{Took}
use Rattle.thrift_compact.proofs.TookNumbers.{IsShort, varint_took, size_took}

-- a part that was read, and a fault in the bytes after it
pub after_part : (P : List ℕ → Type 0) (Faulty : List ℕ → Fault → Type 0) (bs r : List ℕ) (f : Fault) → Took P bs r → Faulty r f → Later P Faulty bs f
after_part P Faulty bs r f t fault = (t.front, r, t.is, t.parts, fault)

pub byte_err : (bs : List ℕ) (f : Fault) → byte_at bs ≡ Err f → NoByte bs f
byte_err [] f e = (refl, one_refusal (byte_at []) (End, 0) f refl e)
byte_err (b ∷ bs) f e = cc

pub byte_is : (bs : List ℕ) (x : ℕ × List ℕ) → byte_at bs ≡ Ok x → bs ≡ x.0 ∷ x.1
byte_is [] x e = cc
byte_is (b ∷ bs) x e = let same : (b, bs) ≡ x = cc in ap (λ p. p.0 ∷ p.1) same

-- a varint that is cut off, or whose last byte, after `more` others, is greater than 1
abbrev Breaks : ℕ → ℕ → List ℕ → Fault → Type 0
Breaks start more bs f =
    (GoOn bs × (length bs < suc more) × (f ≡ (End, 0)))
    ⊎ ((firsts rest : List ℕ) × (last : ℕ) × GoOn firsts × (length firsts ≡ more) × (2 ≤ last) × (bs ≡ firsts ++ last ∷ rest)
    × (f ≡ (Varint, start)))

breaks_later : (start more b : ℕ) (bs : List ℕ) (f : Fault) → 128 ≤ b → Breaks start more bs f → Breaks start (suc more) (b ∷ bs) f
breaks_later start more b bs f high (inl w) = inl ((high, w.0), omega (arith, w.1), w.2)
breaks_later start more b bs f high (inr (firsts, rest, last, on, count, large, parts, is)) =
    inr (b ∷ firsts, rest, last, (high, on), ap suc count, large, ap (λ more. b ∷ more) parts, is)

varint_err : (bs : List ℕ) (start more : ℕ) (f : Fault) → varint_within start more bs ≡ Err f → Breaks start more bs f
unfolding varint_within
varint_err [] start more f e = inl (tt, omega arith, one_refusal _ (End, 0) f refl e)
varint_err (b ∷ bs) start zero f e =
    let (large, is) = cond_err (nat_lt b 2) (b, bs) (Varint, start) f e in
    inr ([], bs, b, tt, refl, not_below_if b 2 large, refl, is)
varint_err (b ∷ bs) start (suc more) f e =
    elim (chosen (nat_lt b 128) (Ok (b, bs)) (varint_within start more bs >>= λ high. Ok (b - 128 + 128 * high.0, high.1)) (Err f) e) [
      | inl w ↦ cc
      | inr w ↦ bind_refused _ (varint_within start more bs) (λ high. Ok (b - 128 + 128 * high.0, high.1)) f w.1
          (λ refused. breaks_later start more b bs f (not_below_if b 128 w.0) (varint_err bs start more f refused)) (λ high read wrong. cc)
    ]

pub varint_fault : (bs : List ℕ) (f : Fault) → varint_at bs ≡ Err f → VarintFault bs f
varint_fault bs f e =
    elim (varint_err bs (length bs) 9 f e) [
      | inl w ↦ inl (w.0, omega (arith, w.1), w.2)
      | inr w ↦ inr w
    ]

out_of_range : (limit n : ℕ) (bs r : List ℕ) (f : Fault) → limit ≤ n → f ≡ (Range, length bs) → Took (IsShort 9 n) bs r → NumberFault limit bs f
out_of_range limit n bs r f large is t =
    let whole : IsBelow 18446744073709551616 n t.front = record { spelled = t.is.spelled; short = omega (arith, t.is.short); below = omega (arith, t.is.below) } in
    inr (n, t.front, r, whole, large, t.parts, is)

pub number_err : (limit : ℕ) (bs : List ℕ) (f : Fault) → AreBytes bs → number_at limit bs ≡ Err f → NumberFault limit bs f
number_err limit bs f each e =
    bind_refused _ (varint_at bs) (λ n. if nat_lt n.0 limit then Ok (zigzag n.0, n.1) else Err (Range, length bs)) f e
    (λ refused. inl (varint_fault bs f refused))
    (λ n read tested.
    let (large, is) = cond_err (nat_lt n.0 limit) (zigzag n.0, n.1) (Range, length bs) f tested in
    out_of_range limit n.0 bs n.1 f (not_below_if n.0 limit large) is (varint_took bs (length bs) 9 n each read))

pub size_err : (bs : List ℕ) (f : Fault) → AreBytes bs → size_at bs ≡ Err f → SizeFault bs f
size_err bs f each e =
    bind_refused _ (varint_at bs) (λ n. if nat_lt n.0 2147483648 then Ok n else Err (Range, length bs)) f e
    (λ refused. inl (varint_fault bs f refused))
    (λ n read tested.
    let (large, is) = cond_err (nat_lt n.0 2147483648) n (Range, length bs) f tested in
    out_of_range 2147483648 n.0 bs n.1 f (not_below_if n.0 2147483648 large) is (varint_took bs (length bs) 9 n each read))

pub bytes_err : (n : ℕ) (bs : List ℕ) (f : Fault) → bytes_at n bs ≡ Err f → TooFew n bs f
bytes_err n bs f e =
    elim (chosen (nat_lt (length bs) n) (Err (End, 0)) (Ok (take n bs, drop n bs)) (Err f) e) [
      | inl w ↦ (below_if (length bs) n w.0, one_refusal _ (End, 0) f refl w.1)
      | inr w ↦ cc
    ]

pub int8_err : (bs : List ℕ) (f : Fault) → int8_at bs ≡ Err f → NoByte bs f
int8_err bs f e = bind_refused _ (byte_at bs) (λ b. Ok (signed_byte b.0, b.1)) f e (λ refused. byte_err bs f refused) (λ b read wrong. cc)

pub binary_err : (bs : List ℕ) (f : Fault) → AreBytes bs → binary_at bs ≡ Err f → BinaryFault bs f
binary_err bs f each e =
    bind_refused _ (size_at bs) (λ n. bytes_at n.0 n.1) f e (λ refused. inl (size_err bs f each refused))
    (λ n read more. inr (n.0, after_part (IsSize n.0) (TooFew n.0) bs n.1 f (size_took bs n each read) (bytes_err n.0 n.1 f more)))

pub truth_err : (bs : List ℕ) (f : Fault) → truth_at bs ≡ Err f → TruthFault bs f
truth_err bs f e =
    bind_refused _ (byte_at bs) (λ b. if nat_lt b.0 3 then Ok (b.0 == 1, b.1) else Err (WrongType, length bs)) f e (λ refused. inl (byte_err bs f refused))
    (λ b read tested.
    let (large, is) = cond_err (nat_lt b.0 3) (b.0 == 1, b.1) (WrongType, length bs) f tested in
    let least : 3 ≤ b.0 = not_below_if b.0 3 large in
    inr (b.0, b.1, omega arith, byte_is bs b read, is))
