-- Varints, sizes, integers, bytes and booleans that are read are spelled by the bytes that the read consumes.
use Rattle.std.proofs.Common.{◌≡◌, inl, inr, ℕ, zero, suc, ◌+◌, ◌-◌, ◌*◌, ◌<◌, ◌≤◌, ℤ, Bool, nat_lt, ◌==◌, if◌then◌else◌, List, [], ◌∷◌, ◌++◌, length, take, drop, refl, sym, ap, subst, arith, Ok, Err}
use Rattle.std.proofs.lemmas.List.{length-take-le, take-append-drop}
use Rattle.pme_base.specs.Steps.{◌>>=◌}
use Rattle.pme_base.specs.declared.refusal.ThriftFault.TheVariants.{End, WrongType, Varint, Range}
use Rattle.thrift_compact.specs.Reading.{byte_at, bytes_at, varint_within, varint_at, zigzag, number_at, size_at, signed_byte, int8_at, binary_at, truth_at}
use Rattle.thrift_compact.specs.Grammar.{IsVarint, IsBelow, IsSize, IsNumber, IsTruthByte}
use Rattle.thrift_compact.specs.Spelled.{AreBytes}
use Rattle.pme_base.proofs.Chain.{bind_ok, tested}
use Rattle.thrift_compact.proofs.Steps.{chosen, below_if, not_below_if}
use Rattle.thrift_compact.proofs.Took.{Took, took_ok, took_as, took_then, IsByte, byte_took}
use Rattle.thrift_compact.proofs.Numbers.{room_for}

pub record IsShort (more n : ℕ) (bs : List ℕ) : Type 0 where
  pub spelled : IsVarint bs n
  pub short : length bs ≤ suc more
  pub below : n < room_for more

varint_more : (b n high : ℕ) (bs : List ℕ) → 128 ≤ b → b < 256 → n + 128 ≡ b + 128 * high → IsVarint bs high → IsVarint (b ∷ bs) n
varint_more b n high [] least most sum v = absurd v
varint_more b n high (c ∷ bs) least most sum v = (least, most, high, sum, v)

last_byte : (more b : ℕ) (bs : List ℕ) → b < 128 → b < room_for more → AreBytes (b ∷ bs) → Took (IsShort more b) (b ∷ bs) bs
last_byte more b bs small inside each = record {
  front = b ∷ [];
  parts = refl;
  is = record { spelled = (small, refl); short = omega arith; below = inside };
  rest = λ i. each (suc i);
}

first_byte : (more b high : ℕ) (bs r : List ℕ) → 128 ≤ b → b < 256 → Took (IsShort more high) bs r → Took (IsShort (suc more) (b - 128 + 128 * high)) (b ∷ bs) r
first_byte more b high bs r least most t = record {
  front = b ∷ t.front;
  parts = ap (λ more. b ∷ more) t.parts;
  is = record { spelled = varint_more b (b - 128 + 128 * high) high t.front least most (omega arith) t.is.spelled; short = omega (arith, t.is.short); below = omega (arith, t.is.below) };
  rest = t.rest;
}

some_room : (more : ℕ) → 2 ≤ room_for more
some_room zero = omega arith
some_room (suc more) = omega (arith, some_room more)

small_byte : (more b : ℕ) (bs : List ℕ) → b < 128 → AreBytes (b ∷ bs) → Took (IsShort (suc more) b) (b ∷ bs) bs
small_byte more b bs small each = last_byte (suc more) b bs small (omega (arith, some_room more)) each

pub varint_took : (bs : List ℕ) (start more : ℕ) (x : ℕ × List ℕ) → AreBytes bs → varint_within start more bs ≡ Ok x → Took (IsShort more x.0) bs x.1
unfolding varint_within
varint_took [] start more x each e = cc
varint_took (b ∷ bs) start zero x each e =
    let (small, same) = tested (nat_lt b 2) (b, bs) x (Varint, start) e in
    let least : b < 2 = below_if b 2 small in
    took_ok (IsShort zero) (b ∷ bs) (b, bs) x (ap Ok same) (last_byte zero b bs (omega arith) least each)
varint_took (b ∷ bs) start (suc more) x each e =
    elim (chosen (nat_lt b 128) (Ok (b, bs)) (varint_within start more bs >>= λ high. Ok (b - 128 + 128 * high.0, high.1)) (Ok x) e) [
      | inl w ↦ took_ok (IsShort (suc more)) (b ∷ bs) (b, bs) x w.1 (small_byte more b bs (below_if b 128 w.0) each)
      | inr w ↦
          let (high, read, same) = bind_ok (varint_within start more bs) (λ high. Ok (b - 128 + 128 * high.0, high.1)) x w.1 in
          took_ok (IsShort (suc more)) (b ∷ bs) (b - 128 + 128 * high.0, high.1) x same
          (first_byte more b high.0 bs high.1 (not_below_if b 128 w.0) (each zero) (varint_took bs start more high (λ i. each (suc i)) read))
    ]

short_below : (limit n : ℕ) (bs : List ℕ) → n < limit → IsShort 9 n bs → IsBelow limit n bs
short_below limit n bs small s = record { spelled = s.spelled; short = omega (arith, s.short); below = small }

pub number_took : (limit : ℕ) (bs : List ℕ) (x : ℤ × List ℕ) → AreBytes bs → number_at limit bs ≡ Ok x → Took (IsNumber limit x.0) bs x.1
number_took limit bs x each e =
    let (n, read, held) = bind_ok (varint_at bs) (λ n. if nat_lt n.0 limit then Ok (zigzag n.0, n.1) else Err (Range, length bs)) x e in
    let (small, same) = tested (nat_lt n.0 limit) (zigzag n.0, n.1) x (Range, length bs) held in
    took_ok (IsNumber limit) bs (zigzag n.0, n.1) x (ap Ok same)
    (took_as (IsShort 9 n.0) (IsNumber limit (zigzag n.0)) bs n.1 (λ front s. (n.0, short_below limit n.0 front (below_if n.0 limit small) s, refl)) (varint_took bs (length bs) 9 n each read))

pub size_took : (bs : List ℕ) (x : ℕ × List ℕ) → AreBytes bs → size_at bs ≡ Ok x → Took (IsSize x.0) bs x.1
size_took bs x each e =
    let (n, read, held) = bind_ok (varint_at bs) (λ n. if nat_lt n.0 2147483648 then Ok n else Err (Range, length bs)) x e in
    let (small, same) = tested (nat_lt n.0 2147483648) n x (Range, length bs) held in
    took_ok IsSize bs n x (ap Ok same)
    (took_as (IsShort 9 n.0) (IsSize n.0) bs n.1 (λ front s. short_below 2147483648 n.0 front (below_if n.0 2147483648 small) s) (varint_took bs (length bs) 9 n each read))

-- exactly n bytes
abbrev pub AreSo : ℕ → List ℕ → List ℕ → Type 0
AreSo n bytes front = (length bytes ≡ n) × (front ≡ bytes)

later_bytes : (n : ℕ) (bs : List ℕ) → AreBytes bs → AreBytes (drop n bs)
later_bytes zero bs each = each
later_bytes (suc n) [] each = each
later_bytes (suc n) (b ∷ bs) each = later_bytes n bs (λ i. each (suc i))

pub bytes_took : (n : ℕ) (bs : List ℕ) (x : List ℕ × List ℕ) → AreBytes bs → bytes_at n bs ≡ Ok x → Took (AreSo n x.0) bs x.1
bytes_took n bs x each e =
    elim (chosen (nat_lt (length bs) n) (Err (End, 0)) (Ok (take n bs, drop n bs)) (Ok x) e) [
      | inl w ↦ cc
      | inr w ↦
          let long : n ≤ length bs = not_below_if (length bs) n w.0 in
          took_ok (AreSo n) bs (take n bs, drop n bs) x w.1
          (record { front = take n bs; parts = sym (take-append-drop n bs); is = (length-take-le n bs long, refl); rest = later_bytes n bs each })
    ]

abbrev pub IsSignedByte : ℤ → List ℕ → Type 0
IsSignedByte z front = (b : ℕ) × (b < 256) × (z ≡ signed_byte b) × (front ≡ b ∷ [])

pub int8_took : (bs : List ℕ) (x : ℤ × List ℕ) → AreBytes bs → int8_at bs ≡ Ok x → Took (IsSignedByte x.0) bs x.1
int8_took bs x each e =
    let (b, read, same) = bind_ok (byte_at bs) (λ b. Ok (signed_byte b.0, b.1)) x e in
    took_ok IsSignedByte bs (signed_byte b.0, b.1) x same
    (took_as (IsByte b.0) (IsSignedByte (signed_byte b.0)) bs b.1 (λ front p. (b.0, p.1, refl, p.0)) (byte_took bs b each read))

abbrev pub IsBinary : List ℕ → List ℕ → Type 0
IsBinary bytes front = (size : List ℕ) × IsSize (length bytes) size × (front ≡ size ++ bytes)

pub binary_took : (bs : List ℕ) (x : List ℕ × List ℕ) → AreBytes bs → binary_at bs ≡ Ok x → Took (IsBinary x.0) bs x.1
binary_took bs x each e =
    let (n, sized, read) = bind_ok (size_at bs) (λ n. bytes_at n.0 n.1) x e in
    let size = size_took bs n each sized in
    took_then (IsSize n.0) (AreSo n.0 x.0) (IsBinary x.0) bs n.1 x.1
    (λ front others s p. (front, subst (λ (m : ℕ). IsSize m front) (sym p.0) s, ap (λ more. front ++ more) p.1))
    size (bytes_took n.0 n.1 x size.rest read)

is_truth : (b : ℕ) → b < 3 → IsTruthByte (b == 1) (b ∷ [])
is_truth zero small = inl refl
is_truth (suc zero) small = refl
is_truth (suc (suc zero)) small = inr refl
is_truth (suc (suc (suc n))) small = absurd (omega arith)

pub truth_took : (bs : List ℕ) (x : Bool × List ℕ) → AreBytes bs → truth_at bs ≡ Ok x → Took (IsTruthByte x.0) bs x.1
truth_took bs x each e =
    let (b, read, held) = bind_ok (byte_at bs) (λ b. if nat_lt b.0 3 then Ok (b.0 == 1, b.1) else Err (WrongType, length bs)) x e in
    let (small, same) = tested (nat_lt b.0 3) (b.0 == 1, b.1) x (WrongType, length bs) held in
    took_ok IsTruthByte bs (b.0 == 1, b.1) x (ap Ok same)
    (took_as (IsByte b.0) (IsTruthByte (b.0 == 1)) bs b.1
    (λ front p. subst (λ (f : List ℕ). IsTruthByte (b.0 == 1) f) (sym p.0) (is_truth b.0 (below_if b.0 3 small))) (byte_took bs b each read))
