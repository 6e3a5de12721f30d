-- The canonical spellings of integers, sizes and heads follow the grammar.
use Rattle.std.proofs.Common.{◌≡◌, ℕ, zero, suc, ◌+◌, ◌-◌, ◌*◌, ◌/◌, ◌%◌, ◌<◌, ◌≤◌, ◌==◌, nat_lt, nat_le, ℤ, pos, negsuc, ◌+ℤ◌, ◌-ℤ◌, nat_abs, Bool, true, false, ◌&&◌, inl, inr, Some, None, List, [], ◌∷◌, length, if◌then◌else◌, FitsSigned, w8, w16, w32, w64, refl, sym, ◌∙◌, ap, subst, arith}
use Rattle.std.proofs.lemmas.Bool.{cases_lt, lt-ltb, le-ltb}
use Rattle.std.proofs.lemmas.Int.{ints}
use Rattle.thrift_compact.specs.declared.kind.TKind.{TKind}
use Rattle.thrift_compact.specs.Grammar.{IsVarint, IsBelow, IsSize, IsNumber, IsListHead, IsFieldHead}
use Rattle.thrift_compact.specs.Kinds.{code}
use Rattle.thrift_compact.specs.Reading.{zigzag, signed_byte, small_id, is_among, last}
use Rattle.thrift_compact.specs.Spelling.{varint_within, varint_of, zigzag_of, number_of, byte_of, list_head_of, is_near, field_head_by, field_head_of}
use Rattle.thrift_compact.proofs.Pieces.{varint_of_is}

-- the limit of a varint with at most `more` bytes after the first
abbrev pub limit_of : ℕ → ℕ
limit_of zero = 128
limit_of (suc more) = 128 * limit_of more

varint_more : (b : ℕ) (bs : List ℕ) (n high : ℕ) → 128 ≤ b → b < 256 → n + 128 ≡ b + 128 * high → IsVarint bs high → IsVarint (b ∷ bs) n
varint_more b [] n high low below is rest = absurd rest
varint_more b (c ∷ bs) n high low below is rest = (low, below, high, is, rest)

pub varint_is : (more n : ℕ) → n < limit_of more → IsVarint (varint_within more n) n
varint_is zero n below = (below, refl)
varint_is (suc more) n below =
    elim (cases_lt n 128) [
      | inl small ↦ subst (λ b. IsVarint (if b then n ∷ [] else (128 + n % 128) ∷ varint_within more (n / 128)) n) (sym (lt-ltb n 128 small)) (small, refl)
      | inr large ↦ subst (λ b. IsVarint (if b then n ∷ [] else (128 + n % 128) ∷ varint_within more (n / 128)) n) (sym (le-ltb n 128 large))
          (varint_more (128 + n % 128) (varint_within more (n / 128)) n (n / 128) (omega arith) (omega arith) (omega arith) (varint_is more (n / 128) (omega arith)))
    ]

pub varint_short : (more n : ℕ) → length (varint_within more n) ≤ suc more
varint_short zero n = omega arith
varint_short (suc more) n =
    elim (nat_lt n 128) as (λ b. length (if b then n ∷ [] else (128 + n % 128) ∷ varint_within more (n / 128)) ≤ suc (suc more)) [
      | true ↦ omega arith
      | false ↦ let rest : length (varint_within more (n / 128)) ≤ suc more = varint_short more (n / 128) in omega arith
    ]

pub varint_below : (limit n : ℕ) → limit ≤ 18446744073709551616 → n < limit → IsBelow limit n (varint_of n)
varint_below limit n small below = record {
  spelled = rw varint_of_is (varint_is 9 n (omega arith));
  short = rw varint_of_is (varint_short 9 n);
  below = below;
}

pub size_is : (n : ℕ) → n < 2147483648 → IsSize n (varint_of n)
size_is n below = varint_below 2147483648 n (omega arith) below

-- decoding a zigzag number gives the integer that was encoded
pub zigzag_back : (z : ℤ) → z ≡ zigzag (zigzag_of z)
zigzag_back (pos n) =
    let even : 2 * n % 2 ≡ 0 = omega arith in
    let half : 2 * n / 2 ≡ n = omega arith in
    sym (ap (λ m. if m == 0 then pos (2 * n / 2) else negsuc (2 * n / 2)) even ∙ ap pos half)
zigzag_back (negsuc n) =
    let odd : (2 * n + 1) % 2 ≡ 1 = omega arith in
    let half : (2 * n + 1) / 2 ≡ n = omega arith in
    sym (ap (λ m. if m == 0 then pos ((2 * n + 1) / 2) else negsuc ((2 * n + 1) / 2)) odd ∙ ap negsuc half)

pub int16_is : (z : ℤ) → FitsSigned w16 z → IsNumber 65536 z (number_of z)
int16_is (pos n) fits = (2 * n, varint_below 65536 (2 * n) (omega arith) (omega (arith, fits.sfits)), zigzag_back (pos n))
int16_is (negsuc n) fits = (2 * n + 1, varint_below 65536 (2 * n + 1) (omega arith) (omega (arith, fits.sfits)), zigzag_back (negsuc n))

pub int32_is : (z : ℤ) → FitsSigned w32 z → IsNumber 4294967296 z (number_of z)
int32_is (pos n) fits = (2 * n, varint_below 4294967296 (2 * n) (omega arith) (omega (arith, fits.sfits)), zigzag_back (pos n))
int32_is (negsuc n) fits = (2 * n + 1, varint_below 4294967296 (2 * n + 1) (omega arith) (omega (arith, fits.sfits)), zigzag_back (negsuc n))

pub int64_is : (z : ℤ) → FitsSigned w64 z → IsNumber 18446744073709551616 z (number_of z)
int64_is (pos n) fits = (2 * n, varint_below 18446744073709551616 (2 * n) (omega arith) (omega (arith, fits.sfits)), zigzag_back (pos n))
int64_is (negsuc n) fits = (2 * n + 1, varint_below 18446744073709551616 (2 * n + 1) (omega arith) (omega (arith, fits.sfits)), zigzag_back (negsuc n))

pub int8_is : (z : ℤ) → FitsSigned w8 z → (byte_of z < 256) × (z ≡ signed_byte (byte_of z))
int8_is (pos n) fits =
    let below : n < 128 = omega (arith, fits.sfits) in
    (omega arith, ap (λ b. if b then pos n else negsuc (255 - n)) (sym (lt-ltb n 128 below)))
int8_is (negsuc n) fits =
    let below : n < 128 = omega (arith, fits.sfits) in
    let back : 255 - (255 - n) ≡ n = omega arith in
    (omega arith, sym (ap (λ b. if b then pos (255 - n) else negsuc (255 - (255 - n))) (le-ltb (255 - n) 128 (omega arith)) ∙ ap negsuc back))

pub list_head_is : (k : TKind) (n : ℕ) → n < 2147483648 → IsListHead k n (list_head_of k n)
list_head_is k n below =
    elim (cases_lt n 15) [
      | inl small ↦ inl (small, ap (λ b. if b then (16 * n + code k) ∷ [] else (240 + code k) ∷ varint_of n) (lt-ltb n 15 small))
      | inr large ↦ inr (varint_of n, size_is n below, ap (λ b. if b then (16 * n + code k) ∷ [] else (240 + code k) ∷ varint_of n) (le-ltb n 15 large))
    ]

-- the head of a field
both_le : (n : ℕ) → (nat_le 1 n && nat_le n 15) ≡ true → (0 < n) × (n < 16)
both_le n is = (grind arith, grind arith)

near_by : (d : ℤ) → is_near d ≡ true → (0 < nat_abs d) × (nat_abs d < 16) × (d ≡ pos (nat_abs d))
near_by (pos n) is = let b = both_le n is in (b.0, b.1, refl)
near_by (negsuc n) is = cc

back : (before id : ℤ) (n : ℕ) → id -ℤ before ≡ pos n → id ≡ before +ℤ pos n
back before id n is = omega (arith, ints)

near : (before id : ℤ) → is_near (id -ℤ before) ≡ true → (0 < nat_abs (id -ℤ before)) × (nat_abs (id -ℤ before) < 16) × (id ≡ before +ℤ pos (nat_abs (id -ℤ before)))
near before id is =
    let d = near_by (id -ℤ before) is in
    (d.0, d.1, back before id (nat_abs (id -ℤ before)) d.2)

small : (id : ℤ) → FitsSigned w16 id → small_id id ≡ true
small (pos n) fits = let below : n ≤ 32767 = omega (arith, fits.sfits) in grind arith
small (negsuc n) fits = let below : n ≤ 32767 = omega (arith, fits.sfits) in grind arith

head_by : (ids : List ℤ) (id : ℤ) (k : TKind) (b : Bool) → is_among id ids ≡ false → FitsSigned w16 id → is_near (id -ℤ last ids) ≡ b → IsFieldHead ids id k (field_head_by (if b then Some (nat_abs (id -ℤ last ids)) else None) id k)
head_by ids id k true new fits is = let n = near (last ids) id is in (new, inl (nat_abs (id -ℤ last ids), n.0, n.1, n.2, small id fits, refl))
head_by ids id k false new fits is = (new, inr (number_of id, int16_is id fits, refl))

pub field_head_is : (ids : List ℤ) (id : ℤ) (k : TKind) → is_among id ids ≡ false → FitsSigned w16 id → IsFieldHead ids id k (field_head_of (last ids) id k)
field_head_is ids id k new fits = head_by ids id k (is_near (id -ℤ last ids)) new fits refl
