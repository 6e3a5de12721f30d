-- Reading a varint byte by byte: the value of the bytes read so far, and what further bytes add to it.
use Rattle.std.proofs.Common.{◌≡◌, ℕ, zero, suc, ◌+◌, ◌-◌, ◌*◌, ◌^◌, ◌<◌, ◌≤◌, List, [], ◌∷◌, Result, Ok, Err, refl, sym, ap, ◌∙◌, subst, arith}
use Rattle.std.proofs.Math.Nat.{mul-le-mul_left, mul-le-mul_right, mul_assoc}
use Rattle.std.proofs.lemmas.Bool.{lt-ltb, le-ltb}
use Rattle.pme_base.specs.declared.refusal.ThriftFault.TheVariants.{Varint}
use Rattle.pme_base.specs.Steps.{◌>>=◌}
use Rattle.thrift_compact.specs.Answers.{mapped}
use Rattle.thrift_compact.specs.Reading.{Fault, byte_at, varint_within}
use Rattle.thrift_compact.proofs.Steps.{byte_is}

-- the limit of the value of a last byte of at most 1 and `more` bytes before it
abbrev pub above : ℕ → ℕ
above zero = 2
above (suc more) = 128 * above more

-- the bytes read so far have the value `value`, and the next byte counts `scale` times
pub record IsPart (whole : Result (ℕ × List ℕ) Fault) (start more value scale : ℕ) (bs : List ℕ) : Type 0 where
  pub low : value < scale
  pub fits : scale * above more ≡ 2 ^ 64
  pub rest : mapped (λ n. value + scale * n) (varint_within start more bs) ≡ whole

pub part_fails : (whole : Result (ℕ × List ℕ) Fault) (start more value scale : ℕ) (bs : List ℕ) (f : Fault) → IsPart whole start more value scale bs → byte_at bs ≡ Err f → whole ≡ Err f
unfolding varint_within
part_fails whole start zero value scale [] f part e = sym part.rest ∙ e
part_fails whole start (suc more) value scale [] f part e = sym part.rest ∙ e
part_fails whole start more value scale (b ∷ bs) f part e = absurd cc

two_above : (more : ℕ) → 2 ≤ above more
two_above zero = omega arith
two_above (suc more) = omega (arith, two_above more)

-- the value still fits 64 bits after one more byte below 128
pub part_fits : (whole : Result (ℕ × List ℕ) Fault) (start more value scale b : ℕ) (bs : List ℕ) → IsPart whole start (suc more) value scale bs → b < 128 → (value + b * scale < scale * 128) × (scale * 256 ≤ 2 ^ 64)
part_fits whole start more value scale b bs part small =
    let byte : b * scale ≤ 127 * scale = grind (arith, mul-le-mul_right) in
    let depth : (scale * 128) * 2 ≤ (scale * 128) * above more = mul-le-mul_left (scale * 128) (two_above more) in
    let fits : scale * (128 * above more) ≡ 2 ^ 64 = part.fits in
    (omega (arith, part.low), omega (arith, mul_assoc scale 128 (above more)))

add_scaled : (value scale b : ℕ) → value + scale * b ≡ value + b * scale
add_scaled value scale b = omega arith

add_both : (value scale b n : ℕ) → value + b * scale + scale * 128 * n ≡ value + scale * (b + 128 * n)
add_both value scale b n = omega arith

joined : (value scale b : ℕ) (r : Result (ℕ × List ℕ) Fault) → mapped (λ n. value + b * scale + scale * 128 * n) r ≡ mapped (λ n. value + scale * n) (r >>= λ high. Ok (b + 128 * high.0, high.1))
joined value scale b (Ok x) = ap (λ n. Ok (n, x.1)) (add_both value scale b x.0)
joined value scale b (Err f) = refl

pub part_ends : (whole : Result (ℕ × List ℕ) Fault) (start more value scale b : ℕ) (bs rest : List ℕ) → IsPart whole start (suc more) value scale bs → byte_at bs ≡ Ok (b, rest) → b < 128 → whole ≡ Ok (value + b * scale, rest)
unfolding varint_within
part_ends whole start more value scale b bs rest part e small =
    let front = byte_is bs b rest e in
    let whole_is = subst (λ (x : List ℕ). mapped (λ n. value + scale * n) (varint_within start (suc more) x) ≡ whole) front part.rest in
    sym whole_is ∙ (rw (lt-ltb b 128 small) (ap (λ n. Ok (n, rest)) (add_scaled value scale b)))

pub part_more : (whole : Result (ℕ × List ℕ) Fault) (start more value scale b : ℕ) (bs rest : List ℕ) → IsPart whole start (suc more) value scale bs → byte_at bs ≡ Ok (b, rest) → 128 ≤ b → b < 256 → IsPart whole start more (value + (b - 128) * scale) (scale * 128) rest
unfolding varint_within
part_more whole start more value scale b bs rest part e large byte =
    let front = byte_is bs b rest e in
    let whole_is = subst (λ (x : List ℕ). mapped (λ n. value + scale * n) (varint_within start (suc more) x) ≡ whole) front part.rest in
    let bounds = part_fits whole start more value scale (b - 128) bs part (omega arith) in
    let fits : scale * (128 * above more) ≡ 2 ^ 64 = part.fits in
    record {
      low = bounds.0;
      fits = mul_assoc scale 128 (above more) ∙ fits;
      rest = joined value scale (b - 128) (varint_within start more rest) ∙ (rw (le-ltb b 128 large) at whole_is);
    }

pub part_last : (whole : Result (ℕ × List ℕ) Fault) (start value scale b : ℕ) (bs rest : List ℕ) → IsPart whole start zero value scale bs → byte_at bs ≡ Ok (b, rest) → b < 2 → whole ≡ Ok (value + b * scale, rest)
unfolding varint_within
part_last whole start value scale b bs rest part e small =
    let front = byte_is bs b rest e in
    let whole_is = subst (λ (x : List ℕ). mapped (λ n. value + scale * n) (varint_within start zero x) ≡ whole) front part.rest in
    sym whole_is ∙ (rw (lt-ltb b 2 small) (ap (λ n. Ok (n, rest)) (add_scaled value scale b)))

pub part_long : (whole : Result (ℕ × List ℕ) Fault) (start value scale b : ℕ) (bs rest : List ℕ) → IsPart whole start zero value scale bs → byte_at bs ≡ Ok (b, rest) → 2 ≤ b → whole ≡ Err (Varint, start)
unfolding varint_within
part_long whole start value scale b bs rest part e large =
    let front = byte_is bs b rest e in
    let whole_is = subst (λ (x : List ℕ). mapped (λ n. value + scale * n) (varint_within start zero x) ≡ whole) front part.rest in
    sym whole_is ∙ (rw (le-ltb b 2 large) refl)

-- the invariant in a turn for one of the first nine bytes
pub at_turn : (whole : Result (ℕ × List ℕ) Fault) (start turn value scale : ℕ) (bs : List ℕ) → turn < 9 → IsPart whole start (9 - turn) value scale bs → IsPart whole start (suc (8 - turn)) value scale bs
at_turn whole start turn value scale bs early part =
    let more : 9 - turn ≡ suc (8 - turn) = omega arith in
    subst (λ (m : ℕ). IsPart whole start m value scale bs) more part

pub at_next : (whole : Result (ℕ × List ℕ) Fault) (start turn value scale : ℕ) (bs : List ℕ) → turn < 9 → IsPart whole start (8 - turn) value scale bs → IsPart whole start (9 - (turn + 1)) value scale bs
at_next whole start turn value scale bs early part =
    let more : 8 - turn ≡ 9 - (turn + 1) = omega arith in
    subst (λ (m : ℕ). IsPart whole start m value scale bs) more part

pub at_tenth : (whole : Result (ℕ × List ℕ) Fault) (start turn value scale : ℕ) (bs : List ℕ) → 9 ≤ turn → IsPart whole start (9 - turn) value scale bs → IsPart whole start zero value scale bs
at_tenth whole start turn value scale bs late part =
    let more : 9 - turn ≡ zero = omega arith in
    subst (λ (m : ℕ). IsPart whole start m value scale bs) more part
