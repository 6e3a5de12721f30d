-- The spellings of varints, sizes and integers are read as what they spell, whatever follows.
use Rattle.std.proofs.Common.{◌≡◌, ℕ, zero, suc, ◌+◌, ◌-◌, ◌*◌, ◌<◌, ◌≤◌, ℤ, true, false, nat_lt, List, [], ◌∷◌, ◌++◌, length, refl, sym, ap, arith, Ok}
use Rattle.thrift_compact.specs.Reading.{varint_within, varint_at, number_at, size_at}
use Rattle.thrift_compact.specs.Grammar.{IsVarint, IsBelow, IsSize, IsNumber}
use Rattle.thrift_compact.proofs.Steps.{below, not_below}

-- the limit of a varint with at most `more` bytes after the first, the last of which is at most 1
abbrev pub room_for : ℕ → ℕ
room_for zero = 2
room_for (suc more) = 128 * room_for more

pub varint_again : (bs : List ℕ) (start more n : ℕ) (r : List ℕ) → IsVarint bs n → length bs ≤ suc more → n < room_for more
    → varint_within start more (bs ++ r) ≡ Ok (n, r)
unfolding varint_within
varint_again [] start more n r v l h = absurd v
varint_again (b ∷ []) start zero n r v l h = let t : nat_lt b 2 ≡ true = below b 2 (omega (arith, v.1)) in rw t (ap (λ m. Ok (m, r)) (sym v.1))
varint_again (b ∷ []) start (suc more) n r v l h = let t : nat_lt b 128 ≡ true = below b 128 v.0 in rw t (ap (λ m. Ok (m, r)) (sym v.1))
varint_again (b ∷ c ∷ bs) start zero n r v l h = absurd (omega arith)
varint_again (b ∷ c ∷ bs) start (suc more) n r v l h =
    let t : nat_lt b 128 ≡ false = not_below b 128 v.0 in
    let whole : b - 128 + 128 * v.2 ≡ n = omega (arith, v.0, v.3) in
    let high_in : v.2 < room_for more = omega (arith, v.0, v.3, h) in
    rw (t, varint_again (c ∷ bs) start more v.2 r v.4 (omega arith) high_in) (ap (λ m. Ok (m, r)) whole)

pub at_front : (limit n : ℕ) (bs r : List ℕ) → limit ≤ 18446744073709551616 → IsBelow limit n bs → varint_at (bs ++ r) ≡ Ok (n, r)
at_front limit n bs r small v = varint_again bs (length (bs ++ r)) 9 n r v.spelled (omega (arith, v.short)) (omega (arith, v.below))

pub number_again : (limit : ℕ) (z : ℤ) (bs r : List ℕ) → limit ≤ 18446744073709551616 → IsNumber limit z bs → number_at limit (bs ++ r) ≡ Ok (z, r)
number_again limit z bs r small v =
    let t : nat_lt v.0 limit ≡ true = below v.0 limit v.1.below in
    rw (at_front limit v.0 bs r small v.1, t) (ap (λ m. Ok (m, r)) (sym v.2))

pub size_again : (n : ℕ) (bs r : List ℕ) → IsSize n bs → size_at (bs ++ r) ≡ Ok (n, r)
size_again n bs r v =
    let t : nat_lt n 2147483648 ≡ true = below n 2147483648 v.below in
    rw (at_front 2147483648 n bs r (omega arith) v, t) refl
