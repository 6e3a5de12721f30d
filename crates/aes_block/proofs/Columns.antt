-- A round over the other basis equals the standard round, byte by byte.
use Rattle.std.proofs.Common.{◌≡◌, ℕ, ◌+◌, ◌<◌, true, eqb, ltb, List, [], ◌∷◌, map, length, get_or, refl, sym, ap, subst, ◌∙◌, arith, bit_xor, ltb-true}
use Rattle.std.specs.Int.Bits.{xor_assoc, xor_comm, xor_zero_r}
use Rattle.std.specs.List.{range_with_len}
use Rattle.std.proofs.lemmas.Nat.{xor_of_8}
use Rattle.std.proofs.lemmas.Simd.{Each1-get_or, pick_l_whole}
use Rattle.std.specs.Simd.Lanes.{Each1, zip2, pick_l}
use Rattle.aes_block.specs.Aes.{round, final_round}
use Rattle.aes_block.specs.Basis.{basis, affine, affine_once, affine_twice, inner_key, IsByte, IsState}
use Rattle.aes_block.specs.Field.{field_mul, folded, sbox}
use Rattle.aes_block.specs.declared.rounds.TheConstants.{ROWS, ROWS_TURNED, ROWS_TURNED_TWICE, ROWS_TURNED_THRICE}
use Rattle.pme_terms.specs.Polynomials.{product_below}
use Rattle.aes_block.proofs.Bytes.{of_all_bytes, at_byte, same_byte}
use Rattle.aes_block.proofs.Sboxes.{substituted, is_sbox}

-- ---- laws of bytes, checked by computation for all 256

abbrev adds : ℕ → ℕ → Type 0
adds a b = basis (bit_xor a b) ≡ bit_xor (basis a) (basis b)

all_add : of_all_bytes (λ a. of_all_bytes (λ b. eqb (basis (bit_xor a b)) (bit_xor (basis a) (basis b)))) ≡ true
all_add = refl

added : (a b : ℕ) → a < 256 → b < 256 → adds a b
added a b la lb = same_byte (λ b. basis (bit_xor a b)) (λ b. bit_xor (basis a) (basis b)) b (at_byte (λ a. of_all_bytes (λ b. eqb (basis (bit_xor a b)) (bit_xor (basis a) (basis b)))) a all_add la) lb

small : of_all_bytes (λ x. ltb (substituted x) 256) ≡ true
small = refl

small_twice : of_all_bytes (λ x. ltb (field_mul 2 (substituted x)) 256) ≡ true
unfolding field_mul folded product_below
small_twice = refl

small_thrice : of_all_bytes (λ x. ltb (field_mul 3 (substituted x)) 256) ≡ true
unfolding field_mul folded product_below
small_thrice = refl

plain : of_all_bytes (λ x. eqb (affine (basis x)) (bit_xor (substituted x) 0x63)) ≡ true
plain = refl

once : of_all_bytes (λ x. eqb (affine_once (basis x)) (bit_xor (basis (substituted x)) (basis 0x63))) ≡ true
once = refl

twice : of_all_bytes (λ x. eqb (affine_twice (basis x)) (bit_xor (basis (field_mul 2 (substituted x))) (basis 0xc6))) ≡ true
unfolding field_mul folded product_below
twice = refl

thrice : of_all_bytes (λ x. eqb (bit_xor (affine_once (basis x)) (affine_twice (basis x))) (bit_xor (basis (field_mul 3 (substituted x))) (basis 0xa5))) ≡ true
unfolding field_mul folded product_below
thrice = refl

-- the laws for a byte x of the state
record Substituted (x : ℕ) : Type 0 where
  pub small : sbox x < 256
  pub small_twice : field_mul 2 (sbox x) < 256
  pub small_thrice : field_mul 3 (sbox x) < 256
  pub plain : affine (basis x) ≡ bit_xor (sbox x) 0x63
  pub once : affine_once (basis x) ≡ bit_xor (basis (sbox x)) (basis 0x63)
  pub twice : affine_twice (basis x) ≡ bit_xor (basis (field_mul 2 (sbox x))) (basis 0xc6)
  pub thrice : bit_xor (affine_once (basis x)) (affine_twice (basis x)) ≡ bit_xor (basis (field_mul 3 (sbox x))) (basis 0xa5)

substituted_of : (x : ℕ) → x < 256 → Substituted x
substituted_of x lt =
    let is : substituted x ≡ sbox x = same_byte substituted sbox x is_sbox lt in
    record {
      small = subst (λ s. s < 256) is (ltb-true _ _ (at_byte (λ x. ltb (substituted x) 256) x small lt));
      small_twice = subst (λ s. field_mul 2 s < 256) is (ltb-true _ _ (at_byte (λ x. ltb (field_mul 2 (substituted x)) 256) x small_twice lt));
      small_thrice = subst (λ s. field_mul 3 s < 256) is (ltb-true _ _ (at_byte (λ x. ltb (field_mul 3 (substituted x)) 256) x small_thrice lt));
      plain = same_byte (λ x. affine (basis x)) (λ x. bit_xor (substituted x) 0x63) x plain lt ∙ ap (λ s. bit_xor s 0x63) is;
      once = same_byte (λ x. affine_once (basis x)) (λ x. bit_xor (basis (substituted x)) (basis 0x63)) x once lt ∙ ap (λ s. bit_xor (basis s) (basis 0x63)) is;
      twice = same_byte (λ x. affine_twice (basis x)) (λ x. bit_xor (basis (field_mul 2 (substituted x))) (basis 0xc6)) x twice lt ∙ ap (λ s. bit_xor (basis (field_mul 2 s)) (basis 0xc6)) is;
      thrice = same_byte (λ x. bit_xor (affine_once (basis x)) (affine_twice (basis x))) (λ x. bit_xor (basis (field_mul 3 (substituted x))) (basis 0xa5)) x thrice lt ∙ ap (λ s. bit_xor (basis (field_mul 3 s)) (basis 0xa5)) is;
    }

-- ---- sums

turned_sum : (p q r s : ℕ) → bit_xor (bit_xor p q) (bit_xor r s) ≡ bit_xor (bit_xor s p) (bit_xor q r)
turned_sum p q r s =
    xor_assoc p q (bit_xor r s)
    ∙ ap (bit_xor p) (sym (xor_assoc q r s) ∙ xor_comm (bit_xor q r) s)
    ∙ sym (xor_assoc p s (bit_xor q r))
    ∙ ap (λ n. bit_xor n (bit_xor q r)) (xor_comm p s)

paired_sum : (p q r s : ℕ) → bit_xor (bit_xor p q) (bit_xor r s) ≡ bit_xor (bit_xor p r) (bit_xor q s)
paired_sum p q r s =
    xor_assoc p q (bit_xor r s)
    ∙ ap (bit_xor p) (sym (xor_assoc q r s) ∙ ap (λ n. bit_xor n s) (xor_comm q r) ∙ xor_assoc r q s)
    ∙ sym (xor_assoc p r (bit_xor q s))

-- the constants of the affine map cancel in a XOR
sum_is : (a b c d k : ℕ)
    → bit_xor (bit_xor (bit_xor (bit_xor a (basis 0xc6)) (bit_xor b (basis 0xa5))) (bit_xor (bit_xor c (basis 0x63)) (bit_xor d (basis 0x63)))) (bit_xor k (basis 0x63))
    ≡ bit_xor (bit_xor (bit_xor a b) (bit_xor c d)) k
sum_is a b c d k =
    let w = basis 0x63 in
    let ab = paired_sum a (basis 0xc6) b (basis 0xa5) in
    let cd = paired_sum c w d w in
    let four = (λ i. bit_xor (ab i) (cd i)) ∙ paired_sum (bit_xor a b) (bit_xor (basis 0xc6) (basis 0xa5)) (bit_xor c d) (bit_xor w w) in
    ap (λ n. bit_xor n (bit_xor k w)) four
    ∙ paired_sum (bit_xor (bit_xor a b) (bit_xor c d)) w k w
    ∙ xor_zero_r (bit_xor (bit_xor (bit_xor a b) (bit_xor c d)) k)

-- ---- a byte of the next state

abbrev Is : ℕ → ℕ → Type 0
Is v x = (v ≡ basis x) × IsByte x

abbrev mixed : ℕ → ℕ → ℕ → ℕ → ℕ → ℕ
mixed a b c d k =
    bit_xor (bit_xor (bit_xor (affine_twice (basis a)) (bit_xor (affine_once (basis b)) (affine_twice (basis b)))) (bit_xor (affine_once (basis c)) (affine_once (basis d)))) (inner_key k)

abbrev mix : ℕ → ℕ → ℕ → ℕ → ℕ
mix a b c d = bit_xor (bit_xor (field_mul 2 (sbox a)) (field_mul 3 (sbox b))) (bit_xor (sbox c) (sbox d))

mixed_is : (a b c d k m : ℕ) → a < 256 → b < 256 → c < 256 → d < 256 → k < 256 → mix a b c d ≡ m → Is (mixed a b c d k) (bit_xor m k)
mixed_is a b c d k m la lb lc ld lk same =
    let first = substituted_of a la in
    let second = substituted_of b lb in
    let third = substituted_of c lc in
    let fourth = substituted_of d ld in
    let key = added k 0x63 lk (omega arith) in
    let two = xor_of_8 (field_mul 2 (sbox a)) (field_mul 3 (sbox b)) first.small_twice second.small_thrice in
    let others = xor_of_8 (sbox c) (sbox d) third.small fourth.small in
    let four = xor_of_8 _ _ two others in
    let sum = added (mix a b c d) k four lk
    ∙ ap (λ n. bit_xor n (basis k)) (added _ _ two others ∙ (λ i. bit_xor (added _ _ first.small_twice second.small_thrice i) (added _ _ third.small fourth.small i))) in
    let is = (λ i. bit_xor (bit_xor (bit_xor (first.twice i) (second.thrice i)) (bit_xor (third.once i) (fourth.once i))) (key i))
    ∙ sum_is (basis (field_mul 2 (sbox a))) (basis (field_mul 3 (sbox b))) (basis (sbox c)) (basis (sbox d)) (basis k)
    ∙ sym sum in
    subst (λ m. Is (mixed a b c d k) (bit_xor m k)) same (is, xor_of_8 _ _ four lk)

-- ---- a block

abbrev at : List ℕ → List ℕ → List ℕ
at s ks = map (λ k. get_or s k 0) ks

-- the block that `round` gives
abbrev pub round_over : List ℕ → List ℕ → List ℕ
round_over v key =
    zip2 bit_xor (zip2 bit_xor
    (zip2 bit_xor (at (map affine_twice v) ROWS) (at (zip2 bit_xor (map affine_once v) (map affine_twice v)) ROWS_TURNED))
    (zip2 bit_xor (at (map affine_once v) ROWS_TURNED_TWICE) (at (map affine_once v) ROWS_TURNED_THRICE))) key

record Bytes (s : List ℕ) : Type 0 where
  long : length s ≡ 16
  bytes : Each1 IsByte s

byte : (s : List ℕ) → Bytes s → (j : ℕ) → j < 16 → get_or s j 0 < 256
byte s h j lt = Each1-get_or IsByte s j 0 (let e = h.long in omega arith) h.bytes

-- the column with bytes a, b, c and d, with the key's bytes from index j on
column : (s key : List ℕ) → Bytes s → Bytes key → (a b c d j : ℕ) → a < 16 → b < 16 → c < 16 → d < 16 → j + 3 < 16
    → let x = λ (n : ℕ). get_or s n 0 in let k = λ (n : ℕ). get_or key n 0 in let S = λ (n : ℕ). sbox (x n) in
    Is (mixed (x a) (x b) (x c) (x d) (k j)) (bit_xor (bit_xor (bit_xor (field_mul 2 (S a)) (field_mul 3 (S b))) (bit_xor (S c) (S d))) (k j))
    × (Is (mixed (x b) (x c) (x d) (x a) (k (j + 1))) (bit_xor (bit_xor (bit_xor (S a) (field_mul 2 (S b))) (bit_xor (field_mul 3 (S c)) (S d))) (k (j + 1)))
    × (Is (mixed (x c) (x d) (x a) (x b) (k (j + 2))) (bit_xor (bit_xor (bit_xor (S a) (S b)) (bit_xor (field_mul 2 (S c)) (field_mul 3 (S d)))) (k (j + 2)))
    × Is (mixed (x d) (x a) (x b) (x c) (k (j + 3))) (bit_xor (bit_xor (bit_xor (field_mul 3 (S a)) (S b)) (bit_xor (S c) (field_mul 2 (S d)))) (k (j + 3)))))
column s key hs hk a b c d j la lb lc ld lj =
    let x = λ (n : ℕ). get_or s n 0 in
    let k = λ (n : ℕ). get_or key n 0 in
    let ba = byte s hs a la in
    let bb = byte s hs b lb in
    let bc = byte s hs c lc in
    let bd = byte s hs d ld in
    let S = λ (n : ℕ). sbox (x n) in
    let first = mixed_is (x a) (x b) (x c) (x d) (k j) _ ba bb bc bd (byte key hk j (omega arith)) refl in
    let second = mixed_is (x b) (x c) (x d) (x a) (k (j + 1)) _ bb bc bd ba (byte key hk (j + 1) (omega arith)) (turned_sum (field_mul 2 (S b)) (field_mul 3 (S c)) (S d) (S a)) in
    let third = mixed_is (x c) (x d) (x a) (x b) (k (j + 2)) _ bc bd ba bb (byte key hk (j + 2) (omega arith)) (xor_comm (bit_xor (field_mul 2 (S c)) (field_mul 3 (S d))) (bit_xor (S a) (S b))) in
    let fourth = mixed_is (x d) (x a) (x b) (x c) (k (j + 3)) _ bd ba bb bc (byte key hk (j + 3) (omega arith))
    (turned_sum (field_mul 2 (S d)) (field_mul 3 (S a)) (S b) (S c) ∙ xor_comm (bit_xor (S c) (field_mul 2 (S d))) (bit_xor (field_mul 3 (S a)) (S b))) in
    (first, (second, (third, fourth)))

abbrev listed : List ℕ → List ℕ
listed s = pick_l 0 s (range_with_len 0 16)

pub round_over_is : (s k : List ℕ) → length s ≡ 16 → length k ≡ 16 → Each1 IsByte s → Each1 IsByte k → IsState (round_over (map basis s) (map inner_key k)) (round s k)
round_over_is s k ls lk bs bk =
    let hs : Bytes s = record { long = ls; bytes = bs } in
    let hk : Bytes k = record { long = lk; bytes = bk } in
    let p = column s k hs hk 0 5 10 15 0 (omega arith) (omega arith) (omega arith) (omega arith) (omega arith) in
    let q = column s k hs hk 4 9 14 3 4 (omega arith) (omega arith) (omega arith) (omega arith) (omega arith) in
    let r = column s k hs hk 8 13 2 7 8 (omega arith) (omega arith) (omega arith) (omega arith) (omega arith) in
    let t = column s k hs hk 12 1 6 11 12 (omega arith) (omega arith) (omega arith) (omega arith) (omega arith) in
    let both : IsState (round_over (map basis (listed s)) (map inner_key (listed k))) (round (listed s) (listed k)) = (
      λ i. p.0.0 i ∷ p.1.0.0 i ∷ p.1.1.0.0 i ∷ p.1.1.1.0 i ∷ q.0.0 i ∷ q.1.0.0 i ∷ q.1.1.0.0 i ∷ q.1.1.1.0 i
          ∷ r.0.0 i ∷ r.1.0.0 i ∷ r.1.1.0.0 i ∷ r.1.1.1.0 i ∷ t.0.0 i ∷ t.1.0.0 i ∷ t.1.1.0.0 i ∷ t.1.1.1.0 i ∷ [],
      (p.0.1, (p.1.0.1, (p.1.1.0.1, (p.1.1.1.1, (q.0.1, (q.1.0.1, (q.1.1.0.1, (q.1.1.1.1, (r.0.1, (r.1.0.1, (r.1.1.0.1, (r.1.1.1.1, (t.0.1, (t.1.0.1, (t.1.1.0.1, (t.1.1.1.1, tt)))))))))))))))),
    ) in
    subst (λ s. IsState (round_over (map basis s) (map inner_key k)) (round s k)) (pick_l_whole 0 s 16 ls)
    (subst (λ k. IsState (round_over (map basis (listed s)) (map inner_key k)) (round (listed s) k)) (pick_l_whole 0 k 16 lk) both)

-- ---- the final round

last : (s key : List ℕ) → Bytes s → (j n : ℕ) → j < 16
    → bit_xor (affine (basis (get_or s j 0))) (bit_xor (get_or key n 0) 0x63) ≡ bit_xor (sbox (get_or s j 0)) (get_or key n 0)
last s key hs j n lt =
    let x = get_or s j 0 in
    let k = get_or key n 0 in
    ap (λ v. bit_xor v (bit_xor k 0x63)) (substituted_of x (byte s hs j lt)).plain ∙ paired_sum (sbox x) 0x63 k 0x63 ∙ xor_zero_r (bit_xor (sbox x) k)

pub last_is : (s k : List ℕ) → length s ≡ 16 → length k ≡ 16 → Each1 IsByte s
    → zip2 bit_xor (at (map affine (map basis s)) ROWS) (map (λ x. bit_xor x 0x63) k) ≡ final_round s k
last_is s k ls lk bs =
    let hs : Bytes s = record { long = ls; bytes = bs } in
    let e = λ (j n : ℕ) (lt : j < 16). last s k hs j n lt in
    let f = λ (s k : List ℕ). zip2 bit_xor (at (map affine (map basis s)) ROWS) (map (λ x. bit_xor x 0x63) k) in
    let both : f (listed s) (listed k) ≡ final_round (listed s) (listed k) =
    λ i. e 0 0 (omega arith) i ∷ e 5 1 (omega arith) i ∷ e 10 2 (omega arith) i ∷ e 15 3 (omega arith) i
    ∷ e 4 4 (omega arith) i ∷ e 9 5 (omega arith) i ∷ e 14 6 (omega arith) i ∷ e 3 7 (omega arith) i
    ∷ e 8 8 (omega arith) i ∷ e 13 9 (omega arith) i ∷ e 2 10 (omega arith) i ∷ e 7 11 (omega arith) i
    ∷ e 12 12 (omega arith) i ∷ e 1 13 (omega arith) i ∷ e 6 14 (omega arith) i ∷ e 11 15 (omega arith) i ∷ [] in
    (λ i. f (sym (pick_l_whole 0 s 16 ls) i) (sym (pick_l_whole 0 k 16 lk) i)) ∙ both ∙ (λ i. final_round (pick_l_whole 0 s 16 ls i) (pick_l_whole 0 k 16 lk i))
