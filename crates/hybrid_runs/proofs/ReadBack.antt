-- Bits that are written are read back.
use Rattle.std.proofs.Common.{◌≡◌, ◌≢◌, ℕ, zero, suc, ◌+◌, ◌-◌, ◌*◌, ◌/◌, ◌%◌, ◌^◌, ◌<◌, ◌≤◌, nat_lt, true, false, min, List, [], ◌∷◌, ◌++◌, take, drop, length, None, Some, refl, sym, ap, ◌∙◌, arith, append_assoc, length-take, length-append, length-drop, inl, inr, slice_index, add-one}
use Rattle.std.proofs.lemmas.List.{take_all, take-append-le, take_min, drop_min}
use Rattle.std.proofs.lemmas.Bool.{cases_lt}
use Rattle.std.proofs.lemmas.Nat.{pow-add, div_below}
use Rattle.hybrid_runs.specs.Hybrid.{packed, le_number, header, varint, run_values, run_size, runs, hybrid}
use Rattle.hybrid_runs.specs.Written.{bits_number, grouped, groups_of, bits_text, varint_text, header_text, run_text, BitsReadBack}
use Rattle.hybrid_runs.proofs.Runs.{varint_room, packed_more, odd_run}

lt_true : (m n : ℕ) → m < n → nat_lt m n ≡ true
lt_true m n h = grind arith

lt_false : (m n : ℕ) → n ≤ m → nat_lt m n ≡ false
lt_false m n h = grind arith

pub varint_text-more : (t n : ℕ) → 0 < t → 128 ≤ n → varint_text t n ≡ (n % 128 + 128) ∷ varint_text (t - 1) (n / 128)
varint_text-more zero n h l = absurd (omega arith)
varint_text-more (suc t) n h l = let e : suc t - 1 ≡ t = omega arith in rw (e, lt_false n 128 l)

-- The header of a run.
some_left : (n x : ℕ) → 128 ≤ x → x < 2 ^ (7 * suc n) → 0 < n
some_left zero x h l = absurd (omega arith)
some_left (suc n) x h l = omega arith

varint-back : (n x : ℕ) (tail : List ℕ) → 0 < n → x < 2 ^ (7 * n) → varint n (varint_text n x ++ tail) ≡ Some (x, tail)
varint-back zero x tail h l = absurd (omega arith)
varint-back (suc n) x tail h l = elim (cases_lt x 128) [
  | inl low ↦ rw (lt_true x 128 low, lt_true x 128 low)
  | inr high ↦
      let room : 2 ^ (7 * suc n) ≡ 2 ^ (7 * n) * 128 = varint_room (suc n) h ∙ (let e : suc n - 1 ≡ n = omega arith in ap (λ k. 2 ^ (7 * k) * 128) e) in
      let small : x / 128 < 2 ^ (7 * n) = div_below x 128 (2 ^ (7 * n)) (omega arith) (rw (← room) l) in
      let same : x % 128 + 128 - 128 + 128 * (x / 128) ≡ x = omega arith in
      rw (lt_false x 128 high, lt_false (x % 128 + 128) 128 (omega arith), varint-back n (x / 128) tail (some_left n x high l) small, same)
]

header-back : (count : ℕ) (tail : List ℕ) → count ≤ 16777216 → header (header_text count ++ tail) ≡ Some (2 * groups_of count + 1, tail)
unfolding header header_text
header-back count tail h =
    rw (varint-back 5 (2 * groups_of count + 1) tail (omega arith) (omega arith), lt_true (2 * groups_of count + 1) (2 ^ 32) (omega arith))

-- The bits of a run.
pow_more : (k : ℕ) → 2 ^ suc k ≡ 2 ^ k * 2
pow_more k = ap (λ n. 2 ^ n) (sym (add-one k)) ∙ pow-add 2 k 1

split_step : (b n low p high : ℕ) → n ≡ low + p * high → b + 2 * n ≡ b + 2 * low + p * 2 * high
split_step b n low p high e = rw e (omega arith)

bits_number-split : (k : ℕ) (bits : List ℕ) → k ≤ length bits → bits_number bits ≡ bits_number (take k bits) + 2 ^ k * bits_number (drop k bits)
bits_number-split zero bits h = omega arith
bits_number-split (suc k) [] h = absurd (omega arith)
bits_number-split (suc k) (b ∷ bits) h =
    let p : 2 ^ suc k ≡ 2 ^ k * 2 = pow_more k in
    rw p (split_step (b % 2) (bits_number bits) (bits_number (take k bits)) (2 ^ k) (bits_number (drop k bits)) (bits_number-split k bits (omega arith)))

pub record Above (number low size : ℕ) : Type 0 where
  pub rest : ℕ
  pub same : number ≡ low + 2 ^ size * rest

whole_group : (number byte more low p high rest : ℕ) → number ≡ byte + 256 * more → low ≡ byte + 256 * high → more ≡ high + p * rest → number ≡ low + 256 * p * rest
whole_group number byte more low p high rest e f g = rw (e, f, g) (omega arith)

part_group : (byte more p q : ℕ) → 256 ≡ p * q → byte + 256 * more ≡ byte + p * (q * more)
part_group byte more p q e = rw e (omega arith)

pub grouped-above : (g : ℕ) (bits rest : List ℕ) → length bits ≤ 8 * g → Above (le_number (grouped g bits ++ rest)) (bits_number bits) (length bits)
grouped-above zero [] rest h = record { rest = le_number rest; same = omega arith }
grouped-above zero (b ∷ bits) rest h = absurd (omega arith)
grouped-above (suc g) bits rest h = elim (cases_lt (length bits) 8) [
  | inl low ↦
      let all : take 8 bits ≡ bits = take_all 8 bits (omega arith) in
      let e : 8 ≡ length bits + (8 - length bits) = omega arith in
      let p : 256 ≡ 2 ^ length bits * 2 ^ (8 - length bits) = ap (λ k. 2 ^ k) e ∙ pow-add 2 (length bits) (8 - length bits) in
      record {
        rest = 2 ^ (8 - length bits) * le_number (grouped g (drop 8 bits) ++ rest);
        same = rw all (part_group (bits_number bits) (le_number (grouped g (drop 8 bits) ++ rest)) (2 ^ length bits) (2 ^ (8 - length bits)) p);
      }
  | inr high ↦
      let before = grouped-above g (drop 8 bits) rest (omega (arith, length-drop 8 bits)) in
      let size : length bits ≡ 8 + length (drop 8 bits) = omega (arith, length-drop 8 bits) in
      let p : 2 ^ length bits ≡ 256 * 2 ^ length (drop 8 bits) = ap (λ k. 2 ^ k) size ∙ pow-add 2 8 (length (drop 8 bits)) in
      record {
        rest = before.rest;
        same = rw p (whole_group (bits_number (take 8 bits) + 256 * le_number (grouped g (drop 8 bits) ++ rest)) (bits_number (take 8 bits)) (le_number (grouped g (drop 8 bits) ++ rest))
            (bits_number bits) (2 ^ length (drop 8 bits)) (bits_number (drop 8 bits)) before.rest refl (bits_number-split 8 bits high) before.same);
      }
]

lowest : (b low p rest : ℕ) → b < 2 → (b % 2 + 2 * low + p * 2 * rest) % 2 ≡ b
lowest b low p rest h = omega arith

others : (b low p rest : ℕ) → (b % 2 + 2 * low + p * 2 * rest) / 2 ≡ low + p * rest
others b low p rest = omega arith

unpacked : (bits : List ℕ) (m count : ℕ) → length bits ≤ count → ((i : ℕ) → slice_index bits i < 2)
    → packed 1 (length bits) (bits_number bits + 2 ^ length bits * m) count ≡ bits
unpacked [] m count h small = refl
unpacked (b ∷ bits) m count h small =
    let whole : bits_number (b ∷ bits) + 2 ^ suc (length bits) * m ≡ b % 2 + 2 * bits_number bits + 2 ^ length bits * 2 * m = rw (pow_more (length bits)) in
    let low : (b % 2 + 2 * bits_number bits + 2 ^ length bits * 2 * m) % 2 ≡ b = lowest b (bits_number bits) (2 ^ length bits) m (small 0) in
    let high : (b % 2 + 2 * bits_number bits + 2 ^ length bits * 2 * m) / 2 ≡ bits_number bits + 2 ^ length bits * m = others b (bits_number bits) (2 ^ length bits) m in
    ap (λ n. packed 1 (suc (length bits)) n count) whole
    ∙ packed_more 1 (suc (length bits)) (length bits) _ count refl (omega arith)
    ∙ rw (low, high) (ap (λ xs. b ∷ xs) (unpacked bits m (count - 1) (omega arith) (λ i. small (suc i))))

pub length-grouped : (g : ℕ) (bits : List ℕ) → length (grouped g bits) ≡ g
length-grouped zero bits = refl
length-grouped (suc g) bits = ap suc (length-grouped g (drop 8 bits))

no_header : header [] ≡ None
unfolding header
no_header = refl

first_run : (w n : ℕ) (bytes run : List ℕ) (h : ℕ) → header bytes ≡ Some (h, run) → length (take n (run_values w h run)) ≡ n → take n (hybrid w bytes) ≡ take n (run_values w h run)
first_run w n [] run h found enough = absurd (let e : None ≡ Some (h, run) = sym no_header ∙ found in cc)
first_run w n (b ∷ bytes) run h found enough =
    let fits : n ≤ length (run_values w h run) = omega (arith, length-take n (run_values w h run)) in
    rw found (take-append-le n (run_values w h run) (runs w (length bytes) (drop (run_size w h) run)) fits)

pub bits_read_back : BitsReadBack
bits_read_back bits rest short small =
    let n = length bits in
    let g = groups_of n in
    let body = bits_text bits ++ rest in
    let above = grouped-above g bits rest (omega arith) in
    let there : length body ≡ g + length rest = length-append (bits_text bits) rest ∙ ap (λ k. k + length rest) (length-grouped g bits) in
    let half : (2 * g + 1) / 2 ≡ g = omega arith in
    let odd : (2 * g + 1) % 2 ≢ 0 = λ e. omega arith in
    let enough : min n (8 * ((2 * g + 1) / 2)) ≡ n = omega arith in
    let values : take n (run_values 1 (2 * g + 1) body) ≡ bits =
    odd_run 1 (2 * g + 1) n body odd
    ∙ rw (enough, above.same) (unpacked bits above.rest (8 * length body) (omega arith) small) in
    let found : header (run_text bits ++ rest) ≡ Some (2 * g + 1, body) =
    ap header (append_assoc (header_text n) (bits_text bits) rest) ∙ header-back n body short in
    first_run 1 n (run_text bits ++ rest) body (2 * g + 1) found (ap length values) ∙ values

-- The loop of the writer.
pub grouped_turn : (vs more rest front behind : List ℕ) (m k byte : ℕ) → m ≡ suc k → more ≡ vs ++ byte ∷ [] → byte ≡ bits_number front
    → front ≡ take (min (length rest) 8) rest → behind ≡ drop (min (length rest) 8) rest → vs ++ grouped m rest ≡ more ++ grouped k behind
grouped_turn vs more rest front behind m k byte e pushed number first after =
    let turned : min (length rest) 8 ≡ min 8 (length rest) = omega arith in
    let low : byte ≡ bits_number (take 8 rest) = number ∙ ap bits_number (first ∙ ap (λ n. take n rest) turned ∙ take_min 8 rest) in
    let high : behind ≡ drop 8 rest = after ∙ ap (λ n. drop n rest) turned ∙ drop_min 8 rest in
    rw (e, pushed, low, high) (sym (append_assoc vs (bits_number (take 8 rest) ∷ []) (grouped k (drop 8 rest))))

-- Appending more keeps the bytes in front.
pub kept_more : (old vs more pushed : List ℕ) → take (length old) vs ≡ old → more ≡ vs ++ pushed → take (length old) more ≡ old
kept_more old vs more pushed kept e =
    let fits : length old ≤ length vs = omega (arith, ap length kept, length-take (length old) vs) in
    ap (take (length old)) e ∙ take-append-le (length old) vs pushed fits ∙ kept

-- The size of a run.
length-varint_text : (n number : ℕ) → length (varint_text n number) ≤ n
length-varint_text zero number = omega arith
length-varint_text (suc n) number = elim (cases_lt number 128) [
  | inl low ↦ rw (lt_true number 128 low) (omega arith)
  | inr high ↦ rw (lt_false number 128 high) (omega (arith, length-varint_text n (number / 128)))
]

pub length-run_text : (bits : List ℕ) → length (run_text bits) ≡ length (header_text (length bits)) + groups_of (length bits)
length-run_text bits = length-append (header_text (length bits)) (bits_text bits) ∙ ap (λ n. length (header_text (length bits)) + n) (length-grouped (groups_of (length bits)) bits)

pub length-run_text_small : (bits : List ℕ) → length (run_text bits) ≤ groups_of (length bits) + 5
unfolding header_text
length-run_text_small bits = rw (length-run_text bits) (omega (arith, length-varint_text 5 (2 * groups_of (length bits) + 1)))
