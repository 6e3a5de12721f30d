-- The first values of some runs.
use Rattle.std.proofs.Common.{◌≡◌, ◌≢◌, ℕ, zero, suc, ◌+◌, ◌-◌, ◌*◌, ◌/◌, ◌%◌, ◌^◌, ◌<◌, ◌≤◌, nat_le, true, false, Bool, min, List, [], ◌∷◌, ◌++◌, take, drop, replicate, length, None, Some, if◌then◌else◌, refl, sym, ap, ◌∙◌, arith, append_assoc, length-take, length-append, length-drop}
use Rattle.std.proofs.lemmas.List.{append-nil, take_all}
use Rattle.std.proofs.lemmas.Nat.{pow-add}
use Rattle.std.proofs.Math.Nat.{suc-min-suc}
use Rattle.hybrid_runs.specs.Hybrid.{packed, copies, value_size, le_number, header, run_values, run_size, runs}

le_true : (m n : ℕ) → m ≤ n → nat_le m n ≡ true
le_true m n h = grind arith

le_false : (m n : ℕ) → n < m → nat_le m n ≡ false
le_false m n h = grind arith

pub varint_room : (t : ℕ) → 0 < t → 2 ^ (7 * t) ≡ 2 ^ (7 * (t - 1)) * 128
varint_room t h = let e : 7 * t ≡ 7 * (t - 1) + 7 = omega arith in ap (λ k. 2 ^ k) e ∙ pow-add 2 (7 * (t - 1)) 7

-- One more value, if its bits are there.
pub packed_more : (w m k number bits : ℕ) → m ≡ suc k → w ≤ bits → packed w m number bits ≡ number % 2 ^ w ∷ packed w k (number / 2 ^ w) (bits - w)
packed_more w m k number bits e h = rw (e, le_true w bits h)

pub packed_none : (w m number bits : ℕ) → bits < w → packed w m number bits ≡ []
packed_none w zero number bits h = refl
packed_none w (suc m) number bits h = rw (le_false w bits h)

pub packed_turn : (vs more : List ℕ) (w m k number bits v next left : ℕ) → m ≡ suc k → w ≤ bits → v ≡ number % 2 ^ w → next ≡ number / 2 ^ w
    → left ≡ bits - w → more ≡ vs ++ v ∷ [] → vs ++ packed w m number bits ≡ more ++ packed w k next left
packed_turn vs more w m k number bits v next left e there value after fewer pushed =
    rw (packed_more w m k number bits e there, pushed, value, after, fewer)
    (sym (append_assoc vs (number % 2 ^ w ∷ []) (packed w k (number / 2 ^ w) (bits - w))))

min-zero : (m : ℕ) → min m 0 ≡ 0
min-zero m = omega arith

zero-min : (m : ℕ) → min 0 m ≡ 0
zero-min m = omega arith

take-if : (m : ℕ) (b : Bool) (x : ℕ) (xs ys : List ℕ) → take m xs ≡ ys → take (suc m) (if b then x ∷ xs else []) ≡ (if b then x ∷ ys else [])
take-if m true x xs ys e = ap (λ zs. x ∷ zs) e
take-if m false x xs ys e = refl

pub take-packed : (m w n number bits : ℕ) → take m (packed w n number bits) ≡ packed w (min m n) number bits
take-packed zero w n number bits = rw (zero-min n)
take-packed (suc m) w zero number bits = rw (min-zero (suc m))
take-packed (suc m) w (suc n) number bits =
    rw (suc-min-suc m n) (take-if m (nat_le w bits) (number % 2 ^ w) _ _ (take-packed m w n (number / 2 ^ w) (bits - w)))

take-replicate_min : (m n x : ℕ) → take m (replicate n x) ≡ replicate (min m n) x
take-replicate_min zero n x = rw (zero-min n)
take-replicate_min (suc m) zero x = rw (min-zero (suc m))
take-replicate_min (suc m) (suc n) x = rw (suc-min-suc m n) (ap (λ xs. x ∷ xs) (take-replicate_min m n x))

take-choice : (m : ℕ) (b : Bool) (xs ys : List ℕ) → take m xs ≡ ys → take m (if b then [] else xs) ≡ (if b then [] else ys)
take-choice zero true xs ys e = refl
take-choice (suc m) true xs ys e = refl
take-choice m false xs ys e = e

pub take-copies : (m w n : ℕ) (bytes : List ℕ) → take m (copies w n bytes) ≡ copies w (min m n) bytes
take-copies m w n bytes = take-choice m _ _ _ (take-replicate_min m n (le_number (take (value_size w) bytes)))

-- The first items of two lists joined.
pub take-append : (n : ℕ) (xs ys : List ℕ) → take n (xs ++ ys) ≡ take n xs ++ take (n - length xs) ys
take-append zero xs ys = let none : 0 - length xs ≡ 0 = omega arith in rw none
take-append (suc n) [] ys = let all : suc n - 0 ≡ suc n = omega arith in rw all
take-append (suc n) (x ∷ xs) ys =
    let same : suc n - suc (length xs) ≡ n - length xs = omega arith in
    rw same (ap (λ zs. x ∷ zs) (take-append n xs ys))

left_over : (count before all taken : ℕ) → before ≤ count → taken ≡ min (count - before) all → count - before - all ≡ count - (before + taken)
left_over count before all taken h e = omega arith

-- The invariant of the loop over runs: the answer is the values so far, followed by the first values of the remaining
-- runs.
pub record Reads (count w : ℕ) (answer vs rest : List ℕ) : Type 0 where
  pub within : length vs ≤ count
  pub turns : ℕ
  pub enough : length rest ≤ turns
  pub same : answer ≡ vs ++ take (count - length vs) (runs w turns rest)

joined : (count : ℕ) (vs more xs ys : List ℕ) → length vs ≤ count → more ≡ vs ++ take (count - length vs) xs
    → vs ++ take (count - length vs) (xs ++ ys) ≡ more ++ take (count - length more) ys
joined count vs more xs ys within e =
    let sizes : length more ≡ length vs + length (take (count - length vs) xs) = ap length e ∙ length-append vs (take (count - length vs) xs) in
    let over : count - length vs - length xs ≡ count - length more =
    left_over count (length vs) (length xs) (length (take (count - length vs) xs)) within (length-take (count - length vs) xs) ∙ ap (λ n. count - n) (sym sizes) in
    ap (λ zs. vs ++ zs) (take-append (count - length vs) xs ys)
    ∙ sym (append_assoc vs (take (count - length vs) xs) (take (count - length vs - length xs) ys))
    ∙ rw (over, ← e) refl

pub more_within : (count : ℕ) (vs more xs : List ℕ) → length vs ≤ count → more ≡ vs ++ take (count - length vs) xs → length more ≤ count
more_within count vs more xs within e =
    let sizes : length more ≡ length vs + length (take (count - length vs) xs) = ap length e ∙ length-append vs (take (count - length vs) xs) in
    omega (arith, length-take (count - length vs) xs)

pub run_turn : (count w h k : ℕ) (answer vs more rest run behind : List ℕ) → length vs ≤ count → length rest ≤ k
    → answer ≡ vs ++ take (count - length vs) (runs w k rest) → Some (h, run) ≡ header rest → length run < length rest
    → more ≡ vs ++ take (count - length vs) (run_values w h run) → behind ≡ drop (run_size w h) run
    → Reads count w answer more behind
run_turn count w h zero answer vs more rest run behind within enough same found shorter pushed after = absurd (omega arith)
run_turn count w h (suc k) answer vs more rest run behind within enough same found shorter pushed after = record {
  within = more_within count vs more (run_values w h run) within pushed;
  turns = k;
  enough = rw after (omega (arith, length-drop (run_size w h) run));
  same = (rw (← found) at same) ∙ rw after (joined count vs more (run_values w h run) (runs w k (drop (run_size w h) run)) within pushed);
}

no_run : (w k : ℕ) (rest : List ℕ) → None ≡ header rest → runs w k rest ≡ []
no_run w zero rest none = refl
no_run w (suc k) rest none = rw (← none)

pub reads_none : (count w : ℕ) (answer vs rest : List ℕ) → Reads count w answer vs rest → None ≡ header rest → vs ≡ answer
reads_none count w answer vs rest so none =
    let nothing : take (count - length vs) (runs w so.turns rest) ≡ [] = ap (take (count - length vs)) (no_run w so.turns rest none) ∙ take_all (count - length vs) [] (omega arith) ∙ refl in
    sym (so.same ∙ ap (λ xs. vs ++ xs) nothing ∙ append-nil vs)

pub reads_enough : (count w : ℕ) (answer vs rest : List ℕ) → Reads count w answer vs rest → count ≤ length vs → vs ≡ answer
reads_enough count w answer vs rest so enough =
    let nothing : count - length vs ≡ 0 = omega arith in
    sym (so.same ∙ rw nothing (append-nil vs))

-- The first values of a run, by the type that its header gives.
pub even_run : (w h m : ℕ) (bytes : List ℕ) → h % 2 ≡ 0 → take m (run_values w h bytes) ≡ copies w (min m (h / 2)) bytes
unfolding run_values
even_run w h m bytes e = rw e (take-copies m w (h / 2) bytes)

pub odd_run : (w h m : ℕ) (bytes : List ℕ) → h % 2 ≢ 0 → take m (run_values w h bytes) ≡ packed w (min m (8 * (h / 2))) (le_number bytes) (8 * length bytes)
unfolding run_values
odd_run w h m bytes ne = let odd : h % 2 ≡ 1 = omega arith in rw odd (take-packed m w (8 * (h / 2)) (le_number bytes) (8 * length bytes))
