-- Steps of readings, and tests of numbers.
use Rattle.std.proofs.Common.{◌≡◌, ◌⊎◌, inl, inr, ℕ, ◌<◌, ◌≤◌, Bool, true, false, nat_lt, ◌==◌, if◌then◌else◌, List, [], ◌∷◌, refl, ap, arith, Result, Ok, Err}
use Rattle.std.proofs.lemmas.Bool.Decides.{nat_tests}
use Rattle.pme_base.specs.Steps.{◌>>=◌}
use Rattle.pme_base.proofs.Chain.{bind_ok, ok_same, err_same}
use Rattle.thrift_compact.specs.declared.cursor.Stop.{Stop}
use Rattle.thrift_compact.specs.declared.cursor.Stop.TheVariants as stops
use Rattle.thrift_compact.specs.Answers.{Fails, skipped}
use Rattle.thrift_compact.specs.Reading.{Fault, byte_at}

-- a bound result that is Ok comes from an Ok value of its first step
pub after_ok : {S T E : Type 0} (G : Type 0) (r : Result S E) (f : S → Result T E) (t : T) → (r >>= f) ≡ Ok t → ((s : S) → r ≡ Ok s → f s ≡ Ok t → G) → G
after_ok G r f t e more = let (s, was, after) = bind_ok r f t e in more s was after

pub one_refusal : {S E : Type 0} (r : Result S E) (x y : E) → r ≡ Err x → r ≡ Err y → y ≡ x
one_refusal r x y e f = cc

pub cond_err : {T E : Type 0} (b : Bool) (x : T) (y d : E) → (if b then Ok x else Err y) ≡ Err d → (b ≡ false) × (d ≡ y)
cond_err true x y d e = cc
cond_err false x y d e = (refl, cc)

-- a reading has one result
pub one_answer : {S E : Type 0} (r : Result S E) (x y : S) → r ≡ Ok x → r ≡ Ok y → x ≡ y
one_answer r x y e f = cc

pub below : (a b : ℕ) → a < b → nat_lt a b ≡ true
below a b h = grind (arith, nat_tests)

pub not_below : (a b : ℕ) → b ≤ a → nat_lt a b ≡ false
not_below a b h = grind (arith, nat_tests)

pub other : (a b : ℕ) → (a ≡ b → ⊥) → (a == b) ≡ false
other a b h = grind (arith, nat_tests)

-- the value of a choice is one of its branches
pub chosen : {X : Type 0} (b : Bool) (x y t : X) → (if b then x else y) ≡ t → ((b ≡ true) × (x ≡ t)) ⊎ ((b ≡ false) × (y ≡ t))
chosen true x y t e = inl (refl, e)
chosen false x y t e = inr (refl, e)

pub below_if : (a b : ℕ) → nat_lt a b ≡ true → a < b
below_if a b h = grind (arith, nat_tests)

pub not_below_if : (a b : ℕ) → nat_lt a b ≡ false → b ≤ a
not_below_if a b h = grind (arith, nat_tests)

pub equal_if : (a b : ℕ) → (a == b) ≡ true → a ≡ b
equal_if a b h = grind (arith, nat_tests)

pub other_if : (a b : ℕ) → (a == b) ≡ false → a ≡ b → ⊥
other_if a b h e = grind (arith, nat_tests)

-- if a part fails and the whole fails with it, a stop of the part is one of the whole
pub fails_on : {X Y : Type 0} (stop : Stop) (part : Result X Fault) (whole : Result Y Fault) → ((f : Fault) → part ≡ Err f → whole ≡ Err f) → Fails stop part → Fails stop whole
fails_on stops.Memory part whole leads fails = tt
fails_on (stops.Fault why left) part whole leads fails = leads (why, left) fails

-- a byte that was read is the first byte
pub byte_is : (bs : List ℕ) (b : ℕ) (rest : List ℕ) → byte_at bs ≡ Ok (b, rest) → bs ≡ b ∷ rest
byte_is [] b rest e = absurd cc
byte_is (x ∷ xs) b rest e =
    let same = ok_same (x, xs) (b, rest) e in
    let first : x ≡ b = ap (λ p. p.0) same in
    let others : xs ≡ rest = ap (λ p. p.1) same in
    cc

-- a value that was skipped can be read, and a fault of skipping is a fault of reading
pub skipped_ok : {X : Type 0} (read : Result (X × List ℕ) Fault) (rest : List ℕ) → skipped read ≡ Ok (tt, rest) → (x : X) × (read ≡ Ok (x, rest))
skipped_ok (Ok x) rest e =
    let same : x.1 ≡ rest = ap (λ p. p.1) (ok_same (tt, x.1) (tt, rest) e) in
    (x.0, ap (λ r. Ok (x.0, r)) same)
skipped_ok (Err f) rest e = absurd cc

pub skipped_err : {X : Type 0} (read : Result (X × List ℕ) Fault) (f : Fault) → skipped read ≡ Err f → read ≡ Err f
skipped_err (Ok x) f e = absurd cc
skipped_err (Err g) f e = ap (λ h. Err h) (err_same g f e)
