-- Lemmas about parsing a number digit by digit.
use Rattle.std.proofs.Common.{to_z, of_z, ◌≡◌, ◌==◌, ℕ, ◌+◌, ◌-◌, ◌*◌, ◌^◌, ◌<◌, ◌≤◌, true, false, ◌&&◌, inl, inr, List, [], ◌∷◌, length, get_or, take, Bool, Option, Some, None, ℤ, pos, neg_ℤ, refl, sym, ap, arith, rules, take_all, ◌∙◌}
use Rattle.std.proofs.Math.Bool.{and-false}
use Rattle.std.proofs.lemmas.Bool.{and_parts, and_from, cases_Bool, eqb-true, ltb-true, ltb-false, leb-true, lt-ltb, le-ltb}
use Rattle.std.proofs.lemmas.Int.{to_z-of_z}
use Rattle.std.proofs.lemmas.Int.Digits.{digits_value_more}
use Rattle.std.proofs.lemmas.List.Folds.{list_all_at, list_all_more}
use Rattle.std.proofs.lemmas.Str.{digit_value_digit}
use Rattle.std.proofs.lemmas.Str.Parse.{IsNumeralModel, numerals_by_value, digits_value-take-le}
use Rattle.std.specs.Prelude.{FitsSigned, nat_le, nat_lt, zero, suc, ◌⊎◌, Result, Ok, Err, drop, option_map}
use Rattle.std.specs.Result.{OkIff, result_ok}
use Rattle.std.specs.List.{list_all}
use Rattle.std.specs.Char.{digit_value, is_ascii_digit}
use Rattle.std.specs.Int.{Width}
use Rattle.std.specs.Str.Parse.{digits_value, without_leading_plus}
use Rattle.table_text.specs.Numbers.{begins_with_zero, decimal_read, fits, front_is_plain, is_decimal, is_plain, number_read, plain_read, when_fits, with_digit}
use mir.Val.{hbits}
use mir.Syntax.{w128}

pub digit_test : IsNumeralModel (λ ds. list_all is_ascii_digit ds ≡ true) (digits_value 10)
digit_test = numerals_by_value _ (search rules)

false_and : (a b : Bool) → a ≡ false → (a && b) ≡ false
false_and a b e = rw e refl

pub bad_front : (ds : List ℕ) → front_is_plain ds ≡ false → None ≡ plain_read ds
unfolding is_plain
bad_front ds bad = rw (bad, and-false (list_all is_ascii_digit ds)) refl

-- the value of a digit
digit_code : (d : ℕ) → is_ascii_digit d ≡ true → digit_value d ≡ d - 48
digit_code d digit =
    let range : (nat_le 48 d ≡ true) × (nat_le d 57 ≡ true) = and_parts _ _ digit in
    omega (arith, digit_value_digit d (leb-true _ _ range.0, leb-true _ _ range.1))

more_value : (ds : List ℕ) (i : ℕ) → i < length ds → is_ascii_digit (get_or ds i 0) ≡ true
    → digits_value 10 (take (i + 1) ds) ≡ digits_value 10 (take i ds) * 10 + (get_or ds i 0 - 48)
more_value ds i inside digit = digits_value_more 10 ds i inside ∙ ap (λ d. digits_value 10 (take i ds) * 10 + d) (digit_code _ digit)

-- if a digit overflows 64 bits or isn't a digit, the whole is not a number below 2^64
pub no_more : (ds : List ℕ) (i : ℕ) → i < length ds → with_digit (digits_value 10 (take i ds)) (get_or ds i 0) ≡ None → None ≡ plain_read ds
unfolding is_plain
no_more ds i inside refused = elim (cases_Bool (is_ascii_digit (get_or ds i 0))) [
  | inl digit ↦ elim (cases_Bool (nat_lt (digits_value 10 ds) (2 ^ 64))) [
    | inl small ↦
        let below : digits_value 10 ds < 2 ^ 64 = ltb-true _ _ small in
        let part : digits_value 10 (take (i + 1) ds) < 2 ^ 64 = omega (arith, below, digits_value-take-le 10 ds (i + 1) (omega arith)) in
        cc (rw (digit, lt-ltb _ _ (rw (more_value ds i inside digit) at part)) at refused)
    | inr large ↦ rw large (search rules)
  ]
  | inr other ↦ rw (false_and _ (front_is_plain ds) (list_all_at is_ascii_digit ds i 0 inside other)) refl
]

-- one step of the loop over the digits
pub one_more : (ds : List ℕ) (i next : ℕ) → i < length ds → with_digit (digits_value 10 (take i ds)) (get_or ds i 0) ≡ Some next
    → list_all is_ascii_digit (take i ds) ≡ true → (list_all is_ascii_digit (take (i + 1) ds) ≡ true) × (next ≡ digits_value 10 (take (i + 1) ds)) × (next < 2 ^ 64)
one_more ds i next inside added before = elim (cases_Bool (is_ascii_digit (get_or ds i 0))) [
  | inl digit ↦ elim (cases_Bool (nat_lt (digits_value 10 (take i ds) * 10 + (get_or ds i 0 - 48)) (2 ^ 64))) [
    | inl small ↦
        let same : digits_value 10 (take i ds) * 10 + (get_or ds i 0 - 48) ≡ next = cc (rw (digit, small) at added) in
        (list_all_more is_ascii_digit ds i 0 inside ∙ and_from _ _ before digit, sym same ∙ sym (more_value ds i inside digit), rw (← same) (ltb-true _ _ small))
    | inr large ↦ cc (rw (digit, large) at added)
  ]
  | inr other ↦ cc (rw other at added)
]

-- the whole loop
pub all_read : (ds : List ℕ) (n value : ℕ) → length ds ≤ n → front_is_plain ds ≡ true → list_all is_ascii_digit (take n ds) ≡ true
    → value ≡ digits_value 10 (take n ds) → value < 2 ^ 64 → Some value ≡ plain_read ds
unfolding is_plain
all_read ds n value whole front digits same small =
    let all = take_all n ds whole in
    rw (← (rw all at same), rw all at digits, front, lt-ltb _ _ small) refl

-- ---- signed numbers
plain_some : (ds : List ℕ) (m : ℕ) → plain_read ds ≡ Some m → (is_plain ds ≡ true) × (m ≡ digits_value 10 ds)
plain_some ds m e = elim (cases_Bool (is_plain ds)) [
  | inl plain ↦ elim (cases_Bool (nat_lt (digits_value 10 ds) (2 ^ 64))) [
    | inl small ↦ (plain, sym (cc (rw (plain, small) at e)))
    | inr large ↦ cc (rw (plain, large) at e)
  ]
  | inr other ↦ cc (rw other at e)
]

plain_none : (ds : List ℕ) → plain_read ds ≡ None → (is_plain ds ≡ false) ⊎ ((is_plain ds ≡ true) × (2 ^ 64 ≤ digits_value 10 ds))
plain_none ds e = elim (cases_Bool (is_plain ds)) [
  | inl plain ↦ elim (cases_Bool (nat_lt (digits_value 10 ds) (2 ^ 64))) [
    | inl small ↦ cc (rw (plain, small) at e)
    | inr large ↦ inr (plain, ltb-false _ _ large)
  ]
  | inr other ↦ inl other
]

digits-plain : (ds : List ℕ) → is_plain ds ≡ true → list_all is_ascii_digit ds ≡ true
unfolding is_plain
digits-plain ds plain = (and_parts _ _ plain).0

-- digits don't begin with `+`
no_plus : (ds : List ℕ) → is_plain ds ≡ true → (get_or ds 0 0 == 43) ≡ false
no_plus [] plain = refl
no_plus (d ∷ ds) plain = elim (cases_Bool (d == 43)) [
  | inl plus ↦
      let digit = (and_parts (is_ascii_digit d) (list_all is_ascii_digit ds) (digits-plain (d ∷ ds) plain)).0 in
      cc (rw (eqb-true d 43 plus) at digit)
  | inr other ↦ other
]

without_plus : (ds : List ℕ) → is_plain ds ≡ true → without_leading_plus ds ≡ ds
without_plus ds plain = rw (no_plus ds plain) refl

mapped_some : (f : ℕ → ℤ) (o : Option ℕ) (n : ℤ) → option_map f o ≡ Some n → (m : ℕ) × (o ≡ Some m) × (f m ≡ n)
mapped_some f None n e = cc e
mapped_some f (Some m) n e = (m, refl, cc e)

mapped_none : (f : ℕ → ℤ) (o : Option ℕ) → option_map f o ≡ None → o ≡ None
mapped_none f None e = refl
mapped_none f (Some m) e = cc e

too_long : (w : Width) (n : ℕ) → 2 ^ hbits w ≤ 2 ^ 63 → 2 ^ 64 ≤ n → (fits w (pos n) ≡ false) × (fits w (neg_ℤ (pos n)) ≡ false)
too_long w zero few large = absurd (omega arith)
too_long w (suc n) few large = (le-ltb (suc n) (2 ^ hbits w) (omega arith), le-ltb n (2 ^ hbits w) (omega arith))

-- a number that is parsed from a field is the number that the field stands for
number_some : (w : Width) (field : List ℕ) (n : ℤ) → decimal_read field ≡ Some n → number_read w field ≡ when_fits w n
unfolding number_read is_decimal decimal_read
number_some w field n e = elim (cases_Bool (get_or field 0 0 == 45)) [
  | inl minus ↦ elim (cases_Bool (begins_with_zero (drop 1 field))) [
    | inl nought ↦ cc (rw (minus, nought) at e)
    | inr more ↦
        let (m, read, same) = mapped_some (λ m. neg_ℤ (pos m)) (plain_read (drop 1 field)) n (rw (minus, more) at e) in
        let (plain, value) = plain_some (drop 1 field) m read in
        let spelled : number_read w field ≡ when_fits w (neg_ℤ (pos (digits_value 10 (drop 1 field)))) = rw (minus, more, plain) refl in
        spelled ∙ ap (when_fits w) (ap (λ (v : ℕ). neg_ℤ (pos v)) (sym value) ∙ same)
  ]
  | inr other ↦
      let (m, read, same) = mapped_some (λ m. pos m) (plain_read field) n (rw other at e) in
      let (plain, value) = plain_some field m read in
      let spelled : number_read w field ≡ when_fits w (pos (digits_value 10 field)) = rw (other, plain, without_plus field plain) refl in
      spelled ∙ ap (when_fits w) (ap (λ (v : ℕ). pos v) (sym value) ∙ same)
]

-- if no number is parsed, the field doesn't stand for a number of a type with 64 bits or fewer
pub number_none : (w : Width) (field : List ℕ) → 2 ^ hbits w ≤ 2 ^ 63 → decimal_read field ≡ None → None ≡ number_read w field
unfolding number_read is_decimal decimal_read
number_none w field few e = elim (cases_Bool (get_or field 0 0 == 45)) [
  | inl minus ↦ elim (cases_Bool (begins_with_zero (drop 1 field))) [
    | inl nought ↦ rw (minus, nought) refl
    | inr more ↦ elim (plain_none (drop 1 field) (mapped_none (λ m. neg_ℤ (pos m)) (plain_read (drop 1 field)) (rw (minus, more) at e))) [
      | inl odd ↦ rw (minus, more, odd) refl
      | inr long ↦ rw (minus, more, long.0, (too_long w _ few long.1).1) refl
    ]
  ]
  | inr other ↦ elim (plain_none field (mapped_none (λ m. pos m) (plain_read field) (rw other at e))) [
    | inl odd ↦ rw (other, odd) refl
    | inr long ↦ rw (other, long.0, without_plus field long.0, (too_long w _ few long.1).0) refl
  ]
]

when_number : {E : Type 0} (w : Width) (n : ℤ) (r : Result ℤ E) → OkIff r (FitsSigned w n) n → result_ok r ≡ when_fits w n
when_number w n (Ok m) h = rw (lt-ltb _ _ h.0.sfits, h.1) refl
when_number w n (Err e) h = elim (cases_Bool (fits w n)) [
  | inl small ↦ absurd (h (record { sfits = ltb-true _ _ small }))
  | inr large ↦ rw large refl
]

-- a parsed number, converted to the type
pub number_fits : {E : Type 0} (w : Width) (field : List ℕ) (n : ℤ) (r : Result ℤ E) → decimal_read field ≡ Some n → FitsSigned w128 n
    → OkIff r (FitsSigned w (to_z w128 (of_z w128 n))) (to_z w128 (of_z w128 n)) → result_ok r ≡ number_read w field
number_fits w field n r e long h = when_number w n r (rw (to_z-of_z w128 n long) at h) ∙ sym (number_some w field n e)
