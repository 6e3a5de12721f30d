-- A text is a prefix in hex if and only if it is an even number of 2 to 2,048 hex digits.
use Rattle.std.proofs.Common.{◌≡◌, ℕ, ◌*◌, ◌%◌, ◌==◌, ◌&&◌, Bool, true, false, nat_le, List, length, Option, Some, None, is_some, option_and_then, if◌then◌else◌, refl, sym, ap, ◌∙◌, arith}
use Rattle.std.specs.List.{list_all}
use Rattle.std.proofs.lemmas.Bool.{false≢true}
use Rattle.std.proofs.lemmas.Bool.Decides.{nat_tests}
use Rattle.std.proofs.lemmas.List.Sums.{AllPass-from_list_all, list_all-from_AllPass}
use Rattle.json_text.specs.Hex.{is_hex_digit}
use Rattle.json_text.specs.Codings.{bytes_of_hex}
use Rattle.json_text.proofs.Codes.{hex_digits, hex_twice}
use Rattle.key_material.specs.PolicyValues.{passing, is_prefix, is_prefix_text, prefix_of}

some_if : {T : Type 0} (test : Bool) (x : T) → is_some (if test then Some x else None) ≡ test
some_if true x = refl
some_if false x = refl

-- n bytes have twice as many digits
sizes : (n m : ℕ) → m ≡ 2 * n → (nat_le 2 m && nat_le m 2048 && (m % 2 == 0) && true) ≡ (nat_le 1 n && nat_le n 1024)
sizes n m twice = grind (arith, nat_tests)

-- a test that cannot be true is false
not_true : (b : Bool) → (b ≡ true → ⊥) → b ≡ false
not_true true never = absurd (never refl)
not_true false never = refl

last_false : (a : Bool) → (a && false) ≡ false
last_false true = refl
last_false false = refl

last_two : (a b c d : Bool) → (a && b && c && d) ≡ true → (c ≡ true) × (d ≡ true)
last_two a b true true all = (refl, refl)
last_two a b true false all = absurd (false≢true (sym (last_false (a && b && true)) ∙ all))
last_two a b false d all = absurd (false≢true (ap (λ t. t && d) (sym (last_false (a && b))) ∙ all))

with_bytes : (text : List ℕ) (bytes : Option (List ℕ)) → bytes_of_hex text ≡ bytes → is_prefix_text text ≡ is_some (option_and_then (passing is_prefix) bytes)
with_bytes text (Some bytes) is =
    let digits = (hex_digits text).0 (ap is_some is) in
    ap (λ d. nat_le 2 (length text) && nat_le (length text) 2048 && (length text % 2 == 0) && d) (list_all-from_AllPass is_hex_digit text digits.1)
    ∙ sizes (length bytes) (length text) (hex_twice text bytes is).0 ∙ sym (some_if (is_prefix bytes) bytes)
with_bytes text None is =
    not_true (is_prefix_text text) (λ all.
    let both = last_two (nat_le 2 (length text)) (nat_le (length text) 2048) (length text % 2 == 0) (list_all is_hex_digit text) all in
    let even : length text % 2 ≡ 0 = let e = both.0 in grind (arith, nat_tests) in
    false≢true (ap is_some (sym is) ∙ (hex_digits text).1 (even, AllPass-from_list_all is_hex_digit text both.1)))

pub prefix_texts : (text : List ℕ) → is_prefix_text text ≡ is_some (prefix_of text)
unfolding prefix_of
prefix_texts text = with_bytes text (bytes_of_hex text) refl
