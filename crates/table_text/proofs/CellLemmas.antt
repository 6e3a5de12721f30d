-- Lemmas about the sizes of the values in fields, and about hex and UTF-8.
use Rattle.std.proofs.Common.{zero, suc, Result, MatchResult, false, is_err, ap, sym, ◌≡◌, ◌==◌, ◌/◌, ℕ, ◌≤◌, Option, Some, None, Ok, Err, List, [], ◌∷◌, true, drop, length, get_or, refl, ◌∙◌, arith, rules, inl, inr}
use Rattle.std.proofs.lemmas.Bool.{and_parts, cases_Bool, eqb-true, ltb-true}
use Rattle.std.proofs.lemmas.List.{length-drop}
use Rattle.std.specs.List.{list_all, list_any}
use Rattle.std.specs.Char.{is_ascii, is_ascii_uppercase}
use Rattle.std.specs.Option.{option_and_then}
use Rattle.std.specs.Result.{result_ok}
use Rattle.std.specs.Str.{IsAscii, is_utf8}
use Rattle.std.proofs.lemmas.Str.{IsUtf8-from_ascii, is_utf8-from_IsUtf8}
use Rattle.hex.specs.Hex.{decode_of, decode_sized, encode_with}
use Rattle.hex.specs.declared.error.FromHexError.{FromHexError}
use Rattle.hex.proofs.HexLemmas.{decode_of-encode_lower, decode_of-ok}
use Rattle.parquet_types.specs.declared.column.ColumnKind.{ColumnKind}
use Rattle.parquet_types.specs.declared.column.ColumnKind.TheVariants.{Boolean, Int32, Int64, Int96, Float, Double, ByteArray, Fixed}
use Rattle.plain_pages.specs.Cells.{bytes}
use Rattle.plain_pages.specs.Columns.{IsValueOf}
use Rattle.table_text.specs.Cells.{IsOfSize, hex_read, of_size, hex_of_size_read, text_read}

ok_found : (r : Result (List ℕ) FromHexError) (xs : List ℕ) → result_ok r ≡ Some xs → r ≡ Ok xs
ok_found (Ok ys) xs e = let same : ys ≡ xs = cc e in rw same refl
ok_found (Err w) xs e = cc e

-- decoding hex into a buffer of half the length is the whole decoding
pub sized_whole : (field : List ℕ) → decode_sized field (length field / 2) ≡ decode_of field
sized_whole field = let same : (length field / 2 == length field / 2) ≡ true = grind arith in rw same refl

-- the contents of the buffer after a successful decoding
pub decoded : (r : Result (List ℕ) FromHexError) (answer : Result (Unit {0}) FromHexError) (after : List ℕ)
    → MatchResult r (λ xs. (answer ≡ Ok tt) × (after ≡ xs)) (λ e. answer ≡ Err e) → is_err answer ≡ false → result_ok r ≡ Some after
decoded (Ok xs) answer after m good = ap Some (sym m.1)
decoded (Err e) answer after m good = cc (rw m at good)

pub hex_size : (field xs : List ℕ) (n : ℕ) → hex_read field ≡ Some xs → length field ≤ n → length xs ≤ n
unfolding hex_read
hex_size field xs n e small = elim (cases_Bool (list_any is_ascii_uppercase field)) [
  | inl upper ↦ cc (rw upper at e)
  | inr lower ↦
      let size = (decode_of-ok field xs (ok_found (decode_of field) xs (rw lower at e))).2 in
      omega arith
]

-- an empty field is the hex of no bytes
pub hex_of_empty : (field : List ℕ) → (length field == 0) ≡ true → hex_read field ≡ Some field
unfolding hex_read encode_with
hex_of_empty [] e = rw (decode_of-encode_lower [] (search rules)) refl
hex_of_empty (b ∷ rest) e = absurd (omega (arith, eqb-true (length (b ∷ rest)) 0 e))

pub text_size : (field xs : List ℕ) (n : ℕ) → text_read field ≡ Some xs → length field ≤ n → length xs ≤ n
unfolding text_read
text_size field xs n e small = elim (cases_Bool (is_utf8 field)) [
  | inr other ↦ cc (rw other at e)
  | inl utf8 ↦ elim (cases_Bool (get_or field 0 0 == 92)) [
    | inr plain ↦ let same : field ≡ xs = cc (rw (utf8, plain) at e) in rw (← same) small
    | inl first ↦ elim (cases_Bool (get_or field 1 0 == 92)) [
      | inr alone ↦ cc (rw (utf8, first, alone) at e)
      | inl second ↦ let same : drop 1 field ≡ xs = cc (rw (utf8, first, second) at e) in rw (← same, length-drop 1 field) (omega arith)
    ]
  ]
]

of_size_is : (size : ℕ) (o : Option (List ℕ)) (xs : List ℕ) → option_and_then (of_size size) o ≡ Some xs → length xs ≡ size
of_size_is size None xs e = cc e
of_size_is size (Some ys) xs e = elim (cases_Bool (length ys == size)) [
  | inl same ↦ let whole : ys ≡ xs = cc (rw same at e) in rw (← whole) (eqb-true _ _ same)
  | inr other ↦ cc (rw other at e)
]

value_of_size : (kind : ColumnKind) (size : ℕ) (xs : List ℕ) → IsOfSize size kind → length xs ≡ size → IsValueOf kind (bytes xs)
value_of_size Boolean size xs h e = absurd h
value_of_size Int32 size xs h e = absurd h
value_of_size Int64 size xs h e = absurd h
value_of_size Int96 size xs h e = e ∙ h
value_of_size Float size xs h e = e ∙ h
value_of_size Double size xs h e = e ∙ h
value_of_size ByteArray size xs h e = absurd h
value_of_size (Fixed n) size xs h e = e ∙ h

pub sized_value : (kind : ColumnKind) (size : ℕ) (field xs : List ℕ) → IsOfSize size kind → hex_of_size_read size field ≡ Some xs → IsValueOf kind (bytes xs)
unfolding hex_of_size_read
sized_value kind size field xs h e = value_of_size kind size xs h (of_size_is size (hex_read field) xs e)

-- ---- text
all_ascii : (xs : List ℕ) → list_all is_ascii xs ≡ true → IsAscii xs
all_ascii [] e i = omega arith
all_ascii (x ∷ xs) e zero = ltb-true _ _ (and_parts _ _ e).0
all_ascii (x ∷ xs) e (suc i) = all_ascii xs (and_parts _ _ e).1 i

-- ASCII is UTF-8
pub ascii_text : (xs : List ℕ) → list_all is_ascii xs ≡ true → is_utf8 xs ≡ true
ascii_text xs e = is_utf8-from_IsUtf8 xs (IsUtf8-from_ascii xs (all_ascii xs e))
