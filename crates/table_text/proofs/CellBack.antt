-- The text of a cell is read back as the same cell.
use Rattle.std.proofs.Common.{◌≡◌, ◌==◌, ℕ, zero, suc, ◌^◌, ◌<◌, ◌≤◌, ◌/◌, ◌%◌, Bool, true, false, not, ◌||◌, ◌⊎◌, inl, inr, List, [], ◌∷◌, length, get_or, Some, ℤ, pos, negsuc, neg_ℤ, refl, ap, arith}
use Rattle.std.proofs.lemmas.Bool.{and_from, cases_Bool, eq-eqb, eqb-true, lt-ltb, ne_eqb}
use Rattle.std.proofs.lemmas.Fmt.{decimal_digit, decimal_is_IsNumeral, first_decimal}
use Rattle.std.proofs.lemmas.Str.{IsUtf8-append, IsUtf8-from_ascii, IsUtf8-from_is_utf8, is_utf8-from_IsUtf8}
use Rattle.std.proofs.lemmas.Str.Parse.{digit_from_value}
use Rattle.std.specs.Prelude.{FitsSigned, if◌then◌else◌, codes}
use Rattle.std.specs.Char.{is_ascii_uppercase}
use Rattle.std.specs.Fmt.{decimal, signed_decimal}
use Rattle.std.specs.Int.{Width, w32, w64}
use Rattle.std.specs.List.{list_any}
use Rattle.std.specs.Str.{IsAscii, bytes_eq, is_utf8}
use Rattle.std.specs.Str.Parse.{AllDigits, signed_digits_value}
use Rattle.hex.specs.Hex.{IsBytes, encode_lower, encode_with, lower_digits}
use Rattle.hex.proofs.HexLemmas.{decode_of-encode_lower}
use Rattle.parquet_types.specs.declared.column.ColumnKind.{ColumnKind}
use Rattle.parquet_types.specs.declared.column.ColumnKind.TheVariants.{Boolean, Int32, Int64, Int96, Float, Double, ByteArray, Fixed}
use Rattle.parquet_types.specs.declared.column.ColumnSpec.{ColumnSpec}
use Rattle.plain_pages.specs.Cells.{Cell, null, bool, int32, int64, bytes}
use Rattle.plain_pages.specs.Columns.{IsCellOf, IsValueOf}
use Rattle.table_text.specs.Cells.{cell_read, hex_read, null_text, hex_of_size_read, text_read, truth_read, value_of_kind}
use Rattle.table_text.specs.Numbers.{begins_with_zero, is_decimal, is_plain, number_read}
use Rattle.table_text.specs.ReadingBack.{AreSpelled, IsSpelled}
use Rattle.table_text.specs.Texts.{bytes_text, cell_text, escaped}
use Rattle.table_text.proofs.Numerals.{digit_test}
use lib.Signed.{mag}
use mir.Val.{hbits}

or_false : (a b : Bool) → (a || b) ≡ false → (a ≡ false) × (b ≡ false)
or_false true b e = cc e
or_false false b e = (refl, e)

-- an item of a list fails a test that no item passes
none_at : (p : ℕ → Bool) (xs : List ℕ) (i : ℕ) → list_any p xs ≡ false → p 0 ≡ false → p (get_or xs i 0) ≡ false
none_at p [] i none past = past
none_at p (x ∷ xs) zero none past = (or_false (p x) (list_any p xs) none).0
none_at p (x ∷ xs) (suc i) none past = none_at p xs i (or_false (p x) (list_any p xs) none).1 past

-- ---- numbers
first_digit : (ds : List ℕ) → AllDigits 10 ds → 0 < length ds → (48 ≤ get_or ds 0 0) × (get_or ds 0 0 ≤ 57)
first_digit [] d some = absurd (omega arith)
first_digit (c ∷ cs) d some = (omega (arith, digit_from_value c d.0), omega (arith, digit_from_value c d.0))

no_zero : (n : ℕ) → n < 2 ^ 64 → (not (begins_with_zero (decimal n)) || (length (decimal n) == 1)) ≡ true
no_zero zero small = rw (decimal_digit 0 (omega arith)) refl
no_zero (suc n) small =
    let first = first_decimal (suc n) (omega arith) small in
    rw (ne_eqb (get_or (decimal (suc n)) 0 0) 48 (λ z. omega (arith, first, z))) refl

pub plain_decimal : (n : ℕ) → n < 2 ^ 64 → is_plain (decimal n) ≡ true
unfolding is_plain
plain_decimal n small =
    let numeral = (decimal_is_IsNumeral n small).0 in
    let some : not (length (decimal n) == 0) ≡ true = rw (ne_eqb (length (decimal n)) 0 (λ z. omega (arith, numeral.0, z))) refl in
    and_from _ _ (digit_test.from (decimal n) numeral.1) (and_from _ _ some (no_zero n small))

decimal_first : (n c : ℕ) → n < 2 ^ 64 → (c < 48) ⊎ (57 < c) → (get_or (decimal n) 0 0 == c) ≡ false
decimal_first n c small outside =
    let numeral = (decimal_is_IsNumeral n small).0 in
    let first = first_digit (decimal n) numeral.1 numeral.0 in
    ne_eqb (get_or (decimal n) 0 0) c (λ z. elim outside [ inl below ↦ omega (arith, first.0, z, below) | inr above ↦ omega (arith, first.1, z, above) ])

decimal_back : (n : ℤ) → mag n < 2 ^ 63 → is_decimal (signed_decimal n) ≡ true
unfolding is_decimal
decimal_back (pos n) small = rw (decimal_first n 45 (omega arith) (inl (omega arith))) (plain_decimal n (omega arith))
decimal_back (negsuc n) small =
    let first = first_decimal (suc n) (omega arith) (omega arith) in
    rw (ne_eqb (get_or (decimal (suc n)) 0 0) 48 (λ z. omega (arith, first, z))) (plain_decimal (suc n) (omega arith))

value_back : (n : ℤ) → mag n < 2 ^ 63 → signed_digits_value 10 (signed_decimal n) ≡ n
value_back (pos n) small =
    rw (decimal_first n 45 (omega arith) (inl (omega arith)), decimal_first n 43 (omega arith) (inl (omega arith)))
    (ap pos (decimal_is_IsNumeral n (omega arith)).1)
value_back (negsuc n) small = ap (λ (m : ℕ). neg_ℤ (pos m)) (decimal_is_IsNumeral (suc n) (omega arith)).1

number_back : (w : Width) (n : ℤ) → FitsSigned w n → mag n < 2 ^ 63 → number_read w (signed_decimal n) ≡ Some n
unfolding number_read
number_back w n fits small = rw (decimal_back n small, value_back n small, lt-ltb (mag n) (2 ^ hbits w) fits.sfits) refl

-- ---- texts other than `\N`
not_null : (xs : List ℕ) → (get_or xs 0 0 == 92) ≡ false → bytes_eq xs null_text ≡ false
not_null [] e = refl
not_null (x ∷ xs) e = rw e refl

number_not_null : (n : ℤ) → mag n < 2 ^ 63 → bytes_eq (signed_decimal n) null_text ≡ false
number_not_null (pos n) small = not_null (decimal n) (decimal_first n 92 (omega arith) (inr (omega arith)))
number_not_null (negsuc n) small = refl

-- ---- hex
no_digit : (p : ℕ → Bool) (xs : List ℕ) → list_any p lower_digits ≡ false → p 0 ≡ false → list_any p (encode_lower xs) ≡ false
unfolding encode_with
no_digit p [] none past = refl
no_digit p (b ∷ rest) none past =
    rw (none_at p lower_digits (b / 16) none past, none_at p lower_digits (b % 16) none past) (no_digit p rest none past)

hex_back : (xs : List ℕ) → IsBytes xs → hex_read (encode_lower xs) ≡ Some xs
unfolding hex_read
hex_back xs h = rw (no_digit is_ascii_uppercase xs refl refl, decode_of-encode_lower xs h) refl

hex_not_null : (xs : List ℕ) → bytes_eq (encode_lower xs) null_text ≡ false
hex_not_null xs = not_null (encode_lower xs) (none_at (λ (c : ℕ). c == 92) (encode_lower xs) 0 (no_digit (λ (c : ℕ). c == 92) xs refl refl) refl)

sized_back : (size : ℕ) (xs : List ℕ) → length xs ≡ size → IsBytes xs → hex_of_size_read size (encode_lower xs) ≡ Some xs
unfolding hex_of_size_read
sized_back size xs same h = rw (hex_back xs h, eq-eqb (length xs) size same) refl

-- ---- text
backslash_ascii : IsAscii (92 ∷ [])
backslash_ascii zero = omega arith
backslash_ascii (suc i) = omega arith

utf8_more : (xs : List ℕ) → is_utf8 xs ≡ true → is_utf8 (92 ∷ xs) ≡ true
utf8_more xs text =
    is_utf8-from_IsUtf8 (92 ∷ xs) (IsUtf8-append (92 ∷ []) xs (IsUtf8-from_ascii (92 ∷ []) backslash_ascii) (IsUtf8-from_is_utf8 xs text))

text_back : (xs : List ℕ) → is_utf8 xs ≡ true → text_read (escaped xs) ≡ Some xs
unfolding text_read
text_back [] text = rw text refl
text_back (b ∷ rest) text = elim (cases_Bool (b == 92)) [
  | inl slash ↦ rw (slash, utf8_more (b ∷ rest) text, slash) refl
  | inr other ↦ rw (other, text, other) refl
]

text_not_null : (xs : List ℕ) → bytes_eq (escaped xs) null_text ≡ false
text_not_null [] = refl
text_not_null (b ∷ rest) = elim (cases_Bool (b == 92)) [
  | inl slash ↦ rw (slash, eqb-true b 92 slash) refl
  | inr other ↦ rw (other, other) refl
]

-- ---- values by their type
bytes_back : (kind : ColumnKind) (text : Bool) (xs : List ℕ) → IsValueOf kind (bytes xs) → AreSpelled kind text xs
    → (value_of_kind kind text (bytes_text kind text xs) ≡ Some (bytes xs)) × (bytes_eq (bytes_text kind text xs) null_text ≡ false)
bytes_back Boolean text xs h s = absurd h
bytes_back Int32 text xs h s = absurd h
bytes_back Int64 text xs h s = absurd h
bytes_back Int96 text xs h s = (rw (sized_back 12 xs h s) refl, hex_not_null xs)
bytes_back Float text xs h s = (rw (sized_back 4 xs h s) refl, hex_not_null xs)
bytes_back Double text xs h s = (rw (sized_back 8 xs h s) refl, hex_not_null xs)
bytes_back ByteArray true xs h s = (rw (text_back xs s) refl, text_not_null xs)
bytes_back ByteArray false xs h s = (rw (hex_back xs s) refl, hex_not_null xs)
bytes_back (Fixed n) text xs h s = (rw (sized_back n xs h s) refl, hex_not_null xs)

truth_back : (kind : ColumnKind) (text b : Bool) → IsValueOf kind (bool b) → value_of_kind kind text (if b then codes "true" else codes "false") ≡ Some (bool b)
unfolding truth_read
truth_back Boolean text true h = refl
truth_back Boolean text false h = refl
truth_back Int32 text b h = absurd h
truth_back Int64 text b h = absurd h
truth_back Int96 text b h = absurd h
truth_back Float text b h = absurd h
truth_back Double text b h = absurd h
truth_back ByteArray text b h = absurd h
truth_back (Fixed n) text b h = absurd h

truth_not_null : (b : Bool) → bytes_eq (if b then codes "true" else codes "false") null_text ≡ false
truth_not_null true = refl
truth_not_null false = refl

int32_back : (kind : ColumnKind) (text : Bool) (n : ℤ) → IsValueOf kind (int32 n)
    → (value_of_kind kind text (signed_decimal n) ≡ Some (int32 n)) × (bytes_eq (signed_decimal n) null_text ≡ false)
int32_back Boolean text n h = absurd h
int32_back Int32 text n h = (rw (number_back w32 n h (omega (arith, h.sfits))) refl, number_not_null n (omega (arith, h.sfits)))
int32_back Int64 text n h = absurd h
int32_back Int96 text n h = absurd h
int32_back Float text n h = absurd h
int32_back Double text n h = absurd h
int32_back ByteArray text n h = absurd h
int32_back (Fixed m) text n h = absurd h

int64_back : (kind : ColumnKind) (text : Bool) (n : ℤ) → IsValueOf kind (int64 n)
    → (value_of_kind kind text (signed_decimal n) ≡ Some (int64 n)) × (bytes_eq (signed_decimal n) null_text ≡ false)
int64_back Boolean text n h = absurd h
int64_back Int32 text n h = absurd h
int64_back Int64 text n h = (rw (number_back w64 n h (omega (arith, h.sfits))) refl, number_not_null n (omega (arith, h.sfits)))
int64_back Int96 text n h = absurd h
int64_back Float text n h = absurd h
int64_back Double text n h = absurd h
int64_back ByteArray text n h = absurd h
int64_back (Fixed m) text n h = absurd h

pub cell_back : (spec : ColumnSpec) (cell : Cell) → IsCellOf spec cell → IsSpelled spec cell → cell_read spec (cell_text spec cell) ≡ Some cell
unfolding cell_read
cell_back spec null h s = rw h refl
cell_back spec (bool b) h s = rw (truth_not_null b) (truth_back spec.kind spec.text b h)
cell_back spec (int32 n) h s = let back = int32_back spec.kind spec.text n h in rw back.1 back.0
cell_back spec (int64 n) h s = let back = int64_back spec.kind spec.text n h in rw back.1 back.0
cell_back spec (bytes xs) h s = let back = bytes_back spec.kind spec.text xs h s in rw back.1 back.0
