-- Lemmas about decoding base64 and hex and encoding it again.
use Rattle.std.proofs.Common.{◌≡◌, ◌↔◌, ℕ, ◌+◌, ◌-◌, ◌*◌, ◌/◌, ◌%◌, ◌≤◌, true, List, ◌++◌, length, replicate, Option, Some, None, is_some, IsSome, IfSome, Result, Ok, Err, refl, ap, subst, sym, ◌∙◌, arith}
use Rattle.std.proofs.lemmas.List.{length-append, length-replicate}
use Rattle.std.proofs.lemmas.Str.{IsUtf8-from_ascii}
use Rattle.std.specs.Str.{IsUtf8}
use Rattle.std.specs.List.{AllPass}
use Rattle.std.specs.Result.{result_ok}
use Rattle.base64.specs.Engines.{standard}
use Rattle.base64.specs.GeneralPurpose as engine
use Rattle.base64.specs.Rfc4648.{encode_symbols, padding_len}
use Rattle.base64.proofs.EngineFacts.{decode_of-encode_of, decode_of_iff, decode_of_strict, IsAscii-encode_of}
use Rattle.base64.proofs.RoundTrip.{length-encode_symbols}
use Rattle.hex.specs.Hex.{IsBytes, is_hex_digit}
use Rattle.hex.specs.declared.error.FromHexError.{FromHexError}
use Rattle.hex.proofs.HexLemmas.{decode_of-encode_lower, decode_of-ok, decode_of-digits}
use Rattle.json_text.specs.Codings.{base64_text, bytes_of_base64, hex_text, bytes_of_hex}

ok_of : {T E : Type 0} (r : Result T E) (x : T) → result_ok r ≡ Some x → r ≡ Ok x
ok_of (Ok y) x is = cc is
ok_of (Err e) x is = cc is

pub base64_round_trips : (bytes : List ℕ) → IsBytes bytes → bytes_of_base64 (base64_text bytes) ≡ Some bytes
unfolding base64_text bytes_of_base64 engine.decoded_of
base64_round_trips bytes small = ap result_ok (decode_of-encode_of standard bytes refl small)

pub base64_exact : (text bytes : List ℕ) → IsBytes text → IsBytes bytes → (bytes_of_base64 text ≡ Some bytes) ↔ (text ≡ base64_text bytes)
unfolding base64_text bytes_of_base64 engine.decoded_of
base64_exact text bytes small_text small =
    let iff = decode_of_iff standard text bytes (refl, refl) small_text small in (
      λ decoded. iff.0 (ok_of _ bytes decoded),
      λ encoded. ap result_ok (iff.1 encoded),
    )

pub base64_utf8 : (bytes : List ℕ) → IsUtf8 (base64_text bytes)
unfolding base64_text
base64_utf8 bytes = IsUtf8-from_ascii _ (IsAscii-encode_of standard bytes)

four_for_three : (n : ℕ) → (4 * n + 2) / 3 + (3 - n % 3) % 3 ≡ 4 * ((n + 2) / 3)
four_for_three n = omega arith

pub base64_length : (bytes : List ℕ) → length (base64_text bytes) ≡ 4 * ((length bytes + 2) / 3)
unfolding base64_text
base64_length bytes =
    let symbols : List ℕ = encode_symbols standard.encode_table bytes in
    let padding : List ℕ = replicate (padding_len (length bytes)) standard.padding.value in
    let long : length (symbols ++ padding) ≡ length symbols + length padding = length-append symbols padding in
    let of_symbols : length symbols ≡ (4 * length bytes + 2) / 3 = length-encode_symbols standard.encode_table bytes in
    let of_padding : length padding ≡ (3 - length bytes % 3) % 3 = length-replicate (padding_len (length bytes)) standard.padding.value in
    let sum : length symbols + length padding ≡ 4 * ((length bytes + 2) / 3) = rw (of_symbols, of_padding) (four_for_three (length bytes)) in
    long ∙ sum

no_longer : (m n : ℕ) → m ≡ 4 * ((n + 2) / 3) → n ≤ m
no_longer m n is = omega arith

pub base64_shorter : (text bytes : List ℕ) → IsBytes text → bytes_of_base64 text ≡ Some bytes → length bytes ≤ length text
unfolding base64_text bytes_of_base64 engine.decoded_of
base64_shorter text bytes small is =
    let encoded = decode_of_strict standard text bytes (refl, refl) small (ok_of _ bytes is) in
    no_longer (length text) (length bytes) (ap length encoded ∙ base64_length bytes)

pub hex_round_trips : (bytes : List ℕ) → IsBytes bytes → bytes_of_hex (hex_text bytes) ≡ Some bytes
unfolding bytes_of_hex hex_text
hex_round_trips bytes small = ap result_ok (decode_of-encode_lower bytes small)

some_of : {T : Type 0} (o : Option T) → IsSome o → (x : T) × (o ≡ Some x)
some_of (Some x) some = (x, refl)
some_of None some = cc some

pub hex_digits : (text : List ℕ) → IsSome (bytes_of_hex text) ↔ ((length text % 2 ≡ 0) × AllPass is_hex_digit text)
unfolding bytes_of_hex
hex_digits text = (
  λ some.
      let found = some_of _ some in
      let ok = decode_of-ok text found.0 (ok_of _ found.0 found.1) in
      (ok.0, ok.1),
  λ digits.
      let found = decode_of-digits text digits.0 digits.1 in
      ap (λ (r : Result (List ℕ) FromHexError). is_some (result_ok r)) found.1,
)

pub hex_twice : (text bytes : List ℕ) → bytes_of_hex text ≡ Some bytes → (length text ≡ 2 * length bytes) × IsBytes bytes
unfolding bytes_of_hex
hex_twice text bytes is =
    let ok = decode_of-ok text bytes (ok_of _ bytes is) in
    (ok.2, ok.3)
