-- Decimal integers in cells and type names. Each number has exactly one spelling.
use Rattle.std.specs.Prelude.{ℕ, ◌+◌, ◌-◌, ◌*◌, ◌^◌, nat_lt, ℤ, pos, neg_ℤ, Bool, not, ◌&&◌, ◌||◌, ◌==◌, if◌then◌else◌, List, drop, length, slice_index, Option, Some, None, option_map}
use Rattle.std.specs.List.{list_all}
use Rattle.std.specs.Char.{is_ascii_digit}
use Rattle.std.specs.Int.{Width}
use Rattle.std.specs.Str.Parse.{digits_value, signed_digits_value}
use lib.Signed.{mag}
use mir.Val.{hbits}

abbrev pub begins_with_zero : List ℕ → Bool
begins_with_zero digits = slice_index digits 0 == 48

-- the field isn't empty and has no leading zero, except `0` itself
abbrev pub front_is_plain : List ℕ → Bool
front_is_plain digits = not (length digits == 0) && (not (begins_with_zero digits) || (length digits == 1))

-- an unsigned decimal number without a leading zero
unfoldable pub is_plain : List ℕ → Bool
is_plain digits = list_all is_ascii_digit digits && front_is_plain digits

-- a signed decimal number: an unsigned one, or `-` and an unsigned one that doesn't begin with 0
unfoldable pub is_decimal : List ℕ → Bool
is_decimal field = if slice_index field 0 == 45 then not (begins_with_zero (drop 1 field)) && is_plain (drop 1 field) else is_plain field

-- whether a number fits in a signed type; `mag` of n and of -(n + 1) is n
abbrev pub fits : Width → ℤ → Bool
fits w number = nat_lt (mag number) (2 ^ hbits w)

abbrev pub when_fits : Width → ℤ → Option ℤ
when_fits w number = if fits w number then Some number else None

-- the number in a field, if it is valid and fits in a signed type
unfoldable pub number_read : Width → List ℕ → Option ℤ
number_read w field = if is_decimal field then when_fits w (signed_digits_value 10 field) else None

-- ---- steps of the parser
-- a number below 2^64
abbrev pub when_long : ℕ → Option ℕ
when_long n = if nat_lt n (2 ^ 64) then Some n else None

-- `value` with one more digit at the end, if the result is below 2^64
abbrev pub with_digit : ℕ → ℕ → Option ℕ
with_digit value digit = if is_ascii_digit digit then when_long (value * 10 + (digit - 48)) else None

-- the unsigned number in these digits, if it is valid and below 2^64
abbrev pub plain_read : List ℕ → Option ℕ
plain_read digits = if is_plain digits then when_long (digits_value 10 digits) else None

-- the signed number in a field, if it is valid and its absolute value is below 2^64
unfoldable pub decimal_read : List ℕ → Option ℤ
decimal_read field =
    if slice_index field 0 == 45
    then (if begins_with_zero (drop 1 field) then None else option_map (λ n. neg_ℤ (pos n)) (plain_read (drop 1 field)))
    else option_map (λ n. pos n) (plain_read field)
