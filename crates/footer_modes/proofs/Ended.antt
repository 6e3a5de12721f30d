-- The ends of a file whose tail was written.
use Rattle.std.proofs.Common.{◌≡◌, ℕ, ◌+◌, ◌-◌, ◌≤◌, nat_lt, false, min, List, ◌++◌, length, take, drop, refl, sym, ap, ◌∙◌, arith, Ok, length-append, append_assoc}
use Rattle.std.proofs.lemmas.Bool.{le-ltb}
use Rattle.std.proofs.lemmas.Bool.Decides.{nat_tests}
use Rattle.std.proofs.lemmas.List.{take_at, drop_at, take_all, take-append-le, length-take}
use Rattle.std.proofs.lemmas.Nat.{from_le_bytes-to_le_bytes_4}
use Rattle.std.specs.Int.{w32, to_le_bytes, from_le_bytes}
use Rattle.pme_base.specs.Steps.{◌>>=◌}
use Rattle.pme_base.proofs.Chain.{bind_at}
use Rattle.footer_modes.specs.declared.ends.Ends.{Ends}
use Rattle.footer_modes.specs.declared.mode.Magic.{Magic}
use Rattle.footer_modes.specs.declared.mode.Magic.TheVariants.{Pare, Par1}
use Rattle.footer_modes.specs.Ends.{magic_bytes, known_magic, check_first_magic, area_at, ends_within, ends_of, area_of}
use Rattle.footer_modes.specs.Written.{closed}

magic_length : (magic : Magic) → length (magic_bytes magic) ≡ 4
magic_length Pare = refl
magic_length Par1 = refl

known_is : (magic : Magic) (at : ℕ) → known_magic at (magic_bytes magic) ≡ Ok magic
known_is Pare at = refl
known_is Par1 at = refl

begins_is : (magic : Magic) → check_first_magic magic (magic_bytes magic) ≡ Ok tt
begins_is Pare = refl
begins_is Par1 = refl

abbrev pub ends_with : Magic → ℕ → ℕ → Ends
ends_with magic data_end area = record { magic = magic; data_end = data_end; area = area }

area_is : (size : ℕ) (magic : Magic) (data_end count : ℕ) → size ≡ data_end + (count + 8) → 4 ≤ data_end → nat_lt 16842752 count ≡ false
    → area_at size magic count ≡ Ok (ends_with magic data_end count)
area_is size magic data_end count size_is room small =
    let inside : nat_lt (size - 12) count ≡ false = le-ltb _ _ (omega arith) in
    let start : size - 8 - count ≡ data_end = omega arith in
    rw inside (rw small (ap (λ n. Ok (ends_with magic n count)) start))

within_is : (magic : Magic) (size data_end count : ℕ) (front back : List ℕ) → front ≡ magic_bytes magic → drop 4 back ≡ magic_bytes magic
    → from_le_bytes w32 (take 4 back) ≡ count → size ≡ data_end + (count + 8) → 4 ≤ data_end → nat_lt 16842752 count ≡ false
    → ends_within size front back ≡ Ok (ends_with magic data_end count)
within_is magic size data_end count front back front_is magic_is count_is size_is room small =
    let rest = λ (m : Magic). check_first_magic m front >>= (λ _. area_at size m (from_le_bytes w32 (take 4 back))) in
    bind_at (known_magic (size - 4) (drop 4 back)) rest magic (ap (known_magic (size - 4)) magic_is ∙ known_is magic (size - 4))
    ∙ bind_at (check_first_magic magic front) (λ _. area_at size magic (from_le_bytes w32 (take 4 back))) tt (ap (check_first_magic magic) front_is ∙ begins_is magic)
    ∙ ap (area_at size magic) count_is
    ∙ area_is size magic data_end count size_is room small

pub ends_closed : (magic : Magic) (before area : List ℕ) → take 4 before ≡ magic_bytes magic → nat_lt 16842752 (length area) ≡ false
    → ends_of (before ++ closed magic area) ≡ Ok (ends_with magic (length before) (length area))
ends_closed magic before area first small =
    let count = length area in
    let field = to_le_bytes w32 count in
    let marks = magic_bytes magic in
    let back = field ++ marks in
    let bytes = before ++ (area ++ back) in
    let size = length bytes in
    let limit : count ≤ 16842752 = grind (arith, nat_tests) in
    let four : length field ≡ 4 = refl in
    let eight : length back ≡ 8 = omega (arith, length-append field marks, magic_length magic) in
    let least : length (take 4 before) ≡ min 4 (length before) = length-take 4 before in
    let firsts : length (take 4 before) ≡ 4 = ap length first ∙ magic_length magic in
    let room : 4 ≤ length before = omega arith in
    let size_is : size ≡ length before + (count + 8) = omega (arith, length-append before (area ++ back), length-append area back) in
    let front : take 4 bytes ≡ marks = take-append-le 4 before (area ++ back) room ∙ first in
    let start : length (before ++ area) ≡ size - 8 = omega (arith, length-append before area) in
    let behind : drop (size - 8) bytes ≡ back = ap (drop (size - 8)) (sym (append_assoc before area back)) ∙ drop_at (before ++ area) back (size - 8) start in
    let last : take 8 (drop (size - 8) bytes) ≡ back = ap (take 8) behind ∙ take_all 8 back (omega arith) in
    let magic_is : drop 4 back ≡ marks = drop_at field marks 4 four in
    let count_is : from_le_bytes w32 (take 4 back) ≡ count = ap (from_le_bytes w32) (take_at field marks 4 four) ∙ from_le_bytes-to_le_bytes_4 count (omega arith) in
    let long : nat_lt size 12 ≡ false = le-ltb _ _ (omega arith) in
    rw long (rw last (within_is magic size (length before) count (take 4 bytes) back front magic_is count_is size_is room small))

-- its footer area
pub area_closed : (magic : Magic) (before area : List ℕ) → area_of (ends_with magic (length before) (length area)) (before ++ closed magic area) ≡ area
area_closed magic before area =
    let back = to_le_bytes w32 (length area) ++ magic_bytes magic in
    ap (take (length area)) (drop_at before (area ++ back) (length before) refl) ∙ take_at area back (length area) refl
