-- The ends of a file determine its layout, and bytes of this layout have these ends.
use Rattle.std.proofs.Common.{◌≡◌, ℕ, zero, suc, lit<, ◌+◌, ◌-◌, ◌≤◌, Bool, true, false, if◌then◌else◌, nat_lt, List, [], ◌∷◌, ◌++◌, length, take, drop, refl, sym, ap, ◌∙◌, subst, arith, Ok, Err, length-append}
use Rattle.std.proofs.lemmas.Bool.{le-ltb}
use Rattle.std.proofs.lemmas.Bool.Decides.{nat_tests}
use Rattle.std.proofs.lemmas.List.{take-append-drop, drop-drop, take_all, take_at, drop_at, length-take, length-take-le, length-drop, take-append-le}
use Rattle.std.proofs.lemmas.Nat.{le_bytes_4, from_le_bytes-to_le_bytes_4}
use Rattle.std.proofs.lemmas.Slice.Eq.{bytes_eq-Decides}
use Rattle.std.specs.Int.{w32, from_le_bytes, to_le_bytes}
use Rattle.std.specs.Str.{bytes_eq}
use Rattle.pme_base.specs.declared.refusal.Refusal.{Refusal}
use Rattle.crypto_module.specs.Opening.{AreBytes}
use Rattle.pme_base.proofs.Chain.{bind_ok, bind_at, tested, passed, when_false, not_true}
use Rattle.crypto_module.proofs.Sealed.{below_take}
use Rattle.footer_modes.specs.declared.ends.Ends.{Ends}
use Rattle.footer_modes.specs.declared.mode.Magic.{Magic}
use Rattle.footer_modes.specs.declared.mode.Magic.TheVariants.{Pare, Par1}
use Rattle.footer_modes.specs.Ends.{magic_bytes, known_magic, check_first_magic, area_at, ends_within, ends_of, area_of}

abbrev back_of : List ℕ → List ℕ
back_of bytes = take 8 (drop (length bytes - 8) bytes)

pub record AreEnds (bytes : List ℕ) (ends : Ends) : Type 0 where
  pub front : take 4 bytes ≡ magic_bytes ends.magic
  pub last : drop 4 (take 8 (drop (length bytes - 8) bytes)) ≡ magic_bytes ends.magic
  pub counted : from_le_bytes w32 (take 4 (take 8 (drop (length bytes - 8) bytes))) ≡ ends.area
  pub inside : ends.data_end + ends.area + 8 ≡ length bytes
  pub least : 4 ≤ ends.data_end
  pub short : ends.area ≤ 16842752

magic_by : (b c : Bool) (r : Refusal) (magic : Magic) (P : Magic → Type 0) → (b ≡ true → P Pare) → (c ≡ true → P Par1)
    → (if b then Ok Pare else if c then Ok Par1 else Err r) ≡ Ok magic → P magic
magic_by true c r magic P p q e = let same : Pare ≡ magic = cc in subst P same (p refl)
magic_by false true r magic P p q e = let same : Par1 ≡ magic = cc in subst P same (q refl)
magic_by false false r magic P p q e = cc

magic_is : (at : ℕ) (marks : List ℕ) (magic : Magic) → known_magic at marks ≡ Ok magic → marks ≡ magic_bytes magic
magic_is at marks magic e =
    magic_by (bytes_eq marks (magic_bytes Pare)) (bytes_eq marks (magic_bytes Par1)) _ magic (λ m. marks ≡ magic_bytes m)
    (bytes_eq-Decides marks (magic_bytes Pare)).0 (bytes_eq-Decides marks (magic_bytes Par1)).0 e

begins_is : (magic : Magic) (front : List ℕ) (u : Unit) → check_first_magic magic front ≡ Ok u → front ≡ magic_bytes magic
begins_is magic front u e = (bytes_eq-Decides front (magic_bytes magic)).0 (tested (bytes_eq front (magic_bytes magic)) tt u _ e).0

-- an area that lies within the file
record IsArea (size : ℕ) (magic : Magic) (count : ℕ) (ends : Ends) : Type 0 where
  pub magic_is : ends.magic ≡ magic
  pub area_is : ends.area ≡ count
  pub inside : ends.data_end + ends.area + 8 ≡ size
  pub least : 4 ≤ ends.data_end
  pub short : ends.area ≤ 16842752

area_by : (size : ℕ) (magic : Magic) (count : ℕ) (ends : Ends) → 12 ≤ size → count ≤ size - 12 → count ≤ 16842752
    → record { magic = magic; data_end = size - 8 - count; area = count } ≡ ends → IsArea size magic count ends
area_by size magic count ends long fits short e =
    let place : size - 8 - count ≡ ends.data_end = ap (λ (x : Ends). x.data_end) e in
    let same : count ≡ ends.area = ap (λ (x : Ends). x.area) e in
    record {
      magic_is = sym (ap (λ (x : Ends). x.magic) e);
      area_is = sym same;
      inside = omega (arith, place, same);
      least = omega (arith, place, same);
      short = omega (arith, same);
    }

pub no_less : (a b : ℕ) → nat_lt a b ≡ false → b ≤ a
no_less a b e = grind (arith, nat_tests)

at_is : (size : ℕ) (magic : Magic) (count : ℕ) (ends : Ends) → 12 ≤ size → area_at size magic count ≡ Ok ends → IsArea size magic count ends
at_is size magic count ends long e =
    let (fits, next) = passed (nat_lt (size - 12) count) _ _ ends e in
    let (short, made) = passed (nat_lt 16842752 count) _ _ ends next in
    area_by size magic count ends long (no_less (size - 12) count fits) (no_less 16842752 count short) cc

pub ends_are : (bytes : List ℕ) (ends : Ends) → ends_of bytes ≡ Ok ends → AreEnds bytes ends
ends_are bytes ends e =
    let (long, within) = passed (nat_lt (length bytes) 12) _ _ ends e in
    let twelve : 12 ≤ length bytes = no_less (length bytes) 12 long in
    let (magic, by_last, after_mode) = bind_ok (known_magic (length bytes - 4) (drop 4 (back_of bytes))) _ ends within in
    let (u, by_first, after_first) = bind_ok (check_first_magic magic (take 4 bytes)) _ ends after_mode in
    let area = at_is (length bytes) magic (from_le_bytes w32 (take 4 (back_of bytes))) ends twelve after_first in
    let same : magic ≡ ends.magic = sym area.magic_is in
    record {
      front = begins_is magic (take 4 bytes) u by_first ∙ ap magic_bytes same;
      last = magic_is (length bytes - 4) (drop 4 (back_of bytes)) magic by_last ∙ ap magic_bytes same;
      counted = sym area.area_is;
      inside = area.inside;
      least = area.least;
      short = area.short;
    }

pub below_drop : (n : ℕ) (xs : List ℕ) → AreBytes xs → AreBytes (drop n xs)
below_drop zero xs h i = h i
below_drop (suc n) [] h i = lit< tt
below_drop (suc n) (x ∷ xs) h i = below_drop n xs (λ j. h (suc j)) i

pub area_length : (bytes : List ℕ) (ends : Ends) → AreEnds bytes ends → length (area_of ends bytes) ≡ ends.area
area_length bytes ends are =
    length-take-le ends.area (drop ends.data_end bytes) (omega (arith, are.inside, length-drop ends.data_end bytes))

-- the bytes of a file with these ends
pub ends_cut : (bytes : List ℕ) (ends : Ends) → AreBytes bytes → AreEnds bytes ends
    → bytes ≡ take ends.data_end bytes ++ (area_of ends bytes ++ (to_le_bytes w32 (length (area_of ends bytes)) ++ magic_bytes ends.magic))
ends_cut bytes ends each are =
    let back = drop (length bytes - 8) bytes in
    let eight : length back ≡ 8 = omega (arith, are.inside, length-drop (length bytes - 8) bytes) in
    let whole : take 8 back ≡ back = take_all 8 back (omega (arith, eight)) in
    let four : length (take 4 back) ≡ 4 = length-take-le 4 back (omega (arith, eight)) in
    let counted : from_le_bytes w32 (take 4 back) ≡ ends.area = ap (λ x. from_le_bytes w32 (take 4 x)) (sym whole) ∙ are.counted in
    let field : to_le_bytes w32 ends.area ≡ take 4 back = le_bytes_4 (take 4 back) ends.area four (below_take 4 back (below_drop (length bytes - 8) bytes each)) (sym counted) in
    let last : drop 4 back ≡ magic_bytes ends.magic = ap (drop 4) (sym whole) ∙ are.last in
    let back_is : back ≡ to_le_bytes w32 ends.area ++ magic_bytes ends.magic = sym (take-append-drop 4 back) ∙ (λ i. sym field i ++ last i) in
    let place : ends.data_end + ends.area ≡ length bytes - 8 = omega (arith, are.inside) in
    let rest : drop ends.area (drop ends.data_end bytes) ≡ back = drop-drop ends.area ends.data_end bytes ∙ ap (λ k. drop k bytes) place in
    let long = area_length bytes ends are in
    sym (take-append-drop ends.data_end bytes)
    ∙ ap (λ t. take ends.data_end bytes ++ t) (sym (take-append-drop ends.area (drop ends.data_end bytes))
    ∙ ap (λ t. area_of ends bytes ++ t) (rest ∙ back_is ∙ ap (λ k. to_le_bytes w32 k ++ magic_bytes ends.magic) (sym long)))

-- bytes of this layout have these ends
magic_length : (magic : Magic) → length (magic_bytes magic) ≡ 4
magic_length Pare = refl
magic_length Par1 = refl

magic_from : (at : ℕ) (magic : Magic) → known_magic at (magic_bytes magic) ≡ Ok magic
magic_from at Pare = refl
magic_from at Par1 = refl

begins_from : (magic : Magic) → check_first_magic magic (magic_bytes magic) ≡ Ok tt
begins_from Pare = refl
begins_from Par1 = refl

area_from : (size : ℕ) (magic : Magic) (data_end count : ℕ) → data_end + count + 8 ≡ size → 4 ≤ data_end → count ≤ 16842752
    → area_at size magic count ≡ Ok (record { magic = magic; data_end = data_end; area = count })
area_from size magic data_end count inside least short =
    let place : size - 8 - count ≡ data_end = omega (arith, inside) in
    when_false (nat_lt (size - 12) count) _ _ (not_true (le-ltb (size - 12) count (omega (arith, inside, least))))
    ∙ when_false (nat_lt 16842752 count) _ _ (not_true (le-ltb 16842752 count short))
    ∙ ap (λ (k : ℕ). Ok (record { magic = magic; data_end = k; area = count })) place

-- the parts of a file
pub record IsLaid (magic : Magic) (before area bytes : List ℕ) : Type 0 where
  pub layout : bytes ≡ before ++ (area ++ (to_le_bytes w32 (length area) ++ magic_bytes magic))
  pub begins_so : take 4 before ≡ magic_bytes magic
  pub short : length area ≤ 16842752

pub ends_from : (magic : Magic) (before area bytes : List ℕ) → IsLaid magic before area bytes
    → (ends_of bytes ≡ Ok (record { magic = magic; data_end = length before; area = length area }))
    × (take (length area) (drop (length before) bytes) ≡ area)
ends_from magic before area bytes laid =
    let back = to_le_bytes w32 (length area) ++ magic_bytes magic in
    let eight : length back ≡ 8 = length-append (to_le_bytes w32 (length area)) (magic_bytes magic) ∙ ap (λ k. 4 + k) (magic_length magic) in
    let long : length bytes ≡ length before + length area + 8 =
    omega (arith, ap length laid.layout, length-append before (area ++ back), length-append area back, eight) in
    let four : 4 ≤ length before = omega (arith, length-take 4 before, ap length laid.begins_so, magic_length magic) in
    let after_rows : drop (length before) bytes ≡ area ++ back = ap (drop (length before)) laid.layout ∙ drop_at before (area ++ back) (length before) refl in
    let after_area : drop (length before + length area) bytes ≡ back =
    sym (drop-drop (length area) (length before) bytes) ∙ ap (drop (length area)) after_rows ∙ drop_at area back (length area) refl in
    let place : length bytes - 8 ≡ length before + length area = omega (arith, long) in
    let back_is : back_of bytes ≡ back = ap (λ k. take 8 (drop k bytes)) place ∙ ap (take 8) after_area ∙ take_all 8 back (omega (arith, eight)) in
    let first : take 4 bytes ≡ magic_bytes magic = ap (take 4) laid.layout ∙ take-append-le 4 before (area ++ back) four ∙ laid.begins_so in
    let last : drop 4 (back_of bytes) ≡ magic_bytes magic = ap (drop 4) back_is ∙ drop_at (to_le_bytes w32 (length area)) (magic_bytes magic) 4 refl in
    let field : take 4 (back_of bytes) ≡ to_le_bytes w32 (length area) = ap (take 4) back_is ∙ take_at (to_le_bytes w32 (length area)) (magic_bytes magic) 4 refl in
    let counted : from_le_bytes w32 (take 4 (back_of bytes)) ≡ length area =
    ap (from_le_bytes w32) field ∙ from_le_bytes-to_le_bytes_4 (length area) (omega (arith, laid.short)) in
    let by_last : known_magic (length bytes - 4) (drop 4 (back_of bytes)) ≡ Ok magic = ap (known_magic (length bytes - 4)) last ∙ magic_from (length bytes - 4) magic in
    let by_first : check_first_magic magic (take 4 bytes) ≡ Ok tt = ap (check_first_magic magic) first ∙ begins_from magic in
    let at_end : area_at (length bytes) magic (from_le_bytes w32 (take 4 (back_of bytes))) ≡ Ok (record { magic = magic; data_end = length before; area = length area }) =
    ap (area_at (length bytes) magic) counted ∙ area_from (length bytes) magic (length before) (length area) (sym long) four laid.short in
    let within : ends_within (length bytes) (take 4 bytes) (back_of bytes) ≡ Ok (record { magic = magic; data_end = length before; area = length area }) =
    bind_at (known_magic (length bytes - 4) (drop 4 (back_of bytes))) _ magic by_last ∙ bind_at (check_first_magic magic (take 4 bytes)) _ tt by_first ∙ at_end in (
      when_false (nat_lt (length bytes) 12) _ _ (not_true (le-ltb (length bytes) 12 (omega (arith, long, four)))) ∙ within,
      ap (take (length area)) after_rows ∙ take_at area back (length area) refl,
    )
