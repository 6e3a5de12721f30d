-- The numbers in bytes, and bits held in front of bytes.
use Rattle.std.proofs.Common.{◌≡◌, ℕ, zero, suc, ◌+◌, ◌-◌, ◌*◌, ◌/◌, ◌%◌, ◌^◌, ◌<◌, ◌≤◌, List, [], ◌∷◌, take, drop, length, bit_and, sym, ap, ◌∙◌, arith}
use Rattle.std.proofs.lemmas.Nat.{pow-add, pow_pos, shl_whole, shr_below, shr_high, mod_low, and_mask, one_shl, mul-add-lt}
use Rattle.hybrid_runs.specs.Hybrid.{le_number}

onto_byte : (x n a p q m : ℕ) → n ≡ a + p * m → q ≡ p * 256 → x + 256 * n ≡ x + 256 * a + q * m
onto_byte x n a p q m h e = rw (h, e) (omega arith)

pub le_number-split : (s : ℕ) (xs : List ℕ) → s ≤ length xs → le_number xs ≡ le_number (take s xs) + 2 ^ (8 * s) * le_number (drop s xs)
le_number-split zero xs h = omega arith
le_number-split (suc s) [] h = absurd (omega arith)
le_number-split (suc s) (x ∷ xs) h =
    let e : 8 * suc s ≡ 8 * s + 8 = omega arith in
    let p : 2 ^ (8 * suc s) ≡ 2 ^ (8 * s) * 256 = ap (λ k. 2 ^ k) e ∙ pow-add 2 (8 * s) 8 in
    onto_byte x (le_number xs) (le_number (take s xs)) (2 ^ (8 * s)) (2 ^ (8 * suc s)) (le_number (drop s xs)) (le_number-split s xs (omega arith)) p

-- Held bits with more bits put above them.
pub shifted : (v s c : ℕ) → v < 2 ^ (8 * s) → 8 * s + c ≤ 64 → v * 2 ^ c % 2 ^ 64 ≡ v * 2 ^ c
shifted v s c h fits = shl_whole v (8 * s) c 64 h fits

pub held_fits : (h v s c : ℕ) → h < 2 ^ c → v < 2 ^ (8 * s) → h + v * 2 ^ c < 2 ^ (c + 8 * s)
held_fits h v s c low high =
    let e : h + v * 2 ^ c ≡ v * 2 ^ c + h = omega arith in
    rw (e, pow-add 2 c (8 * s)) (mul-add-lt v (2 ^ c) h (2 ^ (8 * s)) high low)

three : (h v m p q : ℕ) → h + v * p + p * q * m ≡ h + p * (v + q * m)
three h v m p q = omega arith

pub number_in-more : (h v s c m : ℕ) → h + v * 2 ^ c + 2 ^ (c + 8 * s) * m ≡ h + 2 ^ c * (v + 2 ^ (8 * s) * m)
number_in-more h v s c m = rw (pow-add 2 c (8 * s)) (three h v m (2 ^ c) (2 ^ (8 * s)))

-- Held bits without their lowest ones.
split_held : (c w : ℕ) → w ≤ c → 2 ^ c ≡ 2 ^ (c - w) * 2 ^ w
split_held c w h = let e : c ≡ c - w + w = omega arith in ap (λ k. 2 ^ k) e ∙ pow-add 2 (c - w) w

low_part : (h p w m : ℕ) → h + p * 2 ^ w * m ≡ p * m * 2 ^ w + h
low_part h p w m = omega arith

regrouped : (h c w m : ℕ) → w ≤ c → h + 2 ^ c * m ≡ (h / 2 ^ w + 2 ^ (c - w) * m) * 2 ^ w + h % 2 ^ w
regrouped h c w m l = rw (split_held c w l) (omega (arith, pow_pos w))

pub low_bits : (h c w m : ℕ) → w ≤ c → w < 64 → bit_and h (1 * 2 ^ w % 2 ^ 64 - 1) ≡ (h + 2 ^ c * m) % 2 ^ w
low_bits h c w m l small =
    let below : h % 2 ^ w < 2 ^ w = omega (arith, pow_pos w) in
    rw (one_shl w 64 small) (and_mask h w)
    ∙ sym (mod_low (h / 2 ^ w + 2 ^ (c - w) * m) w (h % 2 ^ w) below)
    ∙ ap (λ n. n % 2 ^ w) (sym (regrouped h c w m l))

pub high_bits : (h c w m : ℕ) → w ≤ c → h / 2 ^ w + 2 ^ (c - w) * m ≡ (h + 2 ^ c * m) / 2 ^ w
high_bits h c w m l =
    let below : h % 2 ^ w < 2 ^ w = omega (arith, pow_pos w) in
    sym (shr_high (h / 2 ^ w + 2 ^ (c - w) * m) w (h % 2 ^ w) below) ∙ ap (λ n. n / 2 ^ w) (sym (regrouped h c w m l))

pub high_fits : (h c w : ℕ) → w ≤ c → h < 2 ^ c → h / 2 ^ w < 2 ^ (c - w)
high_fits h c w l low = let e : c ≡ c - w + w = omega arith in shr_below h (c - w) w (rw (← e) low)
