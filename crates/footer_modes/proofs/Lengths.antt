-- The lengths of the parts of a written tail.
use Rattle.std.proofs.Common.{◌≡◌, ℕ, ◌+◌, ◌||◌, nat_lt, List, ◌++◌, length, codes, ap, ◌∙◌, arith, append_assoc, Result, Ok, Err, OnOk, length-append}
use Rattle.std.specs.Int.{w32, to_le_bytes}
use Rattle.gcm_seal.specs.Gcm.{gctr}
use Rattle.gcm_seal.proofs.Texts.{length-tag_of}
use Rattle.module_aad.specs.Aad.{aad}
use Rattle.crypto_module.specs.Modules.{sealed_gcm}
use Rattle.crypto_module.proofs.Written.{sealed_length}
use Rattle.footer_modes.specs.Ends.{footer_place}
use Rattle.footer_modes.specs.Written.{is_too_large, footer_tag, encrypted_area, signed_area, encrypted_tail}

pub encrypted_area_length : (key file nonce crypto footer : List ℕ) → length nonce ≡ 12
    → length (encrypted_area key file nonce crypto footer) ≡ length crypto + (32 + length footer)
encrypted_area_length key file nonce crypto footer twelve =
    length-append crypto (sealed_gcm key (aad file footer_place) nonce footer)
    ∙ ap (λ n. length crypto + n) (sealed_length key (aad file footer_place) nonce footer twelve)

pub signed_area_length : (key file nonce footer : List ℕ) → length nonce ≡ 12
    → length (signed_area key file nonce footer) ≡ length footer + 28
signed_area_length key file nonce footer twelve =
    let tag = footer_tag key file nonce footer in
    let sixteen : length tag ≡ 16 = length-tag_of key nonce (aad file footer_place) (gctr key nonce 2 footer) in
    omega (arith, length-append footer (nonce ++ tag), length-append nonce tag)

-- an area is over the limit exactly if the sum of its parts is
pub too_large_encrypted : (key file nonce crypto footer : List ℕ) → length nonce ≡ 12
    → is_too_large footer (encrypted_area key file nonce crypto footer) ≡ (nat_lt 16777216 (length footer) || nat_lt 16842752 (length footer + (length crypto + 32)))
too_large_encrypted key file nonce crypto footer twelve =
    let size : length (encrypted_area key file nonce crypto footer) ≡ length footer + (length crypto + 32) =
    omega (arith, encrypted_area_length key file nonce crypto footer twelve) in
    ap (λ n. nat_lt 16777216 (length footer) || nat_lt 16842752 n) size

pub too_large_signed : (key file nonce footer : List ℕ) → length nonce ≡ 12
    → is_too_large footer (signed_area key file nonce footer) ≡ (nat_lt 16777216 (length footer) || nat_lt 16842752 (length footer + 28))
too_large_signed key file nonce footer twelve =
    ap (λ n. nat_lt 16777216 (length footer) || nat_lt 16842752 n) (signed_area_length key file nonce footer twelve)

-- an encrypted tail that was appended part by part
pub encrypted_tail_added : {E : Type 0} (result : Result Unit E) (key file nonce base crypto footer opened sealed counted whole : List ℕ) (count : ℕ) → length nonce ≡ 12
    → opened ≡ base ++ crypto → sealed ≡ encrypted_area key file nonce opened footer → count ≡ length crypto + 32 + length footer
    → counted ≡ sealed ++ to_le_bytes w32 count → OnOk result (whole ≡ counted ++ codes "PARE")
    → OnOk result (whole ≡ base ++ encrypted_tail key file nonce crypto footer)
encrypted_tail_added (Err refusal) key file nonce base crypto footer opened sealed counted whole count twelve first second size third last = tt
encrypted_tail_added (Ok tt) key file nonce base crypto footer opened sealed counted whole count twelve first second size third last =
    let part = sealed_gcm key (aad file footer_place) nonce footer in
    let area = encrypted_area key file nonce crypto footer in
    let long : count ≡ length area = omega (arith, size, encrypted_area_length key file nonce crypto footer twelve) in
    let sealed_is : sealed ≡ base ++ area = second ∙ ap (λ t. t ++ part) first ∙ append_assoc base crypto part in
    let counted_is : counted ≡ base ++ (area ++ to_le_bytes w32 (length area)) =
    third ∙ (λ i. sealed_is i ++ to_le_bytes w32 (long i)) ∙ append_assoc base area (to_le_bytes w32 (length area)) in
    last ∙ ap (λ t. t ++ codes "PARE") counted_is ∙ append_assoc base (area ++ to_le_bytes w32 (length area)) (codes "PARE")
    ∙ ap (λ t. base ++ t) (append_assoc area (to_le_bytes w32 (length area)) (codes "PARE"))
