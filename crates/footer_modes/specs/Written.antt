-- Writing the end of a file: the footer area, the area's length in four bytes, little-endian, and the magic.
use Rattle.std.specs.Prelude.{ℕ, Bool, nat_lt, ◌||◌, List, ◌++◌, length}
use Rattle.std.specs.Int.{w32, to_le_bytes}
use Rattle.pme_base.specs.declared.limits.TheConstants.{FOOTER_AREA_LIMIT, FOOTER_LIMIT}
use Rattle.gcm_seal.specs.Gcm.{seal}
use Rattle.module_aad.specs.Aad.{aad}
use Rattle.crypto_module.specs.Modules.{sealed_gcm}
use Rattle.footer_modes.specs.declared.mode.Magic.{Magic}
use Rattle.footer_modes.specs.declared.mode.Magic.TheVariants.{Pare, Par1}
use Rattle.footer_modes.specs.Ends.{footer_place, magic_bytes}

-- a footer area, its length and the last magic
abbrev pub closed : Magic → List ℕ → List ℕ
closed magic area = area ++ (to_le_bytes w32 (length area) ++ magic_bytes magic)

-- the tag of sealing the footer of a file with these associated data
abbrev pub footer_tag : List ℕ → List ℕ → List ℕ → List ℕ → List ℕ
footer_tag key file nonce footer = (seal key nonce (aad file footer_place) footer).1

-- an encrypted footer area: FileCryptoMetaData, and the footer as a module
abbrev pub encrypted_area : List ℕ → List ℕ → List ℕ → List ℕ → List ℕ → List ℕ
encrypted_area key file nonce crypto footer = crypto ++ sealed_gcm key (aad file footer_place) nonce footer

-- a signed footer area: the footer in plaintext, and its signature
abbrev pub signed_area : List ℕ → List ℕ → List ℕ → List ℕ → List ℕ
signed_area key file nonce footer = footer ++ (nonce ++ footer_tag key file nonce footer)

abbrev pub encrypted_tail : List ℕ → List ℕ → List ℕ → List ℕ → List ℕ → List ℕ
encrypted_tail key file nonce crypto footer = closed Pare (encrypted_area key file nonce crypto footer)

abbrev pub signed_tail : List ℕ → List ℕ → List ℕ → List ℕ → List ℕ
signed_tail key file nonce footer = closed Par1 (signed_area key file nonce footer)

-- whether a footer, or the area that holds it, is over its limit
abbrev pub is_too_large : List ℕ → List ℕ → Bool
is_too_large footer area = nat_lt FOOTER_LIMIT (length footer) || nat_lt FOOTER_AREA_LIMIT (length area)
