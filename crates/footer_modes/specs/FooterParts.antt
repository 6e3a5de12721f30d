-- The nonce, ciphertext and tag that a file stores for its footer: those of the footer's module, or of its signature.
use Rattle.std.specs.Prelude.{◌≡◌, ℕ, ◌+◌, ◌-◌, ◌≤◌, List, length, take, drop, Some, IfSome, Ok}
use Rattle.gcm_seal.specs.Gcm.{gctr, tag_of}
use Rattle.module_aad.specs.Aad.{aad}
use Rattle.crypto_module.specs.Modules.{nonce_of, cipher_of, stored_of}
use Rattle.footer_rules.specs.Shape.{IsShaped}
use Rattle.footer_modes.specs.declared.mode.Magic.{Magic}
use Rattle.footer_modes.specs.declared.mode.Magic.TheVariants.{Pare, Par1}
use Rattle.footer_modes.specs.declared.tail.Tail.{Tail}
use Rattle.footer_modes.specs.declared.tail.Protection.{Protection}
use Rattle.footer_modes.specs.Ends.{footer_place, magic_of}
use Rattle.footer_modes.specs.TailOf.{Asks, footer_of, tail_of}

-- a nonce, a ciphertext, the stored tag, and the offset of the module's length field or of a signature's nonce
pub record FooterParts : Type 0 where
  pub nonce : List ℕ
  pub ciphertext : List ℕ
  pub tag : List ℕ
  pub at : ℕ

-- the bytes of a file from the footer's module, or its signature, to the end of the footer area, which the area's length
-- and the last magic follow
abbrev pub module_of : Tail → List ℕ → List ℕ
module_of tail bytes = take (length bytes - 8 - tail.at) (drop tail.at bytes)

-- the bytes that a signed footer signs
abbrev pub signed_bytes : Tail → List ℕ → List ℕ
signed_bytes tail bytes = take (tail.at - tail.data_end) (drop tail.data_end bytes)

-- the parts of an encrypted footer are those of its module; the parts of a signed footer are its signature, and the ciphertext
-- that sealing its bytes gives
abbrev pub parts_by : Magic → Tail → Protection → List ℕ → FooterParts
parts_by Pare tail protection bytes = record {
  nonce = nonce_of (module_of tail bytes);
  ciphertext = cipher_of (module_of tail bytes);
  tag = stored_of (module_of tail bytes);
  at = tail.at;
}
parts_by Par1 tail protection bytes = record {
  nonce = take 12 (module_of tail bytes);
  ciphertext = gctr protection.footer_key (take 12 (module_of tail bytes)) 2 (signed_bytes tail bytes);
  tag = drop 12 (module_of tail bytes);
  at = tail.at;
}

-- the parts of an encrypted or signed footer
abbrev pub footer_parts : Tail → Protection → List ℕ → FooterParts
footer_parts tail protection bytes = parts_by (magic_of tail.mode) tail protection bytes

-- the plaintext of a footer's parts
abbrev pub parts_plain : Protection → FooterParts → List ℕ
parts_plain protection parts = gctr protection.footer_key parts.nonce 2 parts.ciphertext

-- the stored tag is the tag of the other parts under the footer key and the associated data of the footer, their plaintext is the
-- footer's bytes, and the footer is parsed from these
pub record FixFooter (tail : Tail) (protection : Protection) (parts : FooterParts) : Type 0 where
  pub nonce_length : length parts.nonce ≡ 12
  pub tag_length : length parts.tag ≡ 16
  pub tag : tag_of protection.footer_key parts.nonce (aad protection.file_aad footer_place) parts.ciphertext ≡ parts.tag
  pub plain : parts_plain protection parts ≡ tail.footer_bytes
  pub footer : footer_of (parts_plain protection parts) ≡ Ok tail.footer

-- the parts of a tail that was read determine its footer, for any bytes of the file
abbrev pub PartsFixFooters : Type 0
PartsFixFooters =
    (asks : Asks) (bytes : List ℕ) (tail : Tail) (protection : Protection) → tail_of asks bytes ≡ Ok tail → tail.protection ≡ Some protection
    → FixFooter tail protection (footer_parts tail protection bytes)

-- the footer area, and in it the footer's module or signature of at least 28 bytes, lies between the data and the last eight bytes
pub record IsPlaced (tail : Tail) (bytes : List ℕ) : Type 0 where
  pub behind_data : tail.data_end ≤ tail.at
  pub area : tail.data_end + 8 ≤ length bytes
  pub inside : IfSome tail.protection (λ protection. tail.at + 28 + 8 ≤ length bytes)

abbrev pub TailsArePlaced : Type 0
TailsArePlaced = (asks : Asks) (bytes : List ℕ) (tail : Tail) → tail_of asks bytes ≡ Ok tail → IsPlaced tail bytes

-- the footer of a tail that was read has the shape that the rules demand
abbrev pub ReadTailsAreShaped : Type 0
ReadTailsAreShaped = (asks : Asks) (bytes : List ℕ) (tail : Tail) → tail_of asks bytes ≡ Ok tail → IsShaped tail.footer
