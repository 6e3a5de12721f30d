-- The layout of the end of a file with its footer ("Parquet Modular Encryption", "Encrypted footer mode" and "Plaintext
-- footer mode"), as a relation between the bytes of the file and the tail that a reader has of them.
use Rattle.std.specs.Prelude.{◌≡◌, ◌↔◌, ℕ, ◌+◌, ◌≤◌, Bool, true, false, List, [], ◌++◌, length, take, drop, Option, Some, None, IfSome, IsSome, Ok}
use Rattle.std.specs.Int.{w32, to_le_bytes}
use Rattle.pme_base.specs.declared.limits.TheConstants.{FOOTER_AREA_LIMIT, FOOTER_LIMIT, PREFIX_LIMIT}
use Rattle.gcm_seal.specs.Gcm.{seal}
use Rattle.module_aad.specs.Aad.{aad}
use Rattle.crypto_module.specs.Modules.{IsGcm}
use Rattle.crypto_module.specs.Opening.{AreBytes}
use Rattle.key_rights.specs.declared.finder.KeyAnswer.TheVariants.{Held}
use Rattle.key_rights.specs.Finding.{footer}
use Rattle.parquet_types.specs.declared.file_meta.AlgorithmMeta.{AlgorithmMeta}
use Rattle.parquet_fields.specs.Calls.{file_crypto_at, signing_at}
use Rattle.parquet_meta.specs.Footer.{file_meta_at}
use Rattle.footer_modes.specs.declared.mode.FooterMode.{FooterMode}
use Rattle.footer_modes.specs.declared.mode.FooterMode.TheVariants.{Encrypted, Signed, Unencrypted}
use Rattle.footer_modes.specs.declared.mode.Magic.{Magic}
use Rattle.footer_modes.specs.declared.mode.Magic.TheVariants.{Pare, Par1}
use Rattle.footer_modes.specs.declared.tail.Tail.{Tail}
use Rattle.footer_modes.specs.declared.tail.Protection.{Protection}
use Rattle.footer_modes.specs.Ends.{footer_place, magic_bytes, magic_of}
use Rattle.footer_modes.specs.TailOf.{Asks, crypto_of, are_plain, tail_of}

-- the prefix of the associated data, by the prefix that the file stores, whether it asks for a supplied one, and what is supplied
abbrev pub IsPrefix : Option (List ℕ) → Bool → Option (List ℕ) → List ℕ → Type 0
IsPrefix (Some stored) supply None prefix = prefix ≡ stored
IsPrefix (Some stored) supply (Some supplied) prefix = (prefix ≡ stored) × (prefix ≡ supplied)
IsPrefix None true (Some supplied) prefix = prefix ≡ supplied
IsPrefix None true None prefix = ⊥
IsPrefix None false (Some supplied) prefix = ⊥
IsPrefix None false None prefix = prefix ≡ []

-- the file AAD by the file's algorithm and what the reader supplies
pub record IsFileAad (algorithm : AlgorithmMeta) (supplied : Option (List ℕ)) (file : List ℕ) : Type 0 where
  pub prefix : List ℕ
  pub prefix_is : IsPrefix algorithm.prefix algorithm.supply supplied prefix
  pub stored_short : IfSome algorithm.prefix (λ stored. length stored ≤ PREFIX_LIMIT)
  pub unique_short : length algorithm.unique ≤ 64
  pub joined : file ≡ prefix ++ algorithm.unique

-- what a footer is sealed or signed with: the key, the file AAD, the algorithm, and the metadata of the key
pub record Sealing : Type 0 where
  pub key : List ℕ
  pub file : List ℕ
  pub algorithm : AlgorithmMeta
  pub metadata : Option (List ℕ)

-- the area of an encrypted footer: `front` bytes that hold FileCryptoMetaData, and the footer's module
pub record IsSealedArea (s : Sealing) (plain : List ℕ) (front : ℕ) (area : List ℕ) : Type 0 where
  pub crypto : file_crypto_at footer_place area ≡ Ok (record { algorithm = s.algorithm; key_metadata = s.metadata }, front)
  pub sealed : IsGcm s.key (aad s.file footer_place) plain FOOTER_LIMIT (drop front area)

-- the area of a signed footer: its own bytes, a nonce, and the tag of sealing those bytes
pub record IsSignedArea (s : Sealing) (plain : List ℕ) (front : ℕ) (area : List ℕ) : Type 0 where
  pub nonce : List ℕ
  pub nonce_length : length nonce ≡ 12
  pub layout : area ≡ plain ++ (nonce ++ (seal s.key nonce (aad s.file footer_place) plain).1)
  pub front_is : front ≡ length plain
  pub signing : signing_at footer_place area ≡ Ok ((Some s.algorithm, s.metadata), front)

abbrev pub IsArea : Magic → Sealing → List ℕ → ℕ → List ℕ → Type 0
IsArea Pare s plain front area = IsSealedArea s plain front area
IsArea Par1 s plain front area = IsSignedArea s plain front area

abbrev pub sealing_of : Protection → Option (List ℕ) → Sealing
sealing_of protection metadata = record { key = protection.footer_key; file = protection.file_aad; algorithm = protection.algorithm; metadata = metadata }

-- the footer area of an encrypted or signed footer, and that the reader accepts its algorithm and has its prefix and key
pub record IsProtected (asks : Asks) (tail : Tail) (protection : Protection) (magic : Magic) (area : List ℕ) : Type 0 where
  pub metadata : Option (List ℕ)
  pub front : ℕ
  pub holds : IsArea magic (sealing_of protection metadata) tail.footer_bytes front area
  pub crypto_bytes : protection.crypto_bytes ≡ crypto_of magic front area
  pub at : tail.at ≡ tail.data_end + front
  pub taken : asks.gcm_only ≡ true → protection.algorithm.ctr ≡ false
  pub file_aad : IsFileAad protection.algorithm asks.prefix protection.file_aad
  pub key : asks.answer (footer metadata) ≡ Held protection.footer_key

-- the footer area of an unencrypted footer, whose struct names no algorithm: the struct's bytes, and any bytes after it. The
-- reader accepts unencrypted files and supplies no prefix
pub record IsBare (asks : Asks) (tail : Tail) (area : List ℕ) : Type 0 where
  pub metadata : Option (List ℕ)
  pub front : ℕ
  pub allowed : asks.allow_plain ≡ true
  pub unsupplied : asks.prefix ≡ None
  pub signing : signing_at footer_place area ≡ Ok ((None, metadata), front)
  pub footer_bytes : tail.footer_bytes ≡ take front area
  pub at : tail.at ≡ tail.data_end
  pub chunks : are_plain tail.footer.groups ≡ true

-- the footer area of each mode; only an unencrypted footer has no protection
abbrev pub IsFooterArea : Asks → Tail → FooterMode → Option Protection → List ℕ → Type 0
IsFooterArea asks tail Encrypted (Some protection) area = IsProtected asks tail protection Pare area
IsFooterArea asks tail Signed (Some protection) area = IsProtected asks tail protection Par1 area
IsFooterArea asks tail Unencrypted None area = IsBare asks tail area
IsFooterArea asks tail Encrypted None area = ⊥
IsFooterArea asks tail Signed None area = ⊥
IsFooterArea asks tail Unencrypted (Some protection) area = ⊥

-- a file of these bytes ends with this tail, and the reader accepts it
pub record IsTail (asks : Asks) (bytes : List ℕ) (tail : Tail) : Type 0 where
  -- the data and the footer area
  pub before : List ℕ
  pub area : List ℕ
  pub layout : bytes ≡ before ++ (area ++ (to_le_bytes w32 (length area) ++ magic_bytes (magic_of tail.mode)))
  pub begins : take 4 before ≡ magic_bytes (magic_of tail.mode)
  pub short : length area ≤ FOOTER_AREA_LIMIT
  pub data_end : tail.data_end ≡ length before
  -- the contents of the area
  pub holds : IsFooterArea asks tail tail.mode tail.protection area
  -- the footer at the front of its bytes
  pub size : ℕ
  pub footer : file_meta_at footer_place tail.footer_bytes ≡ Ok (tail.footer, size)

-- the tail that reading defines is laid out as the format says, and no other tail is
abbrev pub TailsAreLaidOut : Type 0
TailsAreLaidOut = (asks : Asks) (bytes : List ℕ) (tail : Tail) → AreBytes bytes → (tail_of asks bytes ≡ Ok tail) ↔ IsTail asks bytes tail

-- any bytes that end with a tail as the format lays it out are read as that tail
abbrev pub LaidTailsAreRead : Type 0
LaidTailsAreRead = (asks : Asks) (bytes : List ℕ) (tail : Tail) → IsTail asks bytes tail → tail_of asks bytes ≡ Ok tail

-- only an unencrypted footer has no protection, and only a reader with `allow_plain` is given one
pub record HasItsMode (asks : Asks) (tail : Tail) : Type 0 where
  pub exactly : (tail.protection ≡ None) ↔ (tail.mode ≡ Unencrypted)
  pub flagged : asks.allow_plain ≡ false → IsSome tail.protection

-- without `allow_plain` each tail is protected
abbrev pub UnencryptedNeedsFlag : Type 0
UnencryptedNeedsFlag = (asks : Asks) (bytes : List ℕ) (tail : Tail) → tail_of asks bytes ≡ Ok tail → asks.allow_plain ≡ false → IsSome tail.protection
