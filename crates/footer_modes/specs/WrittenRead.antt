-- Laws: a tail that was written is read back.
use Rattle.std.specs.Prelude.{◌≡◌, ℕ, ◌+◌, true, false, nat_lt, List, [], ◌++◌, length, take, Option, Some, None, Ok}
use Rattle.pme_base.specs.declared.limits.TheConstants.{FOOTER_AREA_LIMIT}
use Rattle.pme_base.specs.Steps.{◌>>=◌}
use Rattle.key_rights.specs.declared.finder.KeyAnswer.TheVariants.{Held}
use Rattle.key_rights.specs.Finding.{footer}
use Rattle.parquet_types.specs.declared.file_meta.AlgorithmMeta.{AlgorithmMeta}
use Rattle.parquet_types.specs.declared.file_meta.FileCrypto.{FileCrypto}
use Rattle.parquet_types.specs.declared.file_meta.FileMeta.{FileMeta}
use Rattle.parquet_fields.specs.Calls.{file_crypto_at, signing_at}
use Rattle.footer_modes.specs.declared.mode.Magic.{Magic}
use Rattle.footer_modes.specs.declared.mode.Magic.TheVariants.{Pare, Par1}
use Rattle.footer_modes.specs.declared.tail.Tail.{Tail}
use Rattle.footer_modes.specs.Ends.{footer_place, magic_bytes, magic_mode}
use Rattle.footer_modes.specs.TailOf.{Asks, check_algorithm, aad_of, footer_of, unsealed, bare_by, tail_of, metadata_of}
use Rattle.footer_modes.specs.Written.{closed, encrypted_area, signed_area, encrypted_tail, signed_tail, is_too_large}

-- a reader accepts the algorithm, forms these associated data for the file, and holds this key for the metadata
pub record CanOpen (asks : Asks) (algorithm : AlgorithmMeta) (metadata : Option (List ℕ)) (key file : List ℕ) : Type 0 where
  pub takes : check_algorithm asks.gcm_only algorithm ≡ Ok tt
  pub associated : aad_of algorithm asks.prefix ≡ Ok file
  pub holds : asks.answer (footer metadata) ≡ Held key

-- these bytes parse as FileCryptoMetaData, whatever follows them
abbrev pub IsCrypto : List ℕ → FileCrypto → Type 0
IsCrypto crypto head = (rest : List ℕ) → file_crypto_at footer_place (crypto ++ rest) ≡ Ok (head, length crypto)

-- these bytes parse as a footer with an algorithm, whatever follows them
abbrev pub IsSigning : List ℕ → AlgorithmMeta → Option (List ℕ) → Type 0
IsSigning plain algorithm metadata = (rest : List ℕ) → signing_at footer_place (plain ++ rest) ≡ Ok ((Some algorithm, metadata), length plain)

-- the tail of an encrypted or signed footer
abbrev pub tail_with : Magic → AlgorithmMeta → List ℕ → List ℕ → List ℕ → List ℕ → ℕ → ℕ → FileMeta → Tail
tail_with magic algorithm file key crypto plain data_end at meta = record {
  mode = magic_mode magic;
  protection = Some (record { algorithm = algorithm; file_aad = file; footer_key = key; crypto_bytes = crypto });
  footer = meta;
  footer_bytes = plain;
  data_end = data_end;
  at = at;
}

-- a file's bytes before its tail begin with this magic
abbrev pub Begins : Magic → List ℕ → Type 0
Begins magic before = take 4 before ≡ magic_bytes magic

-- an encrypted tail is read back, if the footer's bytes parse
abbrev pub EncryptedTailIsRead : Type 0
EncryptedTailIsRead =
    (asks : Asks) (key file nonce crypto plain before : List ℕ) (head : FileCrypto) → Begins Pare before → length nonce ≡ 12
    → is_too_large plain (encrypted_area key file nonce crypto plain) ≡ false → IsCrypto crypto head
    → CanOpen asks head.algorithm head.key_metadata key file
    → tail_of asks (before ++ encrypted_tail key file nonce crypto plain)
    ≡ (footer_of plain >>= λ meta. Ok (tail_with Pare head.algorithm file key crypto plain (length before) (length before + length crypto) meta))

-- a signed tail is read back, if the footer's bytes parse
abbrev pub SignedTailIsRead : Type 0
SignedTailIsRead =
    (asks : Asks) (key file nonce plain before : List ℕ) (algorithm : AlgorithmMeta) (metadata : Option (List ℕ)) → Begins Par1 before → length nonce ≡ 12
    → is_too_large plain (signed_area key file nonce plain) ≡ false → IsSigning plain algorithm metadata
    → CanOpen asks algorithm metadata key file
    → tail_of asks (before ++ signed_tail key file nonce plain)
    ≡ (footer_of plain >>= λ meta. Ok (tail_with Par1 algorithm file key [] plain (length before) (length before + length plain) meta))

-- an unencrypted footer is read, whatever bytes follow it in the area, by a reader who allows it and supplies no prefix
abbrev pub UnencryptedTailIsRead : Type 0
UnencryptedTailIsRead =
    (asks : Asks) (plain rest before : List ℕ) (metadata : Option (List ℕ)) → Begins Par1 before → nat_lt FOOTER_AREA_LIMIT (length (plain ++ rest)) ≡ false
    → signing_at footer_place (plain ++ rest) ≡ Ok ((None, metadata), length plain) → asks.allow_plain ≡ true → asks.prefix ≡ None
    → tail_of asks (before ++ closed Par1 (plain ++ rest))
    ≡ (footer_of plain >>= λ meta. unsealed meta >>= λ _. Ok (bare_by (length before) plain meta))

-- the metadata of the footer key is read without a key
abbrev pub EncryptedMetadataAreRead : Type 0
EncryptedMetadataAreRead =
    (key file nonce crypto plain before : List ℕ) (head : FileCrypto) → Begins Pare before → length nonce ≡ 12
    → is_too_large plain (encrypted_area key file nonce crypto plain) ≡ false → IsCrypto crypto head
    → metadata_of (before ++ encrypted_tail key file nonce crypto plain) ≡ Ok head.key_metadata

abbrev pub SignedMetadataAreRead : Type 0
SignedMetadataAreRead =
    (key file nonce plain before : List ℕ) (algorithm : AlgorithmMeta) (metadata : Option (List ℕ)) → Begins Par1 before → length nonce ≡ 12
    → is_too_large plain (signed_area key file nonce plain) ≡ false → IsSigning plain algorithm metadata
    → metadata_of (before ++ signed_tail key file nonce plain) ≡ Ok metadata

-- the lengths of footer areas
abbrev pub EncryptedAreaLength : Type 0
EncryptedAreaLength =
    (key file nonce crypto plain : List ℕ) → length nonce ≡ 12 → length (encrypted_area key file nonce crypto plain) ≡ length crypto + (32 + length plain)

abbrev pub SignedAreaLength : Type 0
SignedAreaLength = (key file nonce plain : List ℕ) → length nonce ≡ 12 → length (signed_area key file nonce plain) ≡ length plain + 28
