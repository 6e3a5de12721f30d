-- Reading the end of a file: the ends of the file, the front of the footer area, the algorithm, the associated data, the
-- key, the footer's bytes with their tag, and the footer's fields and rules. The first refusal in this order ends it.
use Rattle.std.specs.List.{list_all}
use Rattle.std.specs.Prelude.{◌≡◌, ◌≤◌, ℕ, pos, ◌+◌, Bool, true, false, nat_lt, ◌==◌, ◌&&◌, if◌then◌else◌, List, [], ◌++◌, length, take, drop, Option, Some, None, Result, Ok, Err}
use Rattle.std.specs.Str.{bytes_eq}
use Rattle.pme_base.specs.declared.limits.TheConstants.{FOOTER_LIMIT, PREFIX_LIMIT}
use Rattle.pme_base.specs.declared.refusal.Cause.TheVariants.{BadTag, BadField, BadFooterLength, NotEncrypted, PrefixNeeded, PrefixUnused, PrefixDiffers, FooterKeyMissing, AlgorithmRefused, TooLarge, NoFile}
use Rattle.pme_base.specs.declared.refusal.Detail.TheVariants.{Nothing, Field, Tags, Hexes}
use Rattle.pme_base.specs.declared.refusal.StructName.TheVariants.{ColumnChunk}
use Rattle.pme_base.specs.declared.refusal.Cause.{Cause}
use Rattle.pme_base.specs.declared.refusal.Detail.{Detail}
use Rattle.pme_base.specs.declared.refusal.Refusal.{Refusal}
use Rattle.pme_base.specs.Refusals.{refusal_at, pair_refusal, plain_refusal}
use Rattle.pme_base.specs.Steps.{◌>>=◌}
use Rattle.gcm_seal.specs.Gcm.{gctr, tag_of}
use Rattle.module_aad.specs.Aad.{aad}
use Rattle.crypto_module.specs.Opening.{opened}
use Rattle.key_rights.specs.declared.finder.KeyAnswer.{KeyAnswer}
use Rattle.key_rights.specs.declared.finder.KeyAnswer.TheVariants.{Held, Absent, Refused}
use Rattle.key_rights.specs.Finding.{Asked, footer}
use Rattle.parquet_types.specs.declared.file_meta.AlgorithmMeta.{AlgorithmMeta}
use Rattle.parquet_types.specs.declared.file_meta.ChunkCrypto.{ChunkCrypto}
use Rattle.parquet_types.specs.declared.file_meta.ChunkCrypto.TheVariants.{Plain, FooterKey, ColumnKey}
use Rattle.parquet_types.specs.declared.file_meta.RowGroupMeta.{RowGroupMeta}
use Rattle.parquet_types.specs.declared.file_meta.FileCrypto.{FileCrypto}
use Rattle.parquet_types.specs.declared.file_meta.FileMeta.{FileMeta}
use Rattle.parquet_fields.specs.Calls.{file_crypto_at, signing_at, split_signing}
use Rattle.parquet_meta.specs.Footer.{file_meta_at}
use Rattle.footer_modes.specs.declared.head.Head.{Head}
use Rattle.footer_modes.specs.declared.head.AreaHead.{AreaHead}
use Rattle.footer_modes.specs.declared.head.AreaHead.TheVariants.{Protected, Bare}
use Rattle.footer_modes.specs.declared.mode.FooterMode.TheVariants.{Unencrypted}
use Rattle.footer_modes.specs.declared.mode.Magic.{Magic}
use Rattle.footer_modes.specs.declared.mode.Magic.TheVariants.{Pare, Par1}
use Rattle.footer_modes.specs.declared.tail.Tail.{Tail}
use Rattle.footer_modes.specs.declared.tail.Protection.{Protection}
use Rattle.footer_modes.specs.declared.tail.ReadOptions.{ReadOptions}
use Rattle.footer_modes.specs.Ends.{footer_place, magic_mode, ends_of, area_of}

-- the inputs of a reader: the answers of its key finder, a prefix of the associated data where it supplies one, whether it
-- accepts AES_GCM_V1 alone, and whether it accepts unencrypted files
pub record Asks : Type 0 where
  pub answer : Asked → KeyAnswer
  pub prefix : Option (List ℕ)
  pub gcm_only : Bool
  pub allow_plain : Bool

abbrev pub asks_of : (Asked → KeyAnswer) → Option (List ℕ) → Bool → Bool → Asks
asks_of answer prefix gcm_only allow_plain = record { answer = answer; prefix = prefix; gcm_only = gcm_only; allow_plain = allow_plain }

-- the inputs of a reader with these options
abbrev pub asks_with : (Asked → KeyAnswer) → Option (List ℕ) → ReadOptions → Asks
asks_with answer prefix options = asks_of answer prefix options.gcm_only options.allow_plain

-- a refusal of the footer as a whole
abbrev pub refused : {T : Type 0} → Cause → Detail → Result T Refusal
refused cause d = Err (refusal_at cause footer_place 0 d)

-- the front of the area of an encrypted footer: FileCryptoMetaData; the footer's module follows it
abbrev pub sealed_head : FileCrypto × ℕ → Head
sealed_head read = record { algorithm = read.0.algorithm; metadata = read.0.key_metadata; size = read.1 }

-- a footer in plain, in an area of `room` bytes whose length field stands at the offset `at`. Without an algorithm the file
-- is unencrypted; with one, a nonce of 12 bytes and a tag of 16 follow the footer to the end of the area
abbrev pub plain_head : Bool → ℕ → ℕ → Option AlgorithmMeta → Option (List ℕ) → ℕ → Result AreaHead Refusal
plain_head allow_plain at room None metadata size = if allow_plain then Ok (Bare size) else refused NotEncrypted Nothing
plain_head allow_plain at room (Some algorithm) metadata size =
    if room == size + 28 then Ok (Protected (record { algorithm = algorithm; metadata = metadata; size = size }))
    else Err (pair_refusal BadFooterLength footer_place at room (size + 28))

abbrev pub head_of : Bool → Magic → ℕ → List ℕ → Result AreaHead Refusal
head_of allow_plain Pare data_end area = do
  read ← file_crypto_at footer_place area
  Ok (Protected (sealed_head read))
head_of allow_plain Par1 data_end area = do
  read ← split_signing (signing_at footer_place area)
  plain_head allow_plain (data_end + length area) (length area) read.0 read.1 read.2

-- the footer lies within an area of `room` bytes, and a signature fills the rest of it
abbrev pub HeadFits : Magic → ℕ → AreaHead → Type 0
HeadFits Pare room (Protected head) = head.size ≤ room
HeadFits Pare room (Bare size) = ⊥
HeadFits Par1 room (Protected head) = head.size + 28 ≡ room
HeadFits Par1 room (Bare size) = size ≤ room

-- the reader accepts the algorithm
abbrev pub check_algorithm : Bool → AlgorithmMeta → Result Unit Refusal
check_algorithm gcm_only algorithm = if gcm_only && algorithm.ctr then refused AlgorithmRefused Nothing else Ok tt

-- a count is within its limit
abbrev pub within_limit : ℕ → ℕ → Result Unit Refusal
within_limit limit count = if nat_lt limit count then Err (pair_refusal TooLarge footer_place 0 count limit) else Ok tt

abbrev pub stored_within : Option (List ℕ) → Result Unit Refusal
stored_within None = Ok tt
stored_within (Some stored) = within_limit PREFIX_LIMIT (length stored)

-- a stored prefix that is supplied too
abbrev pub same_prefix : List ℕ → List ℕ → Result (List ℕ) Refusal
same_prefix stored supplied = if bytes_eq stored supplied then Ok stored else refused PrefixDiffers (Hexes stored supplied)

-- the prefix of the associated data: the one that the file stores, which a supplied one must equal; or the supplied one
-- exactly where the file asks for it; or none
abbrev pub prefix_of : Option (List ℕ) → Bool → Option (List ℕ) → Result (List ℕ) Refusal
prefix_of (Some stored) supply None = Ok stored
prefix_of (Some stored) supply (Some supplied) = same_prefix stored supplied
prefix_of None true None = refused PrefixNeeded Nothing
prefix_of None true (Some supplied) = Ok supplied
prefix_of None false None = Ok []
prefix_of None false (Some supplied) = refused PrefixUnused Nothing

-- the bytes with which the associated data of all modules of the file begin
abbrev pub aad_of : AlgorithmMeta → Option (List ℕ) → Result (List ℕ) Refusal
aad_of algorithm supplied = do
  _ ← stored_within algorithm.prefix
  _ ← within_limit 64 (length algorithm.unique)
  prefix ← prefix_of algorithm.prefix algorithm.supply supplied
  Ok (prefix ++ algorithm.unique)

abbrev pub key_of : KeyAnswer → Result (List ℕ) Refusal
key_of (Held key) = Ok key
key_of Absent = refused FooterKeyMissing Nothing
key_of (Refused cause d) = refused cause d

-- the tag of sealing these bytes
abbrev pub signature : List ℕ → List ℕ → List ℕ → List ℕ → List ℕ
signature key associated nonce plain = tag_of key nonce associated (gctr key nonce 2 plain)

-- these bytes, if the stored tag is the one expected; `at` is the offset of the nonce
abbrev pub checked : ℕ → List ℕ → List ℕ → List ℕ → Result (List ℕ) Refusal
checked at expected stored plain =
    if bytes_eq expected stored then Ok plain else Err (refusal_at BadTag footer_place at (Tags expected stored))

-- an area whose first `size` bytes are signed by the nonce and the tag that follow them
abbrev pub checked_area : List ℕ → List ℕ → ℕ → ℕ → List ℕ → Result (List ℕ) Refusal
checked_area key associated at size area =
    checked at (signature key associated (take 12 (drop size area)) (take size area)) (drop 12 (drop size area)) (take size area)

-- the footer's bytes: the plaintext of the module that fills the rest of the area, or the signed bytes themselves. The
-- first `size` bytes of the area come before the module or the nonce, which stands at the offset `at` of the file.
abbrev pub plain_of : Magic → List ℕ → List ℕ → ℕ → ℕ → List ℕ → Result (List ℕ) Refusal
plain_of Pare key file at size area = opened key (aad file footer_place) footer_place at FOOTER_LIMIT true (drop size area)
plain_of Par1 key file at size area = checked_area key (aad file footer_place) at size area

-- the bytes of FileCryptoMetaData; none in front of a signed footer
abbrev pub crypto_of : Magic → ℕ → List ℕ → List ℕ
crypto_of Pare size area = take size area
crypto_of Par1 size area = []

-- the footer at the front of its bytes
abbrev pub footer_of : List ℕ → Result FileMeta Refusal
footer_of plain = do
  read ← file_meta_at footer_place plain
  Ok read.0

abbrev pub protection_of : Head → List ℕ → List ℕ → List ℕ → Protection
protection_of head file key crypto = record { algorithm = head.algorithm; file_aad = file; footer_key = key; crypto_bytes = crypto }

abbrev pub protected_by : Magic → ℕ → Head → Protection → List ℕ → FileMeta → Tail
protected_by magic data_end head protection plain meta = record {
  mode = magic_mode magic;
  protection = Some protection;
  footer = meta;
  footer_bytes = plain;
  data_end = data_end;
  at = data_end + head.size;
}

-- the tail of an encrypted or signed footer
abbrev pub protected_tail : Asks → Magic → ℕ → List ℕ → Head → Result Tail Refusal
protected_tail asks magic data_end area head = do
  _ ← check_algorithm asks.gcm_only head.algorithm
  file ← aad_of head.algorithm asks.prefix
  key ← key_of (asks.answer (footer head.metadata))
  plain ← plain_of magic key file (data_end + head.size) head.size area
  meta ← footer_of plain
  Ok (protected_by magic data_end head (protection_of head file key (crypto_of magic head.size area)) plain meta)

-- an unencrypted file takes no prefix
abbrev pub unsupplied : Option (List ℕ) → Result Unit Refusal
unsupplied None = Ok tt
unsupplied (Some prefix) = refused PrefixUnused Nothing

abbrev pub is_plain : ChunkCrypto → Bool
is_plain Plain = true
is_plain FooterKey = false
is_plain (ColumnKey metadata) = false

abbrev pub are_plain : List RowGroupMeta → Bool
are_plain groups = list_all (λ group. list_all (λ chunk. is_plain chunk.crypto) group.chunks) groups

-- no column chunk of an unencrypted file is encrypted
abbrev pub unsealed : FileMeta → Result Unit Refusal
unsealed meta = if are_plain meta.groups then Ok tt else refused BadField (Field ColumnChunk (pos 8))

abbrev pub bare_by : ℕ → List ℕ → FileMeta → Tail
bare_by data_end plain meta = record { mode = Unencrypted; protection = None; footer = meta; footer_bytes = plain; data_end = data_end; at = data_end }

-- the tail whose unencrypted footer has these bytes
abbrev pub bare_tail : Option (List ℕ) → ℕ → List ℕ → Result Tail Refusal
bare_tail prefix data_end plain = do
  _ ← unsupplied prefix
  meta ← footer_of plain
  _ ← unsealed meta
  Ok (bare_by data_end plain meta)

abbrev pub tail_by : Asks → Magic → ℕ → List ℕ → AreaHead → Result Tail Refusal
tail_by asks magic data_end area (Protected head) = protected_tail asks magic data_end area head
tail_by asks magic data_end area (Bare size) = bare_tail asks.prefix data_end (take size area)

-- the tail by the footer area, which stands at the offset `data_end`
abbrev pub area_tail : Asks → Magic → ℕ → List ℕ → Result Tail Refusal
area_tail asks magic data_end area = do
  head ← head_of asks.allow_plain magic data_end area
  tail_by asks magic data_end area head

-- the tail of a file with these bytes
abbrev pub tail_of : Asks → List ℕ → Result Tail Refusal
tail_of asks bytes = do
  ends ← ends_of bytes
  area_tail asks ends.magic ends.data_end (area_of ends bytes)

-- the tail of a file, which may not exist
abbrev pub file_tail : Asks → Option (List ℕ) → Result Tail Refusal
file_tail asks None = Err (plain_refusal NoFile)
file_tail asks (Some bytes) = tail_of asks bytes

-- the metadata of the footer key alone, without the footer; an unencrypted file is refused
abbrev pub metadata_by : AreaHead → Option (List ℕ)
metadata_by (Protected head) = head.metadata
metadata_by (Bare size) = None

abbrev pub area_metadata : Magic → ℕ → List ℕ → Result (Option (List ℕ)) Refusal
area_metadata magic data_end area = do
  head ← head_of false magic data_end area
  Ok (metadata_by head)

abbrev pub metadata_of : List ℕ → Result (Option (List ℕ)) Refusal
metadata_of bytes = do
  ends ← ends_of bytes
  area_metadata ends.magic ends.data_end (area_of ends bytes)

abbrev pub file_key_metadata : Option (List ℕ) → Result (Option (List ℕ)) Refusal
file_key_metadata None = Err (plain_refusal NoFile)
file_key_metadata (Some bytes) = metadata_of bytes
