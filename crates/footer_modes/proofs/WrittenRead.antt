-- A tail that was written is read back.
use Rattle.std.proofs.Common.{◌≡◌, ℕ, ◌+◌, ◌≤◌, nat_lt, ◌==◌, Bool, false, true, List, [], ◌++◌, length, take, drop, refl, sym, ap, ◌∙◌, arith, Option, Some, None, Ok}
use Rattle.std.proofs.lemmas.Bool.Decides.{nat_tests}
use Rattle.std.proofs.lemmas.List.{append-nil, take_at, drop_at}
use Rattle.pme_base.specs.Steps.{◌>>=◌}
use Rattle.module_aad.specs.Aad.{aad}
use Rattle.crypto_module.specs.Modules.{sealed_gcm}
use Rattle.crypto_module.specs.Opening.{opened}
use Rattle.crypto_module.proofs.ReadBack.{gcm_reads_back}
use Rattle.crypto_module.proofs.Sealed.{same_bytes}
use Rattle.key_rights.specs.Finding.{footer}
use Rattle.parquet_types.specs.declared.file_meta.AlgorithmMeta.{AlgorithmMeta}
use Rattle.parquet_types.specs.declared.file_meta.FileCrypto.{FileCrypto}
use Rattle.parquet_types.specs.declared.file_meta.FileMeta.{FileMeta}
use Rattle.parquet_fields.specs.Calls.{file_crypto_at, signing_at, split_signing}
use Rattle.footer_modes.specs.declared.head.Head.{Head}
use Rattle.footer_modes.specs.declared.head.AreaHead.TheVariants.{Protected, Bare}
use Rattle.footer_modes.specs.declared.mode.Magic.{Magic}
use Rattle.footer_modes.specs.declared.mode.Magic.TheVariants.{Pare, Par1}
use Rattle.footer_modes.specs.Ends.{footer_place, ends_of, area_of}
use Rattle.footer_modes.specs.TailOf.{Asks, sealed_head, plain_head, head_of, check_algorithm, aad_of, key_of, signature, checked, plain_of, crypto_of, footer_of, unsupplied, unsealed, bare_by, tail_by, area_tail, tail_of, metadata_by, area_metadata, metadata_of}
use Rattle.footer_modes.specs.Written.{closed, footer_tag, encrypted_area, signed_area, encrypted_tail, signed_tail, is_too_large}
use Rattle.footer_modes.specs.WrittenRead.{CanOpen, IsCrypto, IsSigning, tail_with, Begins}
use Rattle.pme_base.proofs.Chain.{bind_at}
use Rattle.footer_modes.proofs.Ended.{ends_with, ends_closed, area_closed}
use Rattle.footer_modes.proofs.Lengths.{signed_area_length}
use Rattle.footer_modes.proofs.AreasLaid.{bare_reads}

-- an area within the limit has a footer within its own limit
small_area : (plain area : List ℕ) → is_too_large plain area ≡ false → nat_lt 16842752 (length area) ≡ false
small_area plain area small = grind (arith, nat_tests)

small_footer : (plain area : List ℕ) → is_too_large plain area ≡ false → length plain ≤ 16777216
small_footer plain area small = grind (arith, nat_tests)

-- the tail of a file is the tail of its footer area
tail_closed : (asks : Asks) (magic : Magic) (before area : List ℕ) → Begins magic before → nat_lt 16842752 (length area) ≡ false
    → tail_of asks (before ++ closed magic area) ≡ area_tail asks magic (length before) area
tail_closed asks magic before area first small =
    let bytes = before ++ closed magic area in
    bind_at (ends_of bytes) (λ ends. area_tail asks ends.magic ends.data_end (area_of ends bytes)) (ends_with magic (length before) (length area))
    (ends_closed magic before area first small)
    ∙ ap (area_tail asks magic (length before)) (area_closed magic before area)

metadata_closed : (magic : Magic) (before area : List ℕ) (head : Head) → Begins magic before → nat_lt 16842752 (length area) ≡ false
    → head_of false magic (length before) area ≡ Ok (Protected head) → metadata_of (before ++ closed magic area) ≡ Ok head.metadata
metadata_closed magic before area head first small is =
    let bytes = before ++ closed magic area in
    bind_at (ends_of bytes) (λ ends. area_metadata ends.magic ends.data_end (area_of ends bytes)) (ends_with magic (length before) (length area))
    (ends_closed magic before area first small)
    ∙ ap (area_metadata magic (length before)) (area_closed magic before area)
    ∙ bind_at (head_of false magic (length before) area) (λ head. Ok (metadata_by head)) (Protected head) is

-- the steps of a reader that can open the area
area_read : (asks : Asks) (magic : Magic) (data_end : ℕ) (area : List ℕ) (head : Head) (key file plain : List ℕ)
    → head_of asks.allow_plain magic data_end area ≡ Ok (Protected head) → CanOpen asks head.algorithm head.metadata key file
    → plain_of magic key file (data_end + head.size) head.size area ≡ Ok plain
    → area_tail asks magic data_end area
    ≡ (footer_of plain >>= λ meta. Ok (tail_with magic head.algorithm file key (crypto_of magic head.size area) plain data_end (data_end + head.size) meta))
area_read asks magic data_end area head key file plain is can opens =
    let made = λ (file key plain : List ℕ) (meta : FileMeta). tail_with magic head.algorithm file key (crypto_of magic head.size area) plain data_end (data_end + head.size) meta in
    let read = λ (file key plain : List ℕ). footer_of plain >>= (λ meta. Ok (made file key plain meta)) in
    let unlocked = λ (file key : List ℕ). plain_of magic key file (data_end + head.size) head.size area >>= read file key in
    let keyed = λ (file : List ℕ). key_of (asks.answer (footer head.metadata)) >>= unlocked file in
    bind_at (head_of asks.allow_plain magic data_end area) (tail_by asks magic data_end area) (Protected head) is
    ∙ bind_at (check_algorithm asks.gcm_only head.algorithm) (λ _. aad_of head.algorithm asks.prefix >>= keyed) tt can.takes
    ∙ bind_at (aad_of head.algorithm asks.prefix) keyed file can.associated
    ∙ bind_at (key_of (asks.answer (footer head.metadata))) (unlocked file) key (ap key_of can.holds)
    ∙ bind_at (plain_of magic key file (data_end + head.size) head.size area) (read file key) plain opens

-- the front of an encrypted area, and its module
encrypted_head : (allow_plain : Bool) (key file nonce crypto plain : List ℕ) (data_end : ℕ) (head : FileCrypto) → IsCrypto crypto head
    → head_of allow_plain Pare data_end (encrypted_area key file nonce crypto plain) ≡ Ok (Protected (sealed_head (head, length crypto)))
encrypted_head allow_plain key file nonce crypto plain data_end head is =
    bind_at (file_crypto_at footer_place (encrypted_area key file nonce crypto plain)) (λ read. Ok (Protected (sealed_head read))) (head, length crypto)
    (is (sealed_gcm key (aad file footer_place) nonce plain))

encrypted_plain : (key file nonce crypto plain : List ℕ) (at : ℕ) → length nonce ≡ 12 → length plain ≤ 16777216
    → plain_of Pare key file at (length crypto) (encrypted_area key file nonce crypto plain) ≡ Ok plain
encrypted_plain key file nonce crypto plain at twelve short =
    let associated = aad file footer_place in
    let sealed = sealed_gcm key associated nonce plain in
    let there : drop (length crypto) (crypto ++ sealed) ≡ sealed ++ [] = drop_at crypto sealed (length crypto) refl ∙ sym (append-nil sealed) in
    let back = gcm_reads_back key associated nonce plain [] footer_place at 16777216 true twelve short (omega arith) (λ _. refl) in
    ap (opened key associated footer_place at 16777216 true) there ∙ back.opens

-- the front of a signed area, and what is signed
signed_front : (allow_plain : Bool) (key file nonce plain : List ℕ) (data_end : ℕ) (algorithm : AlgorithmMeta) (metadata : Option (List ℕ)) → length nonce ≡ 12
    → IsSigning plain algorithm metadata
    → head_of allow_plain Par1 data_end (signed_area key file nonce plain) ≡ Ok (Protected (record { algorithm = algorithm; metadata = metadata; size = length plain }))
signed_front allow_plain key file nonce plain data_end algorithm metadata twelve is =
    let area = signed_area key file nonce plain in
    let room : (length area == length plain + 28) ≡ true = grind (arith, nat_tests, signed_area_length key file nonce plain twelve) in
    bind_at (split_signing (signing_at footer_place area)) (λ read. plain_head allow_plain (data_end + length area) (length area) read.0 read.1 read.2)
    (Some algorithm, metadata, length plain)
    (ap split_signing (is (nonce ++ footer_tag key file nonce plain)))
    ∙ (rw room refl)

signed_plain : (key file nonce plain : List ℕ) (at : ℕ) → length nonce ≡ 12
    → plain_of Par1 key file at (length plain) (signed_area key file nonce plain) ≡ Ok plain
signed_plain key file nonce plain at twelve =
    let associated = aad file footer_place in
    let tag = footer_tag key file nonce plain in
    let area = plain ++ (nonce ++ tag) in
    let front : take (length plain) area ≡ plain = take_at plain (nonce ++ tag) (length plain) refl in
    let behind : drop (length plain) area ≡ nonce ++ tag = drop_at plain (nonce ++ tag) (length plain) refl in
    let nonce_is : take 12 (drop (length plain) area) ≡ nonce = ap (take 12) behind ∙ take_at nonce tag 12 twelve in
    let stored : drop 12 (drop (length plain) area) ≡ tag = ap (drop 12) behind ∙ drop_at nonce tag 12 twelve in
    (λ i. checked at (signature key associated (nonce_is i) (front i)) (stored i) (front i))
    ∙ (rw (same_bytes tag) refl)

pub encrypted_read : (asks : Asks) (key file nonce crypto plain before : List ℕ) (head : FileCrypto) → Begins Pare before → length nonce ≡ 12
    → is_too_large plain (encrypted_area key file nonce crypto plain) ≡ false → IsCrypto crypto head
    → CanOpen asks head.algorithm head.key_metadata key file
    → tail_of asks (before ++ encrypted_tail key file nonce crypto plain)
    ≡ (footer_of plain >>= λ meta. Ok (tail_with Pare head.algorithm file key crypto plain (length before) (length before + length crypto) meta))
encrypted_read asks key file nonce crypto plain before head first twelve small is can =
    let area = encrypted_area key file nonce crypto plain in
    let front : take (length crypto) area ≡ crypto = take_at crypto (sealed_gcm key (aad file footer_place) nonce plain) (length crypto) refl in
    tail_closed asks Pare before area first (small_area plain area small)
    ∙ area_read asks Pare (length before) area (sealed_head (head, length crypto)) key file plain (encrypted_head asks.allow_plain key file nonce crypto plain (length before) head is) can
    (encrypted_plain key file nonce crypto plain (length before + length crypto) twelve (small_footer plain area small))
    ∙ ap (λ c. footer_of plain >>= λ meta. Ok (tail_with Pare head.algorithm file key c plain (length before) (length before + length crypto) meta)) front

pub encrypted_metadata_read : (key file nonce crypto plain before : List ℕ) (head : FileCrypto) → Begins Pare before → length nonce ≡ 12
    → is_too_large plain (encrypted_area key file nonce crypto plain) ≡ false → IsCrypto crypto head
    → metadata_of (before ++ encrypted_tail key file nonce crypto plain) ≡ Ok head.key_metadata
encrypted_metadata_read key file nonce crypto plain before head first twelve small is =
    let area = encrypted_area key file nonce crypto plain in
    metadata_closed Pare before area (sealed_head (head, length crypto)) first (small_area plain area small)
    (encrypted_head false key file nonce crypto plain (length before) head is)

pub signed_read : (asks : Asks) (key file nonce plain before : List ℕ) (algorithm : AlgorithmMeta) (metadata : Option (List ℕ)) → Begins Par1 before → length nonce ≡ 12
    → is_too_large plain (signed_area key file nonce plain) ≡ false → IsSigning plain algorithm metadata
    → CanOpen asks algorithm metadata key file
    → tail_of asks (before ++ signed_tail key file nonce plain)
    ≡ (footer_of plain >>= λ meta. Ok (tail_with Par1 algorithm file key [] plain (length before) (length before + length plain) meta))
signed_read asks key file nonce plain before algorithm metadata first twelve small is can =
    let area = signed_area key file nonce plain in
    let head : Head = record { algorithm = algorithm; metadata = metadata; size = length plain } in
    tail_closed asks Par1 before area first (small_area plain area small)
    ∙ area_read asks Par1 (length before) area head key file plain (signed_front asks.allow_plain key file nonce plain (length before) algorithm metadata twelve is) can
    (signed_plain key file nonce plain (length before + length plain) twelve)

pub signed_metadata_read : (key file nonce plain before : List ℕ) (algorithm : AlgorithmMeta) (metadata : Option (List ℕ)) → Begins Par1 before → length nonce ≡ 12
    → is_too_large plain (signed_area key file nonce plain) ≡ false → IsSigning plain algorithm metadata
    → metadata_of (before ++ signed_tail key file nonce plain) ≡ Ok metadata
signed_metadata_read key file nonce plain before algorithm metadata first twelve small is =
    let area = signed_area key file nonce plain in
    let head : Head = record { algorithm = algorithm; metadata = metadata; size = length plain } in
    metadata_closed Par1 before area head first (small_area plain area small)
    (signed_front false key file nonce plain (length before) algorithm metadata twelve is)

pub unencrypted_read : (asks : Asks) (plain rest before : List ℕ) (metadata : Option (List ℕ)) → Begins Par1 before → nat_lt 16842752 (length (plain ++ rest)) ≡ false
    → signing_at footer_place (plain ++ rest) ≡ Ok ((None, metadata), length plain) → asks.allow_plain ≡ true → asks.prefix ≡ None
    → tail_of asks (before ++ closed Par1 (plain ++ rest))
    ≡ (footer_of plain >>= λ meta. unsealed meta >>= λ _. Ok (bare_by (length before) plain meta))
unencrypted_read asks plain rest before metadata first small is allowed none =
    let area = plain ++ rest in
    let read = λ (bytes : List ℕ). footer_of bytes >>= (λ meta. unsealed meta >>= λ _. Ok (bare_by (length before) bytes meta)) in
    tail_closed asks Par1 before area first small
    ∙ bind_at (head_of asks.allow_plain Par1 (length before) area) (tail_by asks Par1 (length before) area) (Bare (length plain))
    (bare_reads asks.allow_plain (length before) area metadata (length plain) allowed is)
    ∙ bind_at (unsupplied asks.prefix) (λ _. read (take (length plain) area)) tt (ap unsupplied none)
    ∙ ap read (take_at plain rest (length plain) refl)
