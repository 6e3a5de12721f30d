-- A tail that was written from a plan is read back.
use Rattle.std.proofs.Common.{◌≡◌, ℕ, ◌+◌, false, List, [], ◌++◌, length, refl, sym, ap, ◌∙◌, Some, Result, Ok, Err}
use Rattle.std.proofs.lemmas.List.{append-nil}
use Rattle.pme_base.specs.declared.refusal.Refusal.{Refusal}
use Rattle.pme_base.specs.Steps.{◌>>=◌}
use Rattle.thrift_compact.specs.Proper.{IsSmall}
use Rattle.parquet_types.specs.declared.file_meta.AlgorithmMeta.{AlgorithmMeta}
use Rattle.parquet_types.specs.declared.file_meta.FileMeta.{FileMeta}
use Rattle.parquet_types.specs.declared.plan.FooterPlan.{FooterPlan}
use Rattle.footer_rules.specs.FileRules.{file_of}
use Rattle.parquet_writing.specs.Fitting.{FitsAlgorithm}
use Rattle.parquet_meta.specs.Footer.{file_meta_at}
use Rattle.parquet_meta.specs.ReadBack.{plan_fields, signed_by}
use Rattle.parquet_meta.proofs.ReadBackProved.{file_crypto_read, file_meta_read, signing_read}
use Rattle.footer_modes.specs.declared.mode.Magic.TheVariants.{Pare, Par1}
use Rattle.footer_modes.specs.Ends.{footer_place}
use Rattle.footer_modes.specs.TailOf.{Asks, tail_of, footer_of}
use Rattle.footer_modes.specs.Written.{encrypted_area, signed_area, encrypted_tail, signed_tail, is_too_large}
use Rattle.footer_modes.specs.WrittenRead.{CanOpen, Begins, tail_with}
use Rattle.footer_modes.specs.PlannedRead.{footer_bytes, crypto_bytes, IsPlan}
use Rattle.footer_modes.proofs.WrittenRead.{encrypted_read, signed_read}

-- a footer that is parsed with its size, and the footer alone
abbrev with_size : ℕ → FileMeta → Result (FileMeta × ℕ) Refusal
with_size n file = Ok (file, n)

abbrev without_size : FileMeta × ℕ → Result FileMeta Refusal
without_size read = Ok read.0

alone : {T : Type 0} (n : ℕ) (r : Result FileMeta Refusal) (f : FileMeta → Result T Refusal)
    → (((r >>= with_size n) >>= without_size) >>= f) ≡ (r >>= f)
alone n (Ok file) f = refl
alone n (Err refusal) f = refl

plan_read : {T : Type 0} (plan : FooterPlan) (f : FileMeta → Result T Refusal) → IsPlan plan
    → (footer_of (footer_bytes plan) >>= f) ≡ (file_of footer_place (plan_fields plan) >>= f)
plan_read plan f is =
    let bytes = footer_bytes plan in
    let read = ap (file_meta_at footer_place) (sym (append-nil bytes)) ∙ file_meta_read footer_place plan [] is.fits is.numbers in
    ap (λ r. (r >>= without_size) >>= f) read ∙ alone (length bytes) (file_of footer_place (plan_fields plan)) f

pub encrypted_plan_read : (asks : Asks) (key file nonce metadata before : List ℕ) (algorithm : AlgorithmMeta) (plan : FooterPlan) → Begins Pare before → length nonce ≡ 12
    → FitsAlgorithm algorithm → IsSmall (length metadata) → IsPlan plan
    → is_too_large (footer_bytes plan) (encrypted_area key file nonce (crypto_bytes algorithm metadata) (footer_bytes plan)) ≡ false
    → CanOpen asks algorithm (Some metadata) key file
    → tail_of asks (before ++ encrypted_tail key file nonce (crypto_bytes algorithm metadata) (footer_bytes plan))
    ≡ (file_of footer_place (plan_fields plan) >>= λ meta. Ok (tail_with Pare algorithm file key (crypto_bytes algorithm metadata) (footer_bytes plan) (length before) (length before + length (crypto_bytes algorithm metadata)) meta))
encrypted_plan_read asks key file nonce metadata before algorithm plan first twelve fits small_metadata is small can =
    let crypto = crypto_bytes algorithm metadata in
    encrypted_read asks key file nonce crypto (footer_bytes plan) before (record { algorithm = algorithm; key_metadata = Some metadata }) first twelve small
    (λ rest. file_crypto_read footer_place algorithm metadata rest fits small_metadata) can
    ∙ plan_read plan (λ meta. Ok (tail_with Pare algorithm file key crypto (footer_bytes plan) (length before) (length before + length crypto) meta)) is

pub signed_plan_read : (asks : Asks) (key file nonce before : List ℕ) (algorithm : AlgorithmMeta) (plan : FooterPlan) → Begins Par1 before → length nonce ≡ 12
    → IsPlan plan → plan.algorithm ≡ Some algorithm
    → is_too_large (footer_bytes plan) (signed_area key file nonce (footer_bytes plan)) ≡ false
    → CanOpen asks algorithm plan.signing_key_metadata key file
    → tail_of asks (before ++ signed_tail key file nonce (footer_bytes plan))
    ≡ (file_of footer_place (plan_fields plan) >>= λ meta. Ok (tail_with Par1 algorithm file key [] (footer_bytes plan) (length before) (length before + length (footer_bytes plan)) meta))
signed_plan_read asks key file nonce before algorithm plan first twelve is signs small can =
    let bytes = footer_bytes plan in
    signed_read asks key file nonce bytes before algorithm plan.signing_key_metadata first twelve small
    (λ rest. signing_read footer_place plan rest is.fits is.numbers ∙ ap (λ a. Ok (signed_by a plan.signing_key_metadata, length bytes)) signs) can
    ∙ plan_read plan (λ meta. Ok (tail_with Par1 algorithm file key [] bytes (length before) (length before + length bytes) meta)) is
