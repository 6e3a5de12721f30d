-- Laws: a tail that was written from a plan is read back, and answered as the rules judge the plan's fields.
use Rattle.std.specs.Prelude.{◌≡◌, ◌+◌, ℕ, false, List, [], ◌++◌, length, Some, Ok}
use Rattle.pme_base.specs.Steps.{◌>>=◌}
use Rattle.thrift_compact.specs.Proper.{IsSmall}
use Rattle.thrift_compact.specs.Tree.{struct}
use Rattle.parquet_types.specs.declared.file_meta.AlgorithmMeta.{AlgorithmMeta}
use Rattle.parquet_types.specs.declared.plan.FooterPlan.{FooterPlan}
use Rattle.footer_rules.specs.FileRules.{file_of}
use Rattle.parquet_writing.specs.Fitting.{FitsAlgorithm, FitsFooter}
use Rattle.parquet_writing.specs.Plans.{file_crypto_meta_data, file_meta_data}
use Rattle.parquet_meta.specs.ReadBack.{NumbersFit, plan_fields, written}
use Rattle.footer_modes.specs.declared.mode.Magic.TheVariants.{Pare, Par1}
use Rattle.footer_modes.specs.Ends.{footer_place}
use Rattle.footer_modes.specs.TailOf.{Asks, tail_of}
use Rattle.footer_modes.specs.Written.{encrypted_area, signed_area, encrypted_tail, signed_tail, is_too_large}
use Rattle.footer_modes.specs.WrittenRead.{CanOpen, Begins, tail_with}

-- the structs that are written from a plan
abbrev pub footer_bytes : FooterPlan → List ℕ
footer_bytes plan = written (file_meta_data plan)

abbrev pub crypto_bytes : AlgorithmMeta → List ℕ → List ℕ
crypto_bytes algorithm metadata = written (file_crypto_meta_data algorithm metadata)

-- a plan that can be written
pub record IsPlan (plan : FooterPlan) : Type 0 where
  pub fits : FitsFooter plan
  pub numbers : NumbersFit (struct (file_meta_data plan))

abbrev pub EncryptedPlanIsRead : Type 0
EncryptedPlanIsRead =
    (asks : Asks) (key file nonce metadata before : List ℕ) (algorithm : AlgorithmMeta) (plan : FooterPlan) → Begins Pare before → length nonce ≡ 12
    → FitsAlgorithm algorithm → IsSmall (length metadata) → IsPlan plan
    → is_too_large (footer_bytes plan) (encrypted_area key file nonce (crypto_bytes algorithm metadata) (footer_bytes plan)) ≡ false
    → CanOpen asks algorithm (Some metadata) key file
    → tail_of asks (before ++ encrypted_tail key file nonce (crypto_bytes algorithm metadata) (footer_bytes plan))
    ≡ (file_of footer_place (plan_fields plan) >>= λ meta. Ok (tail_with Pare algorithm file key (crypto_bytes algorithm metadata) (footer_bytes plan) (length before) (length before + length (crypto_bytes algorithm metadata)) meta))

abbrev pub SignedPlanIsRead : Type 0
SignedPlanIsRead =
    (asks : Asks) (key file nonce before : List ℕ) (algorithm : AlgorithmMeta) (plan : FooterPlan) → Begins Par1 before → length nonce ≡ 12
    → IsPlan plan → plan.algorithm ≡ Some algorithm
    → is_too_large (footer_bytes plan) (signed_area key file nonce (footer_bytes plan)) ≡ false
    → CanOpen asks algorithm plan.signing_key_metadata key file
    → tail_of asks (before ++ signed_tail key file nonce (footer_bytes plan))
    ≡ (file_of footer_place (plan_fields plan) >>= λ meta. Ok (tail_with Par1 algorithm file key [] (footer_bytes plan) (length before) (length before + length (footer_bytes plan)) meta))
