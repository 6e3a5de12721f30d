-- What the writers write is read back.
use Rattle.std.proofs.Common.{◌≡◌, ℕ, List, length, Result, Ok, Err, IfOk, sym, subst}
use Rattle.thrift_compact.specs.Proper.{IsSmall}
use Rattle.parquet_types.specs.declared.file_meta.AlgorithmMeta.{AlgorithmMeta}
use Rattle.parquet_types.specs.declared.page_head.DataHead.{DataHead}
use Rattle.parquet_types.specs.declared.plan.FooterPlan.{FooterPlan}
use Rattle.parquet_types.specs.declared.plan.WrittenChunk.{WrittenChunk}
use Rattle.parquet_writing.specs.Fitting.{FitsAlgorithm, FitsChunk, FitsFooter}
use Rattle.parquet_writing.specs.Plans.{page_header, file_crypto_meta_data, column_meta_data, file_meta_data}
use Rattle.parquet_meta.specs.PlanRules.{IsFooterOf}
use Rattle.parquet_meta.specs.Ranges.{HeadInRange, ChunkInRange, PlanInRange}
use Rattle.parquet_meta.specs.ReadBack.{written, IsPageHeadOf, IsFileCryptoOf, IsColumnMetaOf}
use Rattle.parquet_meta.proofs.PlanNumbers.{page_header_fits, column_meta_fits, file_meta_fits}
use Rattle.parquet_meta.proofs.PlansKeep.{file_plan_read}
use Rattle.parquet_meta.proofs.PlansPassed.{typed_plan_read}
use Rattle.parquet_meta.proofs.ReadBackProved.{page_head_read, file_crypto_read, column_meta_read, signing_read}

-- If a call that answers Ok gives the bytes of a value, a fact of those bytes holds for its result.
pub ok_of_bytes : {E : Type 0} (r : Result (List ℕ) E) (bytes : List ℕ) (P : List ℕ → Type 0) → IfOk r (λ found. found ≡ bytes) → P bytes → IfOk r P
ok_of_bytes (Ok found) bytes P is holds = subst P (sym is) holds
ok_of_bytes (Err e) bytes P is holds = tt

pub page_head_back : (head : DataHead) → HeadInRange head → IsPageHeadOf head (written (page_header head))
page_head_back head range place rest = page_head_read place head rest (page_header_fits head range)

pub file_crypto_back : (algorithm : AlgorithmMeta) (key_metadata : List ℕ) → FitsAlgorithm algorithm → IsSmall (length key_metadata) → IsFileCryptoOf algorithm key_metadata (written (file_crypto_meta_data algorithm key_metadata))
file_crypto_back algorithm key_metadata fits few place rest = file_crypto_read place algorithm key_metadata rest fits few

pub column_meta_back : (chunk : WrittenChunk) → FitsChunk chunk → ChunkInRange chunk → IsColumnMetaOf chunk (written (column_meta_data chunk))
column_meta_back chunk fits range place rest = column_meta_read place chunk rest fits (column_meta_fits chunk range)

pub footer_back : (plan : FooterPlan) → FitsFooter plan → PlanInRange plan → IsFooterOf plan (written (file_meta_data plan))
footer_back plan fits range =
    let numbers = file_meta_fits plan fits range in
    record {
      keeps = λ keeps place rest. file_plan_read place plan rest fits keeps numbers;
      passed = λ place rest read is. typed_plan_read place plan rest read fits numbers is;
      signing = λ place rest. signing_read place plan rest fits numbers;
    }
