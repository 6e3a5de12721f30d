-- What is written is read back.
use Rattle.std.proofs.Common.{ℕ, pos, Bool, true, false, List, Option, Some, None, Ok, ap}
use Rattle.pme_base.specs.Steps.{◌>>=◌}
use Rattle.thrift_compact.specs.Tree.{binary, truth, no_fields, field}
use Rattle.parquet_types.specs.declared.page_head.PageHead.TheVariants.{Data}
use Rattle.footer_rules.specs.FileRules.{file_of}
use Rattle.parquet_writing.specs.Plans.{where_some, where_true, page_header, file_crypto_meta_data, column_meta_data, file_meta_data}
use Rattle.parquet_meta.specs.ReadBack.{FieldsFit, chunk_meta, plan_fields, signed_by, PageHeadIsRead, FileCryptoIsRead, ColumnMetaIsRead, RawFileMetaIsRead, FileMetaIsRead, SigningIsRead}
use Rattle.parquet_fields.specs.Structs as read
use Rattle.parquet_meta.proofs.LaidSpelled.{struct_again}
use Rattle.parquet_writing.proofs.PlansLaid.{page_header_laid, file_crypto_laid, column_meta_laid, file_meta_laid}
use Rattle.parquet_meta.proofs.PlansRead.{page_head_is, file_crypto_is, column_meta_is, raw_file_meta_are, signing_is}

pub page_head_read : PageHeadIsRead
page_head_read place head rest fits =
    struct_again place read.page_head (page_header head) (Data head) rest (page_header_laid head) fits (page_head_is head)

-- An algorithm has no numbers.
binaries_fit : (prefix : Option (List ℕ)) (unique : List ℕ) (supply : Bool) → FieldsFit (where_some (pos 1) binary prefix (field (pos 2) (binary unique) (where_true (pos 3) (truth true) supply no_fields)))
binaries_fit None unique false = (tt, tt)
binaries_fit None unique true = (tt, (tt, tt))
binaries_fit (Some prefix) unique false = (tt, (tt, tt))
binaries_fit (Some prefix) unique true = (tt, (tt, (tt, tt)))

pub file_crypto_read : FileCryptoIsRead
file_crypto_read place algorithm key_metadata rest fits few =
    struct_again place read.file_crypto (file_crypto_meta_data algorithm key_metadata) (record { algorithm = algorithm; key_metadata = Some key_metadata }) rest (file_crypto_laid algorithm key_metadata fits few) ((binaries_fit algorithm.prefix algorithm.unique algorithm.supply, tt), (tt, tt)) (file_crypto_is algorithm key_metadata)

pub column_meta_read : ColumnMetaIsRead
column_meta_read place chunk rest fits numbers =
    ap (λ r. r >>= λ x. Ok x.0) (struct_again place read.column_meta (column_meta_data chunk) (chunk_meta chunk) rest (column_meta_laid 30 chunk fits.name) numbers (column_meta_is chunk))

pub raw_file_meta_read : RawFileMetaIsRead
raw_file_meta_read place plan rest fits numbers =
    struct_again place read.raw_file_meta (file_meta_data plan) (plan_fields plan) rest (file_meta_laid plan fits) numbers (raw_file_meta_are plan)

pub file_meta_read : FileMetaIsRead
file_meta_read place plan rest fits numbers =
    ap (λ r. r >>= λ x. (file_of place x.0 >>= λ file. Ok (file, x.1))) (raw_file_meta_read place plan rest fits numbers)

pub signing_read : SigningIsRead
signing_read place plan rest fits numbers =
    struct_again place read.signing (file_meta_data plan) (signed_by plan.algorithm plan.signing_key_metadata) rest (file_meta_laid plan fits) numbers (signing_is plan)
