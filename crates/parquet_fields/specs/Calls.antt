-- The results of this crate's calls: the struct at the start of the bytes, or its first refusal. Errors of the
-- compact protocol come before refused fields.
use Rattle.std.specs.Prelude.{ℕ, ◌-◌, List, length, Option, Result, Ok, Err}
use Rattle.pme_base.specs.declared.place.Place.{Place}
use Rattle.pme_base.specs.declared.refusal.Cause.TheVariants.{BadThrift}
use Rattle.pme_base.specs.declared.refusal.Detail.TheVariants.{Thrift}
use Rattle.pme_base.specs.declared.refusal.Refusal.{Refusal}
use Rattle.pme_base.specs.Refusals.{refusal_at}
use Rattle.pme_base.specs.Steps.{◌>>=◌}
use Rattle.thrift_compact.specs.Reading.{Fault, whole_struct}
use Rattle.thrift_compact.specs.Tree.{Fields}
use Rattle.parquet_types.specs.declared.file_meta.AlgorithmMeta.{AlgorithmMeta}
use Rattle.parquet_types.specs.declared.file_meta.ColumnMeta.{ColumnMeta}
use Rattle.parquet_types.specs.declared.file_meta.FileCrypto.{FileCrypto}
use Rattle.parquet_types.specs.declared.page_head.PageHead.{PageHead}
use Rattle.parquet_types.specs.FieldRefusals.{field_refusal}
use Rattle.parquet_fields.specs.Fields.{Checked}
use Rattle.parquet_fields.specs.Structs.{file_crypto, signing, column_meta, page_head}

-- A judged value, with its refusal at a place.
abbrev pub at_place : {X : Type 0} → Place → Checked X → Result X Refusal
at_place place (Ok x) = Ok x
at_place place (Err r) = Err (field_refusal place r)

-- The result of reading from `size` bytes, with an error of the compact protocol at a place and at its offset in
-- bytes.
abbrev pub read_at_place : {X : Type 0} → Place → ℕ → Result (X × List ℕ) Fault → Result (X × ℕ) Refusal
read_at_place place size (Ok read) = Ok (read.0, size - length read.1)
read_at_place place size (Err fault) = Err (refusal_at BadThrift place (size - fault.1) (Thrift fault.0))

-- The struct at the start of the bytes, judged by its fields, and its size in bytes.
abbrev pub struct_at : {X : Type 0} → Place → (Fields → Checked X) → List ℕ → Result (X × ℕ) Refusal
struct_at place checked bytes = do
  read ← read_at_place place (length bytes) (whole_struct bytes)
  x ← at_place place (checked read.0)
  Ok (x, read.1)

abbrev pub column_meta_at : Place → List ℕ → Result ColumnMeta Refusal
column_meta_at place bytes = do
  read ← struct_at place column_meta bytes
  Ok read.0

abbrev pub page_head_at : Place → List ℕ → Result (PageHead × ℕ) Refusal
page_head_at place bytes = struct_at place page_head bytes

abbrev pub file_crypto_at : Place → List ℕ → Result (FileCrypto × ℕ) Refusal
file_crypto_at place bytes = struct_at place file_crypto bytes

abbrev pub signing_at : Place → List ℕ → Result ((Option AlgorithmMeta × Option (List ℕ)) × ℕ) Refusal
signing_at place bytes = struct_at place signing bytes

-- The result of `signing_at` as one tuple of three.
abbrev pub split_signing : Result ((Option AlgorithmMeta × Option (List ℕ)) × ℕ) Refusal → Result (Option AlgorithmMeta × Option (List ℕ) × ℕ) Refusal
split_signing (Ok read) = Ok (read.0.0, read.0.1, read.1)
split_signing (Err refusal) = Err refusal
