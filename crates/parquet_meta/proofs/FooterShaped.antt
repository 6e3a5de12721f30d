-- The shape of a footer that is read.
use Rattle.std.proofs.Common.{◌≡◌, ℕ, List, Ok, ap, subst}
use Rattle.pme_base.specs.declared.place.Place.{Place}
use Rattle.pme_base.specs.declared.refusal.Refusal.{Refusal}
use Rattle.pme_base.specs.Steps.{◌>>=◌}
use Rattle.pme_base.proofs.Chain.{ok_same, bind_ok}
use Rattle.parquet_types.specs.declared.file_meta.FileMeta.{FileMeta}
use Rattle.parquet_fields.specs.Calls.{struct_at}
use Rattle.parquet_fields.specs.Structs.{raw_file_meta}
use Rattle.footer_rules.specs.FileRules.{file_of}
use Rattle.footer_rules.specs.Shape.{IsShaped}
use Rattle.footer_rules.proofs.Shaped.{shape_of}
use Rattle.parquet_meta.specs.Footer.{file_meta_at}

pub read_shape : (place : Place) (bytes : List ℕ) (meta : FileMeta) (size : ℕ) → file_meta_at place bytes ≡ Ok (meta, size) → IsShaped meta
read_shape place bytes meta size e =
    let (read, is, after) = bind_ok (struct_at place raw_file_meta bytes) (λ r. file_of place r.0 >>= λ file. Ok (file, r.1)) (meta, size) e in
    let (file, passed, made) = bind_ok (file_of place read.0) (λ file. Ok (file, read.1)) (meta, size) after in
    let same : file ≡ meta = ap (λ (r : FileMeta × ℕ). r.0) (ok_same {E = Refusal} (file, read.1) (meta, size) made) in
    subst IsShaped same (shape_of place read.0 file passed)
