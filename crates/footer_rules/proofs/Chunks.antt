-- The column chunks of some columns, from the first one on.
use Rattle.std.proofs.Common.{arith, ◌≡◌, suc, ◌-◌, ◌≤◌, List, [], ◌∷◌, length, take, drop, Result, Ok, refl}
use Rattle.std.proofs.Math.ListN.{get_or}
use Rattle.std.proofs.lemmas.List.{take_all}
use Rattle.pme_base.specs.declared.place.Place.{Place}
use Rattle.pme_base.specs.declared.refusal.Refusal.{Refusal}
use Rattle.pme_base.specs.Steps.{◌>>=◌}
use Rattle.parquet_types.specs.declared.column.ColumnSpec.{ColumnSpec}
use Rattle.parquet_types.specs.declared.file_meta.ChunkMeta.{ChunkMeta}
use Rattle.parquet_types.specs.declared.raw_footer.ColumnChunk.{ColumnChunk}
use Rattle.footer_rules.specs.FileRules.{chunk_of, chunks_of}

abbrev after : Place → List ColumnSpec → List ColumnChunk → ChunkMeta → Result (List ChunkMeta) Refusal
after place columns chunks chunk = chunks_of place columns chunks >>= λ rest. Ok (chunk ∷ rest)

pub chunks_next : (place : Place) (columns : List ColumnSpec) (column d : ColumnSpec) (chunk : ColumnChunk) (chunks : List ColumnChunk) → 1 ≤ length columns → column ≡ get_or columns 0 d → chunks_of place columns (chunk ∷ chunks) ≡ (chunk_of place column.name chunk >>= after place (take (length columns - 1) (drop 1 columns)) chunks)
chunks_next place [] column d chunk chunks some same = absurd (omega arith)
chunks_next place (x ∷ xs) column d chunk chunks some same =
    let all : take (suc (length xs) - 1) xs ≡ xs = take_all _ xs (omega arith) in
    rw (same, all) refl
