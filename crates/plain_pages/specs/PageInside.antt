-- The fields of a page's index: the rank of each cell, and the place of each value. Pages.antt defines the cells directly.
use Rattle.std.specs.Prelude.{ℕ, zero, suc, ◌+◌, nat_lt, Bool, true, false, if◌then◌else◌, List, [], ◌∷◌, take, drop, length, map, replicate, slice_get, Option, None, Some, unwrap_or, Result, Ok, Err}
use Rattle.std.specs.Int.{w32, from_le_bytes, cast_unsigned}
use Rattle.pme_base.specs.declared.place.Place.{Place}
use Rattle.pme_base.specs.declared.refusal.PagePart.TheVariants.{Levels, Values}
use Rattle.pme_base.specs.declared.refusal.Refusal.{Refusal}
use Rattle.pme_base.specs.Steps.{◌>>=◌}
use Rattle.parquet_types.specs.declared.column.ColumnKind.{ColumnKind}
use Rattle.parquet_types.specs.declared.column.ColumnSpec.{ColumnSpec}
use Rattle.parquet_types.specs.declared.page_head.DataHead.{DataHead}
use Rattle.hybrid_runs.specs.Hybrid.{hybrid}
use Rattle.plain_pages.specs.declared.levels.LevelsRead.{LevelsRead}
use Rattle.plain_pages.specs.declared.page_index.PageIndex.{PageIndex}
use Rattle.plain_pages.specs.Cells.{Cell, null}
use Rattle.plain_pages.specs.Plain.{places, cell_at, place_of_byte}
use Rattle.plain_pages.specs.Pages.{bad_page, all_there, all_below, defined, indexes, entry_at, is_coded}

-- the ranks of cells with these definition levels, where k values are defined before them; None for a null
abbrev pub ranks_from : ℕ → List ℕ → List (Option ℕ)
ranks_from k [] = []
ranks_from k (zero ∷ levels) = None ∷ ranks_from k levels
ranks_from k (suc _ ∷ levels) = Some k ∷ ranks_from (k + 1) levels

-- the result of reading these definition levels, for a page whose values begin at offset `start`
abbrev pub levels_before : ℕ → List ℕ → LevelsRead
levels_before start levels = record { ranks = ranks_from 0 levels; defined = defined levels; start = start }

-- n definition levels of 0 or 1 from a hybrid of bit width 1 that takes the first `size` bytes
unfoldable pub levels_within : Place → ℕ → ℕ → List ℕ → Result LevelsRead Refusal
levels_within place n size bytes =
    if nat_lt (length bytes) size then Err (bad_page place Levels 0)
    else (all_below place Levels 2 n (take n (hybrid 1 (take size bytes))) >>= (λ levels. Ok (levels_before (4 + size) levels)))

-- the definition levels of a page: all 1 in a REQUIRED column, otherwise a hybrid preceded by its length in four bytes
unfoldable pub levels_read : Place → Bool → ℕ → List ℕ → Result LevelsRead Refusal
levels_read place false n body = Ok (levels_before 0 (replicate n 1))
levels_read place true n body =
    if nat_lt (length body) 4 then Err (bad_page place Levels 0)
    else levels_within place n (from_le_bytes w32 (take 4 body)) (drop 4 body)

-- the places of n defined values: offsets in the body, or numbers of dictionary entries, each below `entries`
unfoldable pub values_read : Place → ColumnKind → Bool → ℕ → ℕ → ℕ → List ℕ → Result (List ℕ) Refusal
values_read place kind false entries n start body = all_there place Values n (places kind n (place_of_byte kind start) body)
values_read place kind true entries n start body = all_below place Values entries n (take n (indexes (drop start body)))

-- the index of a page, or the first error in its levels and then in its values
unfoldable pub index_read : Place → ColumnSpec → DataHead → ℕ → List ℕ → Result PageIndex Refusal
index_read place spec head entries body =
    levels_read place spec.optional (cast_unsigned w32 head.num_values) body >>= (λ levels.
    values_read place spec.kind (is_coded head.encoding) entries levels.defined levels.start body >>= (λ values.
    Ok (record { kind = spec.kind; coded = is_coded head.encoding; ranks = levels.ranks; places = values })))

-- the value at a place in the body, or the dictionary entry of that number
abbrev pub value_at : ColumnKind → Bool → List Cell → List ℕ → ℕ → Cell
value_at kind coded entries body place = if coded then entry_at entries place else cell_at kind place body

-- the cell with this rank: null, or the defined value of that number
abbrev pub cell_of_rank : List Cell → Option ℕ → Cell
cell_of_rank values None = null
cell_of_rank values (Some k) = unwrap_or (slice_get values k) null

-- the cells that an index finds in a body and a dictionary
unfoldable pub cells_of : PageIndex → List Cell → List ℕ → List Cell
cells_of index entries body = map (cell_of_rank (map (value_at index.kind index.coded entries body) index.places)) index.ranks

-- the cells that the index found in a body, or the error of building the index
abbrev pub cells_by_index : List Cell → List ℕ → Result PageIndex Refusal → Result (List Cell) Refusal
cells_by_index entries body result = result >>= (λ index. Ok (cells_of index entries body))

-- the cells of a page, read through its index
abbrev pub page_read : Place → ColumnSpec → DataHead → List Cell → List ℕ → Result (List Cell) Refusal
page_read place spec head entries body = cells_by_index entries body (index_read place spec head (length entries) body)
