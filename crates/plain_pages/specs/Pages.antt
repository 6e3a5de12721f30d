-- The cells in the body of a data page or a dictionary page, or the error for the first faulty level or value.
use Rattle.std.specs.Prelude.{ℕ, ℤ, zero, suc, ◌+◌, ◌==◌, nat_lt, nat_le, Bool, true, false, not, if◌then◌else◌, List, [], ◌∷◌, take, drop, length, map, replicate, slice_get, slice_index, Option, unwrap_or, Result, Ok, Err}
use Rattle.std.specs.List.{prefix_len}
use Rattle.std.specs.Int.{w32, from_le_bytes, cast_unsigned}
use Rattle.pme_base.specs.declared.place.Place.{Place}
use Rattle.pme_base.specs.declared.refusal.Cause.{Cause}
use Rattle.pme_base.specs.declared.refusal.Cause.TheVariants.{BadPage, OutOfMemory}
use Rattle.pme_base.specs.declared.refusal.Detail.TheVariants.{Part}
use Rattle.pme_base.specs.declared.refusal.PagePart.{PagePart}
use Rattle.pme_base.specs.declared.refusal.PagePart.TheVariants.{Levels, Values, Dictionary}
use Rattle.pme_base.specs.declared.refusal.Refusal.{Refusal}
use Rattle.pme_base.specs.Refusals.{refusal_at}
use Rattle.pme_base.specs.Steps.{◌>>=◌}
use Rattle.parquet_types.specs.declared.column.ColumnKind.{ColumnKind}
use Rattle.parquet_types.specs.declared.column.ColumnSpec.{ColumnSpec}
use Rattle.parquet_types.specs.declared.page_head.DataHead.{DataHead}
use Rattle.hybrid_runs.specs.Hybrid.{hybrid}
use Rattle.plain_pages.specs.Cells.{Cell, null}
use Rattle.plain_pages.specs.Plain.{places, cell_at, place_of_byte}
use Rattle.plain_pages.specs.PlacesInside.{even}

-- the BadPage refusal for value i of a part of the page: the first one that is missing or out of range
abbrev pub bad_page : Place → PagePart → ℕ → Refusal
bad_page place part i = refusal_at BadPage place 0 (Part part i)

-- exactly n values; if there are fewer, the error reports the number of the first missing one
unfoldable pub all_there : Place → PagePart → ℕ → List ℕ → Result (List ℕ) Refusal
all_there place part n values = if length values == n then Ok values else Err (bad_page place part (length values))

-- the number of leading values that are below a limit
abbrev pub count_below : ℕ → List ℕ → ℕ
count_below limit values = prefix_len (λ value. nat_lt value limit) values

-- exactly n values, all below a limit; otherwise the error reports the first one that is missing or too large
unfoldable pub all_below : Place → PagePart → ℕ → ℕ → List ℕ → Result (List ℕ) Refusal
all_below place part limit n values = if count_below limit values == n then Ok values else Err (bad_page place part (count_below limit values))

-- ---- levels
-- the size of the levels in bytes, from the four bytes in front of them
abbrev pub levels_size : List ℕ → ℕ
levels_size body = from_le_bytes w32 (take 4 body)

-- the offset in a body at which the values begin: a REQUIRED column has no levels
abbrev pub values_start : Bool → List ℕ → ℕ
values_start false body = 0
values_start true body = 4 + levels_size body

-- the definition levels of a page: all 1 in a REQUIRED column; otherwise each is 0 or 1, in a hybrid of bit width 1 that is
-- preceded by its length in four bytes
abbrev pub levels : Place → Bool → ℕ → List ℕ → Result (List ℕ) Refusal
levels place false n body = Ok (replicate n 1)
levels place true n body =
    if nat_lt (length body) (values_start true body) then Err (bad_page place Levels 0)
    else all_below place Levels 2 n (take n (hybrid 1 (take (levels_size body) (drop 4 body))))

-- the number of defined values: levels other than 0
abbrev pub defined : List ℕ → ℕ
defined [] = 0
defined (zero ∷ levels) = defined levels
defined (suc _ ∷ levels) = suc (defined levels)

-- ---- values
-- the dictionary indexes in these bytes: a byte with the bit width, at most 32, and a hybrid of that width
unfoldable pub indexes : List ℕ → List ℕ
indexes [] = []
indexes (width ∷ runs) = if nat_le width 32 then hybrid width runs else []

-- dictionary entry number i, or null if there is none
abbrev pub entry_at : List Cell → ℕ → Cell
entry_at entries i = unwrap_or (slice_get entries i) null

-- n defined values from offset `start` of the body on: PLAIN values, or dictionary entries by their indexes
abbrev pub values : Place → ColumnKind → Bool → List Cell → ℕ → ℕ → List ℕ → Result (List Cell) Refusal
values place kind false entries n start body =
    all_there place Values n (places kind n (place_of_byte kind start) body) >>= (λ found. Ok (map (λ at. cell_at kind at body) found))
values place kind true entries n start body =
    all_below place Values (length entries) n (take n (indexes (drop start body))) >>= (λ found. Ok (map (entry_at entries) found))

-- ---- pages
-- cell i: null if its level is 0, otherwise the defined value whose number is the count of nonzero levels before cell i
abbrev pub cell_number : List ℕ → List Cell → ℕ → Cell
cell_number levels values i = if slice_index levels i == 0 then null else unwrap_or (slice_get values (defined (take i levels))) null

-- the cells for these definition levels and defined values
abbrev pub cells : List ℕ → List Cell → List Cell
cells levels values = map (cell_number levels values) (even 0 1 (length levels))

-- the values are dictionary indexes: the encoding is any other than 0, which is PLAIN
abbrev pub is_coded : ℤ → Bool
is_coded encoding = not (cast_unsigned w32 encoding == 0)

-- the cells of a data page's body with these dictionary entries, or its first error: levels are checked before values
unfoldable pub page : Place → ColumnSpec → DataHead → List Cell → List ℕ → Result (List Cell) Refusal
page place spec head entries body =
    levels place spec.optional (cast_unsigned w32 head.num_values) body >>= (λ level_list.
    values place spec.kind (is_coded head.encoding) entries (defined level_list) (values_start spec.optional body) body >>= (λ value_list.
    Ok (cells level_list value_list)))

-- the entries of a dictionary page's body, or the error for the first incomplete entry
abbrev pub dictionary : Place → ColumnSpec → ℕ → List ℕ → Result (List Cell) Refusal
dictionary place spec count body =
    all_there place Dictionary count (places spec.kind count 0 body) >>= (λ found. Ok (map (λ at. cell_at spec.kind at body) found))

-- the entries of an optional dictionary: none if there is no dictionary
abbrev pub entries_of : Option (List Cell) → List Cell
entries_of dictionary = unwrap_or dictionary []

-- the causes of a page's refusal
abbrev pub is_page_cause : Cause → Bool
is_page_cause BadPage = true
is_page_cause OutOfMemory = true
is_page_cause _ = false
