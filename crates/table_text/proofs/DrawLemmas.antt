-- Lemmas about appending one generated row.
use Rattle.std.proofs.Common.{◌≡◌, List, [], ◌∷◌, ◌++◌, map, length, refl, sym, ap, ◌∙◌}
use Rattle.std.proofs.Common.{◌≢◌, ◌==◌, ℕ, false, slice_index, lit<, lit≤}
use Rattle.std.proofs.lemmas.Bool.{eqb-false}
use Rattle.std.specs.Prelude.{codes}
use Rattle.std.proofs.lemmas.List.{map-append, length-map}
use Rattle.plain_pages.specs.Cells.{Cell}
use Rattle.plain_pages.specs.ColumnSpecs.{IsColumnSpec}
use Rattle.plain_pages.specs.Columns.{AreNamed, IsTable}
use Rattle.parquet_types.specs.declared.column.ColumnSpec.{ColumnSpec}
use Rattle.table_text.specs.declared.generated.Draws.{Draws}
use Rattle.table_text.specs.Generated.{AreGenerated, amount_cell, amount_spec, blob_cell, blob_spec, city_cell, city_spec, column_of, columns_of, flag_cell, flag_spec, id_cell, id_spec, column_list, with_row}
use Rattle.table_text.specs.Tables.{with_cell}
use Rattle.table_text.proofs.CellLemmas.{ascii_text}

one_more : (spec : ColumnSpec) (cell : Draws → Cell) (rows : List Draws) (row : Draws)
    → with_cell (column_of spec cell rows) (cell row) ≡ column_of spec cell (rows ++ row ∷ [])
one_more spec cell rows row = ap (λ (cells : List Cell). record { spec = spec; cells = cells }) (sym (map-append cell rows (row ∷ [])))

pub row_more : (rows : List Draws) (row : Draws) → with_row (columns_of rows) row ≡ columns_of (rows ++ row ∷ [])
row_more rows row =
    rw (← one_more id_spec id_cell rows row, ← one_more flag_spec flag_cell rows row, ← one_more city_spec city_cell rows row, ← one_more amount_spec amount_cell rows row, ← one_more blob_spec blob_cell rows row)
    refl

pub are_generated : (rows : List Draws) → AreGenerated (columns_of rows)
are_generated rows = record { id = refl; flag = refl; city = refl; amount = refl; blob = refl }

even : (rows : List Draws) (cell other : Draws → Cell) → length (map cell rows) ≡ length (map other rows)
even rows cell other = length-map rows cell ∙ sym (length-map rows other)

pub id_named : IsColumnSpec id_spec
id_named = record { name = record { not_empty = lit< tt; utf8 = ascii_text (codes "id") refl; short = lit≤ tt }; word = refl }

pub flag_named : IsColumnSpec flag_spec
flag_named = record { name = record { not_empty = lit< tt; utf8 = ascii_text (codes "flag") refl; short = lit≤ tt }; word = refl }

pub city_named : IsColumnSpec city_spec
city_named = record { name = record { not_empty = lit< tt; utf8 = ascii_text (codes "city") refl; short = lit≤ tt }; word = tt }

pub amount_named : IsColumnSpec amount_spec
amount_named = record { name = record { not_empty = lit< tt; utf8 = ascii_text (codes "amount") refl; short = lit≤ tt }; word = refl }

pub blob_named : IsColumnSpec blob_spec
blob_named = record { name = record { not_empty = lit< tt; utf8 = ascii_text (codes "blob") refl; short = lit≤ tt }; word = tt }

-- names that begin with different bytes are different
differ : (xs ys : List ℕ) → (slice_index xs 0 == slice_index ys 0) ≡ false → xs ≢ ys
differ xs ys e same = eqb-false (slice_index xs 0) (slice_index ys 0) e (ap (λ (t : List ℕ). slice_index t 0) same)

are_named : (rows : List Draws) → AreNamed (column_list (columns_of rows))
are_named rows =
    let from_blob : AreNamed ((columns_of rows).blob ∷ []) =
    (blob_named, tt, tt) in
    let from_amount : AreNamed ((columns_of rows).amount ∷ (columns_of rows).blob ∷ []) =
    (amount_named, (differ (codes "blob") (codes "amount") refl, tt), from_blob) in
    let from_city : AreNamed ((columns_of rows).city ∷ (columns_of rows).amount ∷ (columns_of rows).blob ∷ []) =
    (city_named, (differ (codes "amount") (codes "city") refl, (differ (codes "blob") (codes "city") refl, tt)), from_amount) in
    let from_flag : AreNamed ((columns_of rows).flag ∷ (columns_of rows).city ∷ (columns_of rows).amount ∷ (columns_of rows).blob ∷ []) =
    (flag_named, (differ (codes "city") (codes "flag") refl, (differ (codes "amount") (codes "flag") refl, (differ (codes "blob") (codes "flag") refl, tt))), from_city) in
    let from_id : AreNamed ((columns_of rows).id ∷ (columns_of rows).flag ∷ (columns_of rows).city ∷ (columns_of rows).amount ∷ (columns_of rows).blob ∷ []) =
    (id_named, (differ (codes "flag") (codes "id") refl, (differ (codes "city") (codes "id") refl, (differ (codes "amount") (codes "id") refl, (differ (codes "blob") (codes "id") refl, tt)))), from_flag) in
    from_id

pub are_even : (rows : List Draws) → IsTable (column_list (columns_of rows))
are_even rows = record { even = (refl, (even rows _ _, (even rows _ _, (even rows _ _, (even rows _ _, tt))))); named = are_named rows }
