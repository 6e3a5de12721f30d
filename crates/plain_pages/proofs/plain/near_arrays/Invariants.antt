use Rattle.std.proofs.Common.{◌≡◌, ◌-◌, ◌≤◌, ◌++◌, length}
use Rattle.parquet_types.specs.declared.column.ColumnKind.TheVariants.{ByteArray}
use Rattle.plain_pages.specs.Plain.{places}
use Rattle.plain_pages.proofs.plain.near_arrays.Given as goal

abbrev pub invariant-loop : goal.invariant-loop
invariant-loop l =
    (l.place ≤ length l.body)
    × (places ByteArray l.count l.start l.body ≡ l.places.items ++ places ByteArray (l.count - l.counter) l.place l.body)
