-- The invariant of a HashKey: its table and rows hold the multiples of its block.
use Rattle.std.specs.Prelude.{◌≡◌, map}
use Rattle.std.specs.Int.{w128, to_be_bytes}
use Rattle.gcm_field.specs.Field.{polynomial}
use Rattle.gcm_field.specs.Table.{table_of, table_row}
use Rattle.gcm_field.specs.declared.hash_key.HashKey.TheInside.{Inside}

pub record IsTabled (k : Inside) : Type 0 where
  pub table : k.table ≡ table_of (polynomial k.block)
  pub rows : k.rows ≡ map (to_be_bytes w128) (table_row (polynomial k.block) 0)
