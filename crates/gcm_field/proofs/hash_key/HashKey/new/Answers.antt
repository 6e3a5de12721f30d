use Rattle.std.proofs.Common.{◌≡◌, [], get_or, map, ap, ◌∙◌}
use Rattle.std.specs.Int.{w128, to_be_bytes}
use Rattle.gcm_field.specs.Field.{polynomial, reversed}
use Rattle.gcm_field.specs.Table.{table_of}
use Rattle.gcm_field.proofs.hash_key.HashKey.new.Goals as goal

pub invariant_of-result : goal.invariant_of-result
unfolding table_of
invariant_of-result c =
    let table : c.fill_table.new.table ≡ table_of (polynomial c.args.block) = c.fill_table.ensures ∙ ap (λ n. table_of (reversed n)) c.from_be_bytes.ensures in
    record {
      table = table;
      rows = c.blocks_of-rows.ensures ∙ ap (λ t. map (to_be_bytes w128) (get_or t 0 [])) table;
    }
