-- Row groups without negative counts of rows.
use Rattle.std.proofs.Common.{List, [], ◌∷◌, ◌++◌, pos, ◌≤ℤ◌}
use Rattle.parquet_types.specs.declared.file_meta.RowGroupMeta.{RowGroupMeta}
use Rattle.footer_rules.specs.FileRules.{NoneNegative}

pub none_negative_next : (groups : List RowGroupMeta) (group : RowGroupMeta) → NoneNegative groups → pos 0 ≤ℤ group.num_rows → NoneNegative (groups ++ group ∷ [])
none_negative_next [] group all least = (least, tt)
none_negative_next (g ∷ gs) group all least = (all.0, none_negative_next gs group all.1 least)
