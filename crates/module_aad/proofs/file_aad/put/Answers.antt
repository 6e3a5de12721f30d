use Rattle.std.proofs.Common.{length, ap, arith}
use Rattle.std.proofs.lemmas.Slice.{drop-put_mid}
use Rattle.module_aad.proofs.file_aad.put.Goals as goal

pub returns-clause-after : goal.returns-clause-after
returns-clause-after c =
    drop-put_mid c.args.at _ c.args.into.now _ _ (omega arith) (omega arith) (omega (arith, ap length c.copy_from_slice.ensures.after))
