use Rattle.std.proofs.Common.{w16, w64}
use Rattle.std.proofs.lemmas.Int.{to_z-of_z}
use Rattle.std.proofs.lemmas.Result.{on_ok_weaker}
use Rattle.thrift_compact.proofs.Writes.{two_pieces}
use Rattle.thrift_compact.proofs.writer.put_whole_field.Goals as goal

pub returns-clause-ok : goal.returns-clause-ok
returns-clause-ok c =
    let head = rw (to_z-of_z w16 c.args.before c.ranges.before, to_z-of_z w16 c.args.id c.ranges.id) at c.in_ok-put_field_head.ensures.ok in
    on_ok_weaker c.put_whole.result (two_pieces _ _ _ _ _ head) (rw (to_z-of_z w64 c.args.value c.ranges.value) at c.put_whole.ensures.ok)
