use Rattle.std.proofs.Common.{refl, rules, arith}
use Rattle.thrift_compact.proofs.Pieces.{varint_of_is, extends_same, extends_unchanged, kept_unchanged}
use Rattle.thrift_compact.proofs.put.put_varint.Goals as goal

pub loop-rest-init : goal.loop-rest-init
loop-rest-init c = ((9, omega arith, rw varint_of_is), extends_same _ _ refl)

pub returns-in_err-push-clause-kept : goal.returns-in_err-push-clause-kept
returns-in_err-push-clause-kept c = search (rules, extends_unchanged _ _ _ c.loop-rest.invariant.1 c.in_err-push.ensures.unchanged)

pub returns-clause-kept : goal.returns-clause-kept
returns-clause-kept c = kept_unchanged _ _ _ _ c.loop-rest.invariant.1 c.push-2.ensures.unchanged
