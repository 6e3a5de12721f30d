use Rattle.std.proofs.Common.{◌*◌, ◌-◌, arith}
use Rattle.std.proofs.lemmas.Nat.{pow_pos}
use Rattle.hybrid_runs.proofs.Runs.{varint_room}
use Rattle.hybrid_runs.proofs.varint.+varint.Goals as goal

pub returns-then-byte-lt128-clause-small : goal.returns-then-byte-lt128-clause-small
returns-then-byte-lt128-clause-small t c = rw (varint_room c.args.turns (omega arith)) (omega (arith, pow_pos (7 * (c.args.turns - 1))))

pub returns-clause-small : goal.returns-clause-small
returns-clause-small t c = rw (varint_room c.args.turns (omega arith)) (omega (arith, c.in_ok-number.ensures.small))
