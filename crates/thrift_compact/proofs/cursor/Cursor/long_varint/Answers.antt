use Rattle.std.proofs.Common.{◌-◌, arith}
use Rattle.std.proofs.lemmas.Result.{err_from_is_err_and}
use Rattle.thrift_compact.proofs.Steps.{fails_on}
use Rattle.thrift_compact.proofs.Varints.{part_fails, part_fits, part_ends, part_more, part_last, part_long, at_turn, at_next, at_tenth}
use Rattle.thrift_compact.proofs.cursor.Cursor.long_varint.Goals as goal

pub returns-in_err-byte-clause-value : goal.returns-in_err-byte-clause-value
returns-in_err-byte-clause-value c =
    let p = err_from_is_err_and c.from_residual.result c.from_residual.ensures.1 in
    rw (p.1, p.2) (fails_on _ _ _ (λ f e. part_fails _ _ _ _ _ _ f c.loop-turn.invariant.1 e) c.in_err-byte.ensures.value)

pub overflow_mul-result : goal.overflow_mul-result
overflow_mul-result c =
    let part = at_turn _ _ _ _ _ _ c.loop-turn-test.true c.loop-turn.invariant.1 in
    let fits = part_fits _ _ _ _ _ c.in_ok-byte.byte _ part c.if-byte-lt128.true in
    omega (arith, fits.0, fits.1)

pub overflow_add-result : goal.overflow_add-result
overflow_add-result c =
    let part = at_turn _ _ _ _ _ _ c.loop-turn-test.true c.loop-turn.invariant.1 in
    let fits = part_fits _ _ _ _ _ c.in_ok-byte.byte _ part c.if-byte-lt128.true in
    omega (arith, fits.0, fits.1)

pub returns-then-byte-lt128-clause-value : goal.returns-then-byte-lt128-clause-value
returns-then-byte-lt128-clause-value c =
    let part = at_turn _ _ _ _ _ _ c.loop-turn-test.true c.loop-turn.invariant.1 in
    part_ends _ _ _ _ _ _ _ _ part c.in_ok-byte.ensures.value c.if-byte-lt128.true

pub overflow_mul-value : goal.overflow_mul-value
overflow_mul-value c =
    let part = at_turn _ _ _ _ _ _ c.loop-turn-test.true c.loop-turn.invariant.1 in
    let fits = part_fits _ _ _ _ _ (c.in_ok-byte.byte - 128) _ part (omega arith) in
    omega (arith, fits.0, fits.1)

pub overflow_add-value : goal.overflow_add-value
overflow_add-value c =
    let part = at_turn _ _ _ _ _ _ c.loop-turn-test.true c.loop-turn.invariant.1 in
    let fits = part_fits _ _ _ _ _ (c.in_ok-byte.byte - 128) _ part (omega arith) in
    omega (arith, fits.0, fits.1)

pub overflow_mul-scale : goal.overflow_mul-scale
overflow_mul-scale c =
    let part = at_turn _ _ _ _ _ _ c.loop-turn-test.true c.loop-turn.invariant.1 in
    let fits = part_fits _ _ _ _ _ 0 _ part (omega arith) in
    omega (arith, part.low, fits.1)

pub loop-turn-preserved : goal.loop-turn-preserved
loop-turn-preserved c =
    let part = at_turn _ _ _ _ _ _ c.loop-turn-test.true c.loop-turn.invariant.1 in
    let next = part_more _ _ _ _ _ _ _ _ part c.in_ok-byte.ensures.value c.if-byte-lt128.false (omega arith) in
    (omega arith, at_next _ _ _ _ _ _ c.loop-turn-test.true next, omega (arith, c.in_ok-byte.ensures.shorter))

pub returns-in_err-last-clause-value : goal.returns-in_err-last-clause-value
returns-in_err-last-clause-value c =
    let p = err_from_is_err_and c.from_residual-in_err-last.result c.from_residual-in_err-last.ensures.1 in
    rw (p.1, p.2) (fails_on _ _ _ (λ f e. part_fails _ _ _ _ _ _ f c.loop-turn.invariant.1 e) c.in_err-last.ensures.value)

pub returns-then-last-lt2-clause-value : goal.returns-then-last-lt2-clause-value
returns-then-last-lt2-clause-value c =
    let part = at_tenth _ _ _ _ _ _ c.loop-turn-test.false c.loop-turn.invariant.1 in
    part_last _ _ _ _ _ _ _ part c.in_ok-last.ensures.value c.if-last-lt2.true

pub returns-else-last-lt2-clause-value : goal.returns-else-last-lt2-clause-value
returns-else-last-lt2-clause-value c =
    let part = at_tenth _ _ _ _ _ _ c.loop-turn-test.false c.loop-turn.invariant.1 in
    part_long _ _ _ _ _ _ _ part c.in_ok-last.ensures.value c.if-last-lt2.false
