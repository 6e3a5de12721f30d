use Rattle.std.proofs.Common.{arith}
use Rattle.std.proofs.lemmas.Result.{err_from_is_err_and}
use Rattle.thrift_compact.proofs.Steps.{fails_on}
use Rattle.thrift_compact.proofs.PartsLeft.{fields_no_head}
use Rattle.thrift_compact.proofs.Skipped.{item_skipped, item_not_skipped, map_skipping, pair_skipped, key_not_skipped, value_not_skipped, map_skipped, field_skipped, field_not_skipped, struct_skipped}
use Rattle.thrift_compact.proofs.skip.+skip.Goals as goal

pub skip_fields-returns-in_err-_id-clause-value : goal.skip_fields-returns-in_err-_id-clause-value
skip_fields-returns-in_err-_id-clause-value t c =
    let p = err_from_is_err_and c.from_residual-in_err-_id.result c.from_residual-in_err-_id.ensures.1 in
    rw (p.1, p.2) (fails_on _ _ _ (λ f e. fields_no_head _ _ _ _ _ f c.loop-ids.invariant.0 e) c.in_err-_id.ensures.value)

pub skip_fields-loop-ids-preserved : goal.skip_fields-loop-ids-preserved
skip_fields-loop-ids-preserved t c = (
  field_skipped _ _ _ _ _ _ _ _ _ _ c.loop-ids.invariant.0 c.in-Some.is c.in_ok-_id.ensures.value c.in_ok-_id.ensures.taken c.in_ok-skip_value.ensures.value (omega (arith, c.in_ok-_id.ensures.shorter, c.in_ok-skip_value.ensures.shorter)),
  omega (arith, c.in_ok-_id.ensures.shorter, c.in_ok-skip_value.ensures.shorter),
)

pub skip_fields-returns-in_err-skip_value-clause-value :
    goal.skip_fields-returns-in_err-skip_value-clause-value
skip_fields-returns-in_err-skip_value-clause-value t c =
    let p = err_from_is_err_and c.from_residual-in_err-skip_value.result c.from_residual-in_err-skip_value.ensures.1 in
    rw (p.1, p.2) (fails_on _ _ _ (λ f e. field_not_skipped _ _ _ _ _ _ _ _ f c.loop-ids.invariant.0 c.in-Some.is c.in_ok-_id.ensures.value e) c.in_err-skip_value.ensures.value)

pub skip_fields-returns-clause-value : goal.skip_fields-returns-clause-value
skip_fields-returns-clause-value t c =
    struct_skipped _ _ _ _ _ _ c.loop-ids.invariant.0 c.in_default.is c.in_ok-_id.ensures.value

pub skip_list-returns-in_err-skip_element-clause-value :
    goal.skip_list-returns-in_err-skip_element-clause-value
skip_list-returns-in_err-skip_element-clause-value t c =
    let p = err_from_is_err_and c.from_residual-in_err-skip_element.result c.from_residual-in_err-skip_element.ensures.1 in
    rw (p.1, p.2) (fails_on _ _ _ (λ f e. item_not_skipped _ _ _ _ _ f c.loop-turn-test.true c.loop-turn.invariant.0 e) c.in_err-skip_element.ensures.value)

pub skip_list-loop-turn-preserved : goal.skip_list-loop-turn-preserved
skip_list-loop-turn-preserved t c =
    (item_skipped _ _ _ _ _ _ c.loop-turn-test.true c.loop-turn.invariant.0 c.in_ok-skip_element.ensures.value, omega (arith, c.in_ok-skip_element.ensures.shorter))

pub skip_map-loop-turn-init : goal.skip_map-loop-turn-init
skip_map-loop-turn-init t c =
    (map_skipping _ _ _ _ _ _ _ _ c.in_ok-inner.ensures c.in_ok-count.ensures.value (omega arith) c.in_ok-key_kind.ensures.value, omega (arith, c.in_ok-count.ensures.shorter, c.in_ok-key_kind.ensures.shorter))

pub skip_map-returns-in_err-skip_element-clause-value :
    goal.skip_map-returns-in_err-skip_element-clause-value
skip_map-returns-in_err-skip_element-clause-value t c =
    let p = err_from_is_err_and c.from_residual-in_err-skip_element.result c.from_residual-in_err-skip_element.ensures.1 in
    rw (p.1, p.2) (fails_on _ _ _ (λ f e. key_not_skipped _ _ _ _ _ _ f c.loop-turn-test.true c.loop-turn.invariant.0 e) c.in_err-skip_element.ensures.value)

pub skip_map-returns-in_err-skip_element-2-clause-value :
    goal.skip_map-returns-in_err-skip_element-2-clause-value
skip_map-returns-in_err-skip_element-2-clause-value t c =
    let p = err_from_is_err_and c.from_residual-in_err-skip_element-2.result c.from_residual-in_err-skip_element-2.ensures.1 in
    rw (p.1, p.2) (fails_on _ _ _ (λ f e. value_not_skipped _ _ _ _ _ _ _ f c.loop-turn-test.true c.loop-turn.invariant.0 c.in_ok-skip_element.ensures.value e) c.in_err-skip_element-2.ensures.value)

pub skip_map-loop-turn-preserved : goal.skip_map-loop-turn-preserved
skip_map-loop-turn-preserved t c =
    (pair_skipped _ _ _ _ _ _ _ _ c.loop-turn-test.true c.loop-turn.invariant.0 c.in_ok-skip_element.ensures.value c.in_ok-skip_element-2.ensures.value, omega (arith, c.in_ok-skip_element.ensures.shorter, c.in_ok-skip_element-2.ensures.shorter))

pub skip_map-returns-clause-value : goal.skip_map-returns-clause-value
skip_map-returns-clause-value t c =
    map_skipped _ _ _ _ _ _ c.loop-turn-test.false c.loop-turn.invariant.0
