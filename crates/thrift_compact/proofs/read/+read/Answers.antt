use Rattle.std.proofs.Common.{SFits, w16, arith, rules}
use Rattle.std.proofs.lemmas.Int.{to_z-of_z}
use Rattle.std.proofs.lemmas.Result.{err_from_is_err_and}
use Rattle.thrift_compact.proofs.Steps.{fails_on}
use Rattle.thrift_compact.proofs.PartsLeft.{fields_no_head, fields_no_value}
use Rattle.thrift_compact.proofs.Built.{item_pushed, list_done, map_begun, pair_pushed, pair_no_key, pair_no_value, map_done, struct_begun, field_pushed, struct_done}
use Rattle.thrift_compact.proofs.read.+read.Goals as goal

pub read_fields-loop-fields-init : goal.read_fields-loop-fields-init
read_fields-loop-fields-init t c =
    (struct_begun _ _ _ _ _ c.in_ok-inner.ensures c.new-ids.ensures c.in_ok-fields.ensures, omega arith)

pub read_fields-returns-in_err-id-clause-value : goal.read_fields-returns-in_err-id-clause-value
read_fields-returns-in_err-id-clause-value t c =
    let p = err_from_is_err_and c.from_residual-in_err-id.result c.from_residual-in_err-id.ensures.1 in
    rw (p.1, p.2) (fails_on _ _ _ (λ f e. fields_no_head _ _ _ _ _ f c.loop-fields.invariant.0 e) c.in_err-id.ensures.value)

pub read_fields-returns-in_err-value-clause-value :
    goal.read_fields-returns-in_err-value-clause-value
read_fields-returns-in_err-value-clause-value t c =
    let p = err_from_is_err_and c.from_residual-in_err-value.result c.from_residual-in_err-value.ensures.1 in
    let e = rw c.in-Some.is at c.in_ok-id.ensures.value in
    rw (p.1, p.2) (fails_on _ _ _ (λ f d. fields_no_value _ _ _ _ _ (c.in-Some.id, c.in-Some.kind) _ f c.loop-fields.invariant.0 e d) c.in_err-value.ensures.value)

pub read_fields-loop-fields-preserved : goal.read_fields-loop-fields-preserved
read_fields-loop-fields-preserved t c =
    let fits : SFits w16 c.in-Some.id = search rules in
    let added = simp to_z-of_z at c.in_ok-push.ensures.ok in (
      field_pushed _ _ _ _ _ _ _ _ _ _ _ _ _ c.loop-fields.invariant.0 c.in-Some.is c.in_ok-id.ensures.value c.in_ok-id.ensures.taken c.in_ok-value.ensures.value added (omega (arith, c.in_ok-id.ensures.shorter, c.in_ok-value.ensures.shorter)),
      omega (arith, c.in_ok-id.ensures.shorter, c.in_ok-value.ensures.shorter),
    )

pub read_fields-returns-clause-value : goal.read_fields-returns-clause-value
read_fields-returns-clause-value t c =
    struct_done _ _ _ _ _ _ c.loop-fields.invariant.0 (rw c.in_default.is at c.in_ok-id.ensures.value)

pub read_list-loop-turn-preserved : goal.read_list-loop-turn-preserved
read_list-loop-turn-preserved t c =
    (item_pushed _ _ _ _ _ _ _ _ _ c.loop-turn-test.true c.loop-turn.invariant.0 c.in_ok-item.ensures.value c.in_ok-push.ensures.ok, omega (arith, c.in_ok-item.ensures.shorter))

pub read_list-returns-clause-value : goal.read_list-returns-clause-value
read_list-returns-clause-value t c =
    list_done _ _ _ _ _ _ c.loop-turn-test.false c.loop-turn.invariant.0

pub read_map-loop-turn-init : goal.read_map-loop-turn-init
read_map-loop-turn-init t c =
    (map_begun _ _ _ _ _ _ _ _ _ c.in_ok-inner.ensures c.in_ok-count.ensures.value (omega arith) c.in_ok-key_kind.ensures.value c.in_ok-map.ensures, omega (arith, c.in_ok-count.ensures.shorter, c.in_ok-key_kind.ensures.shorter))

pub read_map-returns-in_err-key-clause-value : goal.read_map-returns-in_err-key-clause-value
read_map-returns-in_err-key-clause-value t c =
    let p = err_from_is_err_and c.from_residual-in_err-key.result c.from_residual-in_err-key.ensures.1 in
    rw (p.1, p.2) (fails_on _ _ _ (λ f e. pair_no_key _ _ _ _ _ _ _ f c.loop-turn-test.true c.loop-turn.invariant.0 e) c.in_err-key.ensures.value)

pub read_map-returns-in_err-value-clause-value : goal.read_map-returns-in_err-value-clause-value
read_map-returns-in_err-value-clause-value t c =
    let p = err_from_is_err_and c.from_residual-in_err-value.result c.from_residual-in_err-value.ensures.1 in
    rw (p.1, p.2) (fails_on _ _ _ (λ f d. pair_no_value _ _ _ _ _ _ _ _ _ f c.loop-turn-test.true c.loop-turn.invariant.0 c.in_ok-key.ensures.value d) c.in_err-value.ensures.value)

pub read_map-loop-turn-preserved : goal.read_map-loop-turn-preserved
read_map-loop-turn-preserved t c =
    (pair_pushed _ _ _ _ _ _ _ _ _ _ _ _ c.loop-turn-test.true c.loop-turn.invariant.0 c.in_ok-key.ensures.value c.in_ok-value.ensures.value c.in_ok-push.ensures.ok, omega (arith, c.in_ok-key.ensures.shorter, c.in_ok-value.ensures.shorter))

pub read_map-returns-clause-value : goal.read_map-returns-clause-value
read_map-returns-clause-value t c =
    map_done _ _ _ _ _ _ _ c.loop-turn-test.false c.loop-turn.invariant.0
