use Rattle.std.proofs.lemmas.Result.{err_from_is_err_and}
use Rattle.parquet_fields.proofs.ItemLoops.{list_begun, item_fails, item_added, bad_list, bad_list_fails}
use Rattle.parquet_fields.proofs.items.read_items.Goals as goal

pub loop-turn-init : goal.loop-turn-init
loop-turn-init g c =
    list_begun g.I.Item.item c.args.kind c.args.reader.now c.args.count c.new-items.result c.new-items.ensures

pub returns-in_err-bad-clause-value : goal.returns-in_err-bad-clause-value
returns-in_err-bad-clause-value g c =
    let p = err_from_is_err_and c.from_residual.result c.from_residual.ensures.1 in
    rw (p.1, p.2) (item_fails _ _ c.args.kind c.args.reader.now c.loop-turn.reader c.args.count c.loop-turn.turn _ c.loop-turn-test.true c.loop-turn.invariant c.in_err-bad.ensures.value)

pub returns-in_err-skip_items-in_default-clause-value : goal.returns-in_err-skip_items-in_default-clause-value
returns-in_err-skip_items-in_default-clause-value g c =
    let p = err_from_is_err_and c.from_residual-in_err-skip_items-in_default.result c.from_residual-in_err-skip_items-in_default.ensures.1 in
    rw (p.1, p.2) (bad_list_fails g.I.Item.item _ c.args.kind c.args.reader.now c.loop-turn.reader c.read_item.new.reader c.args.count c.loop-turn.turn c.loop-turn.items c.in_ok-bad.bad _ c.loop-turn-test.true c.loop-turn.invariant c.in_default.not-Value c.in_ok-bad.ensures.value c.in_ok-bad.ensures.shorter c.in_err-skip_items-in_default.ensures.value)

pub returns-in_default-clause-value : goal.returns-in_default-clause-value
returns-in_default-clause-value g c =
    rw c.as_items.ensures (bad_list g.I.Item.item _ c.args.kind c.args.reader.now c.loop-turn.reader c.read_item.new.reader c.skip_items.new.reader c.args.count c.loop-turn.turn c.loop-turn.items c.in_ok-bad.bad c.loop-turn-test.true c.loop-turn.invariant c.in_default.not-Value c.in_ok-bad.ensures.value c.in_ok-bad.ensures.shorter c.in_ok-skip_items-in_default.ensures.value)

pub loop-turn-preserved : goal.loop-turn-preserved
loop-turn-preserved g c =
    item_added g.I.Item.item _ c.args.kind c.args.reader.now c.loop-turn.reader c.read_item.new.reader c.args.count c.loop-turn.turn c.loop-turn.items c.append.new.items _ c.in-Value.item c.loop-turn-test.true c.loop-turn.invariant c.in-Value.is c.in_ok-bad.ensures.value c.in_ok-bad.ensures.shorter c.in_ok-append-in-Value.ensures
