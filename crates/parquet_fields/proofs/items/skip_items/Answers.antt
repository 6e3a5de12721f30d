use Rattle.std.proofs.lemmas.Result.{err_from_is_err_and}
use Rattle.parquet_fields.proofs.ItemLoops.{item_passed, item_not_passed}
use Rattle.parquet_fields.proofs.items.skip_items.Goals as goal

pub returns-in_err-skip_element-clause-value : goal.returns-in_err-skip_element-clause-value
returns-in_err-skip_element-clause-value c =
    let p = err_from_is_err_and c.from_residual.result c.from_residual.ensures.1 in
    rw (p.1, p.2) (item_not_passed _ c.args.kind c.args.reader.now c.loop-turn.reader c.args.count c.loop-turn._turn _ c.loop-turn-test.true c.loop-turn.invariant c.in_err-skip_element.ensures.value)

pub loop-turn-preserved : goal.loop-turn-preserved
loop-turn-preserved c =
    item_passed _ c.args.kind c.args.reader.now c.loop-turn.reader c.skip_element.new.self c.args.count c.loop-turn._turn c.loop-turn-test.true c.loop-turn.invariant c.in_ok-skip_element.ensures.value c.in_ok-skip_element.ensures.shorter
