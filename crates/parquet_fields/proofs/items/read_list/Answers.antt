use Rattle.std.proofs.lemmas.Result.{err_from_is_err_and}
use Rattle.parquet_fields.proofs.ItemLoops.{list_value, list_fails}
use Rattle.parquet_fields.proofs.items.read_list.Goals as goal

pub returns-in_err-items-clause-value : goal.returns-in_err-items-clause-value
returns-in_err-items-clause-value g c =
    let p = err_from_is_err_and c.from_residual-in_err-items.result c.from_residual-in_err-items.ensures.1 in
    rw (p.1, p.2) (list_fails g.I.Item.item c.args.reader.now c.list_begin.new.self (c.in_ok-kind.kind, c.in_ok-kind.count) _ c.in_ok-kind.ensures.value c.in_err-items.ensures.value)

pub returns-clause-value : goal.returns-clause-value
returns-clause-value g c =
    list_value g.I.Item.item c.args.reader.now c.list_begin.new.self c.read_items.new.reader c.list_end.new.self (c.in_ok-kind.kind, c.in_ok-kind.count) _ c.in_ok-kind.ensures.value c.in_ok-items.ensures.value c.list_end.ensures.rest c.list_end.ensures.closes
