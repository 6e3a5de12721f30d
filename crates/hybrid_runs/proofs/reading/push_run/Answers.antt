use Rattle.std.proofs.Common.{◌-◌, vec_len}
use Rattle.hybrid_runs.proofs.Runs.{odd_run}
use Rattle.hybrid_runs.proofs.reading.push_run.Goals as goal

pub returns-else-header-eq0 : goal.returns-else-header-eq0
returns-else-header-eq0 c =
    rw (odd_run c.args.width c.args.header (c.args.count - vec_len c.args.values.now) c.args.run.now c.if-header-eq0.false, ← c.len.ensures, ← c.min-else-header-eq0.ensures)
    c.push_packed.ensures
