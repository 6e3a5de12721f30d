use Rattle.std.proofs.Common.{◌≡◌, ◌-◌, ◌++◌, length, take, drop, vec_len, ap, ◌∙◌, arith}
use Rattle.hybrid_runs.specs.Hybrid.{run_values}
use Rattle.hybrid_runs.proofs.Runs.{run_turn, reads_none, reads_enough}
use Rattle.hybrid_runs.proofs.reading.first_values.Goals as goal
use Rattle.hybrid_runs.proofs.reading.first_values.Goals.{else-loop-rest-test, then-loop-rest-test+in_default}

pub loop-rest-preserved : goal.loop-rest-preserved
loop-rest-preserved c =
    let so = c.loop-rest.invariant in
    let values = c.loop-rest.values in
    let size : vec_len values ≡ length values.items = omega (arith, values.ok) in
    let pushed : c.push_run.new.values.items ≡ values.items ++ take (c.args.count - length values.items) (run_values c.args.width c.in-Some.header c.in-Some.run'.now) =
    c.in_ok-push_run.ensures ∙ rw size in
    run_turn c.args.count c.args.width c.in-Some.header so.turns _ values.items c.push_run.new.values.items c.loop-rest.rest.now c.in-Some.run'.now c.bytes_after-rest.result.now
    so.within so.enough so.same c.in-Some.ensures.header c.in-Some.ensures.shorter pushed (c.bytes_after-rest.ensures ∙ ap (λ n. drop n c.in-Some.run'.now) c.run_size.ensures)

pub returns : goal.returns
returns c =
    let so = c.loop-rest.invariant in
    let values = c.loop-rest.values in
    elim c.loop-rest-test.branch [
      | else-loop-rest-test w ↦ reads_enough _ _ _ _ _ so (omega (arith, values.ok, w.loop-rest-test.false, c.len.ensures))
      | then-loop-rest-test+in_default w ↦ reads_none _ _ _ _ _ so w.in_default.ensures.header
    ]
