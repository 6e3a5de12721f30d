use Rattle.std.proofs.Common.{rules, ◌≡◌, ◌+◌, ◌≤◌, length, ◌∙◌, arith}
use Rattle.pme_base.proofs.ReadSteps.{more_read}
use Rattle.pme_base.proofs.reading.read_full.Goals as goal

pub loop-done-preserved : goal.loop-done-preserved
loop-done-preserved g c =
    let before = c.loop-done.invariant in
    let step = c.in_ok-count.ensures in
    let here : c.in-Some.place ≡ c.args.at + c.loop-done.done = search rules in
    let fits : c.in_ok-count.count ≤ length c.read_at.new.into = search rules in
    record {
      within = search rules;
      published = step.published ∙ before.published;
      pending = step.pending ∙ before.pending;
      given = record { least = omega (arith, before.given.least, before.given.most, step.given); most = omega (arith, before.given.most, step.given) };
      later = omega (arith, before.later, step.cause.later);
      read_so_far = more_read _ _ _ _ _ _ _ _ before.within fits here before.read_so_far (rw before.published at step.answered);
    }
