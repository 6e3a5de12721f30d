use Rattle.std.proofs.Common.{◌++◌, ap, ◌∙◌, sym, arith}
use Rattle.std.proofs.lemmas.List.{append-nil}
use Rattle.hybrid_runs.proofs.Runs.{packed_turn, packed_none}
use Rattle.hybrid_runs.proofs.reading.push_packed.Goals as goal

pub returns-in_default : goal.returns-in_default
returns-in_default c =
    let values = c.loop.values.items in
    sym (c.loop.invariant ∙ ap (λ more. values ++ more) (packed_none c.args.width _ _ _ c.in_default.ensures.none) ∙ append-nil values)

pub loop-preserved : goal.loop-preserved
loop-preserved c =
    let next = c.in-Some.ensures in
    c.loop.invariant
    ∙ packed_turn c.loop.values.items c.push.new.self.items c.args.width _ _ _ _ c.in-Some.value _ _ (omega arith) next.there next.value next.number next.bits c.in_ok-push.ensures.items
