use Rattle.std.proofs.Common.{◌++◌, sym, ap, ◌∙◌, arith}
use Rattle.std.proofs.lemmas.List.{append-nil}
use Rattle.plain_pages.proofs.PageLemmas.{arrays_none, arrays_inside, arrays_turn}
use Rattle.plain_pages.proofs.plain.near_arrays.Goals as goal

pub returns-in_default : goal.returns-in_default
returns-in_default c =
    let items = c.loop.places.items in
    c.listed.ensures
    ∙ sym (c.loop.invariant.1 ∙ ap (λ more. items ++ more) (arrays_none _ c.loop.place c.args.body.now c.in_default.ensures) ∙ append-nil items)

pub loop-preserved : goal.loop-preserved
loop-preserved c = (
  arrays_inside c.loop.place c.in-Some.next c.args.body.now c.in-Some.ensures,
  c.loop.invariant.1
      ∙ arrays_turn c.loop.places.items c.push.new.self.items _ _ c.loop.place c.in-Some.next c.args.body.now (omega arith) c.in_ok-push.ensures.items c.in-Some.ensures,
)
