use Rattle.std.proofs.Common.{◌≡◌, ◌-◌, ◌/◌, sym, ap, ◌∙◌, arith}
use Rattle.plain_pages.specs.PlacesInside.{even}
use Rattle.plain_pages.proofs.PlaceLists.{stepped-even, stepped-same}
use Rattle.plain_pages.proofs.plain.stepped_places.Goals as goal

pub returns-then-size-eq0 : goal.returns-then-size-eq0
returns-then-size-eq0 c =
    let none : c.args.size ≡ 0 = c.if-size-eq0.true in
    c.even.ensures ∙ rw none (sym (stepped-same c.args.count c.args.end c.args.first c.requires.first))

pub returns : goal.returns
returns c =
    let fit = (c.args.end - c.args.first) / c.args.size in
    c.even-2.ensures ∙ ap (λ n. even c.args.first c.args.size n) c.min.ensures
    ∙ sym (stepped-even c.args.count c.args.size c.args.end c.args.first fit c.requires.first (omega arith) (omega arith))
