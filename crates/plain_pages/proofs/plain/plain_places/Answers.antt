use Rattle.std.proofs.Common.{sym, ◌∙◌}
use Rattle.plain_pages.proofs.PageLemmas.{places-stepped}
use Rattle.plain_pages.proofs.plain.plain_places.Goals as goal

pub returns-in-Some : goal.returns-in-Some
returns-in-Some c =
    c.fixed_size_places.ensures ∙ sym (places-stepped c.args.kind c.in-Some.size c.args.count _ c.args.body.now c.in-Some.ensures)
