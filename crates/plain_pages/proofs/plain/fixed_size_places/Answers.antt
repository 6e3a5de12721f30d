use Rattle.std.proofs.Common.{◌*◌, ap, ◌∙◌}
use Rattle.plain_pages.specs.PlacesInside.{stepped}
use Rattle.plain_pages.proofs.PageLemmas.{bits_within}
use Rattle.plain_pages.proofs.plain.fixed_size_places.Goals as goal

pub returns-in-Boolean : goal.returns-in-Boolean
returns-in-Boolean c =
    c.stepped_places.ensures
    ∙ ap (λ n. stepped c.args.size (8 * n) c.args.count (8 * c.args.start)) c.min.ensures
    ∙ bits_within c.args.kind c.args.size c.args.count c.args.start c.args.length c.in-Boolean.is c.requires.size
