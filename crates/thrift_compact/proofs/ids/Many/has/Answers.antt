use Rattle.std.proofs.Common.{sym, ap, ◌∙◌, w16}
use Rattle.std.proofs.lemmas.Int.{to_z-of_z}
use Rattle.std.specs.BTreeSet.{contains}
use Rattle.std.specs.Ordering.{int_cmp}
use Rattle.thrift_compact.specs.Reading.{is_among}
use Rattle.thrift_compact.proofs.ids.Many.has.Goals as goal

pub returns : goal.returns
returns c =
    c.contains.ensures
    ∙ (ap (contains int_cmp c.self.inside.index) (to_z-of_z w16 c.args.id c.ranges.id)
    ∙ (sym (c.self.invariant.same c.args.id) ∙ ap (is_among c.args.id) c.self.view_is))
