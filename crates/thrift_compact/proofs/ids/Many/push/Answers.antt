use Rattle.std.proofs.Common.{◌∙◌, ap, ◌∷◌, [], ◌++◌, w16}
use Rattle.std.proofs.lemmas.Int.{to_z-of_z}
use Rattle.thrift_compact.proofs.Among.{index_pushed}
use Rattle.thrift_compact.proofs.ids.Many.push.Goals as goal

pub invariant_of-self-2 : goal.invariant_of-self-2
invariant_of-self-2 c =
    index_pushed c.self.inside.index _ c.self.inside.items.items _ c.args.id _ c.self.invariant (to_z-of_z w16 c.args.id c.ranges.id) c.in_ok-insert.ensures.updates (c.push_reserved.ensures.items
    ∙ (ap (λ x. c.reserve.new.self.items ++ x ∷ []) (to_z-of_z w16 c.args.id c.ranges.id)
    ∙ ap (λ xs. xs ++ c.args.id ∷ []) c.reserve.ensures.items))
