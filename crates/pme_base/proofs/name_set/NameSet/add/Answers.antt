use Rattle.std.proofs.Common.{not, ap, sym, ◌∙◌}
use Rattle.pme_base.proofs.Trees.{contains_of, insert_of}
use Rattle.pme_base.proofs.name_set.NameSet.add.Goals as goal

pub returns-clause-added : goal.returns-clause-added
returns-clause-added c =
    rw (← c.self.view_is, ← c.in_ok-copy.ensures.items)
    (c.in-Ok.ensures.added ∙ ap not (sym (contains_of (λ v. v.items) c.self.inside.names.keys c.in_ok-copy.copy)))

pub returns-clause-with_it : goal.returns-clause-with_it
returns-clause-with_it c =
    rw (← c.self.view_is, ← c.in_ok-copy.ensures.items, c.in-Ok.ensures.keys) (insert_of (λ v. v.items) c.self.inside.names.keys c.in_ok-copy.copy)
