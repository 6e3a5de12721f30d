use Rattle.std.proofs.Common.{◌≡◌, Bool, true, false, not, refl, ◌∙◌}
use Rattle.pme_base.proofs.Trees.{contains_of, insert_of}
use Rattle.key_rights.proofs.nonces.NonceSet.take.Goals as goal

was_there : (added there : Bool) → added ≡ not there → added ≡ false → there ≡ true
was_there added true opposite is = refl
was_there added false opposite is = cc

was_not : (added there : Bool) → added ≡ not there → added ≡ true → there ≡ false
was_not added true opposite is = cc
was_not added false opposite is = refl

pub returns-in-Ok-false-clause-repeated : goal.returns-in-Ok-false-clause-repeated
returns-in-Ok-false-clause-repeated c = λ _.
    rw (← c.self.view_is, ← c.in-Ok.ensures)
    (contains_of (λ v. v.items) c.self.inside.taken.keys c.in-Ok.entry ∙ was_there _ _ c.in-Ok-false.ensures.added c.in-Ok-false.field-0-test)

pub returns-clause-fresh : goal.returns-clause-fresh
returns-clause-fresh c =
    rw (← c.self.view_is, ← c.in-Ok.ensures)
    (contains_of (λ v. v.items) c.self.inside.taken.keys c.in-Ok.entry ∙ was_not _ _ c.in-Ok-true.ensures.added c.in-Ok-true.field-0-test)

pub returns-clause-taken : goal.returns-clause-taken
returns-clause-taken c =
    rw (← c.self.view_is, ← c.in-Ok.ensures, c.in-Ok-true.ensures.keys) (insert_of (λ v. v.items) c.self.inside.taken.keys c.in-Ok.entry)
