use Rattle.std.proofs.Common.{◌≡◌, subst, sym, ap}
use Rattle.thrift_compact.specs.Standing.{IsStruct}
use Rattle.thrift_compact.proofs.Stacks.{same_stack, stack_after_head}
use Rattle.thrift_compact.proofs.reader.Reader.field.Goals as goal

pub invariant_of-self : goal.invariant_of-self
invariant_of-self c =
    let same : c.self.inside.inner ≡ c.args.self.now.inner = ap (λ s. s.inner) c.self.view_is in
    stack_after_head _ _ _ _ _ c.in-Ok-Some.field-0-is c.in-Ok-Some.ensures.taken (subst IsStruct (sym same) c.requires) c.self.invariant

pub invariant_of-self-in-Err : goal.invariant_of-self-in-Err
invariant_of-self-in-Err c =
    let same : c.self.inside.inner ≡ c.args.self.now.inner = ap (λ s. s.inner) c.self.view_is in
    same_stack c.self.inside.inner _ _ (subst IsStruct (sym same) c.requires) c.in-Err.ensures.taken c.self.invariant
