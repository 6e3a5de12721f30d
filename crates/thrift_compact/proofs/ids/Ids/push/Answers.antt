use Rattle.std.proofs.Common.{SFits, w16, w32, arith, rules}
use Rattle.std.proofs.lemmas.Int.{ints, to_z-of_z}
use Rattle.thrift_compact.proofs.Among.{kept_pushed}
use Rattle.thrift_compact.proofs.ids.Ids.push.Goals as goal

pub invariant_of-self-2 : goal.invariant_of-self-2
invariant_of-self-2 c =
    let small : SFits w32 c.max-self-inside.result = search rules in
    rw (c.in_ok-push.ensures.ok, to_z-of_z w16 c.args.id c.ranges.id, to_z-of_z w32 c.max-self-inside.result small) (kept_pushed c.self.inside.last c.self.inside.greatest _ c.args.id _ c.self.invariant (λ id h. (omega (arith, ints, c.max-self-inside.ensures.self_bound), omega (arith, ints, c.max-self-inside.ensures.other_bound))))
