use Rattle.std.proofs.Common.{◌≡◌, false, length, ap, ◌∙◌}
use Rattle.plain_pages.specs.PageInside.{levels_read}
use Rattle.plain_pages.proofs.PlaceLists.{length-every}
use Rattle.plain_pages.proofs.PageLemmas.{ranks_of-required, defined-required}
use Rattle.plain_pages.proofs.levels.read_levels.Goals as goal

pub returns-then-not-optional-clause-answers : goal.returns-then-not-optional-clause-answers
unfolding levels_read
returns-then-not-optional-clause-answers c = λ answered.
    let required : c.args.optional ≡ false = c.if-not-optional.true in
    rw (required, ranks_of-required c.args.count, defined-required c.args.count, c.every.ensures)

pub returns-then-not-optional-clause-count : goal.returns-then-not-optional-clause-count
returns-then-not-optional-clause-count c = ap length c.every.ensures ∙ length-every c.args.count
