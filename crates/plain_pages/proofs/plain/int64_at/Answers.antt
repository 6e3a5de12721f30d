use Rattle.std.proofs.Common.{◌≡◌, ◌≤◌, FitsSigned, w64, length, take, drop, ap, ◌∙◌, rules}
use Rattle.std.proofs.lemmas.Int.{to_z-of_z}
use Rattle.plain_pages.specs.Cells.{int64}
use Rattle.plain_pages.proofs.PageLemmas.{int64_there}
use Rattle.plain_pages.proofs.plain.int64_at.Goals as goal

pub returns-in-Some : goal.returns-in-Some
returns-in-Some c =
    let fits : FitsSigned w64 c.from_le_bytes.result = search rules in
    let chunk = c.in-Some.ensures.cases in
    let there : 8 ≤ length (drop c.args.place c.args.body.now) = rw (← c.rest_from.ensures) chunk.enough in
    let front : c.in-Some.bytes.now ≡ take 8 (drop c.args.place c.args.body.now) = chunk.same ∙ ap (take 8) c.rest_from.ensures in
    ap int64 (to_z-of_z w64 c.from_le_bytes.result fits)
    ∙ int64_there c.args.place c.args.body.now c.in-Some.bytes.now c.from_le_bytes.result there front c.from_le_bytes.ensures
