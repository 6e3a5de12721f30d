use Rattle.std.proofs.Common.{true, sym, ◌∙◌}
use Rattle.footer_modes.proofs.RefusedAt.{opened_at}
use Rattle.footer_modes.proofs.opening.sealed_plain.Goals as goal

pub returns-in-Err-clause-place : goal.returns-in-Err-clause-place
returns-in-Err-clause-place c =
    opened_at c.args.key.now c.args.aad.now c.footer.result c.args.at 16777216 true c.args.module.now c.in-Err.refusal (sym c.in-Err.ensures.answer)
    ∙ c.footer.ensures
