use Rattle.std.proofs.Common.{lit≤, rules, ◌∙◌, sym}
use Rattle.std.specs.Int.{w64}
use Rattle.table_text.proofs.Numerals.{number_fits, number_none}
use Rattle.table_text.proofs.numbers.int64_read.Goals as goal

pub returns-in_err-decimal_read : goal.returns-in_err-decimal_read
returns-in_err-decimal_read c =
    c.from_residual.ensures ∙ number_none w64 c.args.field.now (lit≤ tt) (sym c.decimal_read.ensures ∙ c.in_err-decimal_read.was)

pub returns : goal.returns
returns c =
    c.ok.ensures.value ∙
    number_fits w64 c.args.field.now c.in_ok-decimal_read.field-0 c.try_from.result (sym c.decimal_read.ensures ∙ c.in_ok-decimal_read.was) (search rules) c.try_from.ensures
