use Rattle.std.proofs.Common.{◌≡◌, Some, None, sym, ◌∙◌, arith, rules, get_or, take}
use Rattle.std.specs.Str.Parse.{digits_value}
use Rattle.table_text.specs.Numbers.{with_digit}
use Rattle.table_text.proofs.Numerals.{bad_front, no_more, one_more, all_read}
use Rattle.table_text.proofs.numbers.plain_read.Goals as goal

pub returns-then-not-front_is_plain : goal.returns-then-not-front_is_plain
returns-then-not-front_is_plain c = bad_front c.args.digits.now (search rules)

pub returns-in_err-value : goal.returns-in_err-value
returns-in_err-value c =
    let digits = c.args.digits.now in
    let i = c.loop-digit.digit-index in
    let refused : with_digit (digits_value 10 (take i digits)) (get_or digits i 0) ≡ None =
    rw (← c.loop-digit.invariant.1) (sym c.with_digit.ensures ∙ c.in_err-value.was) in
    c.from_residual.ensures ∙ no_more digits i c.loop-digit-test.true refused

pub loop-digit-preserved : goal.loop-digit-preserved
loop-digit-preserved c =
    let digits = c.args.digits.now in
    let i = c.loop-digit.digit-index in
    let added : with_digit (digits_value 10 (take i digits)) (get_or digits i 0) ≡ Some c.in_ok-value.value =
    rw (← c.loop-digit.invariant.1) (sym c.with_digit.ensures ∙ c.in_ok-value.was) in
    one_more digits i c.in_ok-value.value c.loop-digit-test.true added c.loop-digit.invariant.0

pub returns : goal.returns
returns c =
    all_read c.args.digits.now c.loop-digit.digit-index c.loop-digit.value (omega arith) (search rules) c.loop-digit.invariant.0
    c.loop-digit.invariant.1 c.loop-digit.invariant.2
