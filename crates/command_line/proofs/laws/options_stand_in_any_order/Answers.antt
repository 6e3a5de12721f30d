use Rattle.command_line.proofs.Lines.{lines_are_options, options_are_lines, values_are_given, flags_are_given, lines_ask_by_givens, order_is_free, commands_have_lines}
use Rattle.command_line.proofs.laws.options_stand_in_any_order.Goals as goal

pub returns-clause-options : goal.returns-clause-options
returns-clause-options c = lines_are_options

pub returns-clause-lines : goal.returns-clause-lines
returns-clause-lines c = options_are_lines

pub returns-clause-values : goal.returns-clause-values
returns-clause-values c = values_are_given

pub returns-clause-flags : goal.returns-clause-flags
returns-clause-flags c = flags_are_given

pub returns-clause-asked : goal.returns-clause-asked
returns-clause-asked c = lines_ask_by_givens

pub returns-clause-order : goal.returns-clause-order
returns-clause-order c = order_is_free

pub returns-clause-whole : goal.returns-clause-whole
returns-clause-whole c = commands_have_lines
