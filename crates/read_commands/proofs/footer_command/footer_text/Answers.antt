use Rattle.read_commands.proofs.Tails.{keys_refused, keys_named}
use Rattle.read_commands.proofs.footer_command.footer_text.Goals as goal

pub returns-in-Err-clause-gives : goal.returns-in-Err-clause-gives
returns-in-Err-clause-gives g c =
    rw c.stop_of.ensures.stop (keys_refused c.args.args _ _ (rw c.as_str.ensures at c.in-Err.ensures.answer))

pub returns-in-Err-clause-named : goal.returns-in-Err-clause-named
returns-in-Err-clause-named g c = rw c.stop_of.ensures.stop (keys_named c.args.args _ c.in-Err.ensures.causes)

pub returns-in-Err-clause-unread : goal.returns-in-Err-clause-unread
returns-in-Err-clause-unread g c = rw c.as_str.ensures at c.in-Err.ensures.unread
