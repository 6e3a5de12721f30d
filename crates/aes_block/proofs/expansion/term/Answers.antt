use Rattle.std.proofs.Common.{arith}
use Rattle.aes_block.proofs.Schedules.{first_term}
use Rattle.aes_block.proofs.expansion.term.Goals as goal

pub returns-then-i-key_words-eq0 : goal.returns-then-i-key_words-eq0
returns-then-i-key_words-eq0 c =
    let few = c.requires.few in
    first_term c.args.key_words c.args.i c.args.previous c.sub_word.result (omega arith) c.if-i-key_words-eq0.true few.0 few.1 c.sub_word.ensures
