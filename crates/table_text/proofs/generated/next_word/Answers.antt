use Rattle.std.proofs.Common.{ℕ, ap}
use Rattle.rand_pcg.specs.Lcg.{Lcg}
use Rattle.table_text.specs.Generated.{later, word}
use Rattle.table_text.proofs.generated.next_word.Goals as goal

pub returns-clause-word : goal.returns-clause-word
unfolding word
returns-clause-word c = ap (λ (p : ℕ × Lcg). p.0) c.next_word.ensures

pub returns-clause-later : goal.returns-clause-later
unfolding later
returns-clause-later c = ap (λ (p : ℕ × Lcg). p.1) c.next_word.ensures
