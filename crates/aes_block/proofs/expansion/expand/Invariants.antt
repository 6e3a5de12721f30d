use Rattle.std.proofs.Common.{◌≡◌, ◌-◌, ◌*◌, length, take}
use Rattle.aes_block.specs.Aes.{schedule_after}
use Rattle.aes_block.proofs.expansion.expand.Given as goal

abbrev pub invariant-loop-i : goal.invariant-loop-i
invariant-loop-i l = (take (length l.bytes) l.words ≡ l.bytes) × (take (4 * l.i) l.words ≡ schedule_after l.bytes l.key_words (l.i - l.key_words))
