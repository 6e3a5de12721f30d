use Rattle.std.proofs.Common.{◌≡◌, ◌*◌, map, length, take}
use Rattle.aes_block.specs.Basis.{inner_key}
use Rattle.aes_block.proofs.rounds.inner_keys.Given as goal

abbrev pub invariant-loop-r : goal.invariant-loop-r
invariant-loop-r l = (length l.keys ≡ 240) × (take (16 * l.r) l.keys ≡ map inner_key (take (16 * l.r) l.round_keys))
