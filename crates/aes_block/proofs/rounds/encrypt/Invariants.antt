use Rattle.std.proofs.Common.{ℕ, ◌<◌}
use Rattle.aes_block.specs.Aes.{state_after}
use Rattle.aes_block.specs.Basis.{IsState}
use Rattle.aes_block.specs.FourBlocks.{lane_block}
use Rattle.aes_block.proofs.rounds.encrypt.Given as goal

abbrev pub invariant-loop-r : goal.invariant-loop-r
invariant-loop-r l = (b : ℕ) → b < 4 → IsState (lane_block l.state b) (state_after l.round_keys (lane_block l.fn.blocks b) l.r)
