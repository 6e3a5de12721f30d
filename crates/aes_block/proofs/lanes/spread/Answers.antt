use Rattle.aes_block.proofs.Blocks.{spread_is}
use Rattle.std.proofs.Common.{arith}
use Rattle.aes_block.proofs.lanes.spread.Goals as goal

pub returns : goal.returns
returns c = spread_is c.args.block (omega arith)
