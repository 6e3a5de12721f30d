use Rattle.std.proofs.Common.{◌/◌, ◌^◌, arith}
use Rattle.std.proofs.lemmas.Simd.{zip2_splat}
use Rattle.aes_block.proofs.substitution.high_half.Goals as goal

pub returns : goal.returns
returns c = zip2_splat (λ a b. a / 2 ^ b) c.args.v 64 4 (omega arith)
