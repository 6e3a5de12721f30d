use Rattle.std.proofs.Common.{bit_xor}
use Rattle.std.proofs.lemmas.Simd.{zip2_of_maps}
use Rattle.aes_block.specs.Basis.{high_index, low_index}
use Rattle.aes_block.specs.HalfBytes.{found}
use Rattle.aes_block.specs.declared.substitution.TheConstants.{ONCE_LOW, ONCE_HIGH, TWICE_LOW, TWICE_HIGH}
use Rattle.aes_block.proofs.Bytes.{mapped}
use Rattle.aes_block.proofs.substitution.sub_bytes_and_double.Goals as goal

pub returns-clause-once : goal.returns-clause-once
returns-clause-once c =
    let highs = mapped (found ONCE_HIGH) high_index c.args.pairs _ _ c.look_up.ensures c.inverse.ensures.high in
    let lows = mapped (found ONCE_LOW) low_index c.args.pairs _ _ c.look_up-2.ensures c.inverse.ensures.low in
    zip2_of_maps bit_xor (λ x. found ONCE_HIGH (high_index x)) (λ x. found ONCE_LOW (low_index x)) c.args.pairs highs lows

pub returns-clause-twice : goal.returns-clause-twice
returns-clause-twice c =
    let highs = mapped (found TWICE_HIGH) high_index c.args.pairs _ _ c.look_up-3.ensures c.inverse.ensures.high in
    let lows = mapped (found TWICE_LOW) low_index c.args.pairs _ _ c.look_up-4.ensures c.inverse.ensures.low in
    zip2_of_maps bit_xor (λ x. found TWICE_HIGH (high_index x)) (λ x. found TWICE_LOW (low_index x)) c.args.pairs highs lows
