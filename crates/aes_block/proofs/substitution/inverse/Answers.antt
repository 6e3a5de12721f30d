use Rattle.std.proofs.Common.{◌/◌, ◌%◌, refl, bit_xor}
use Rattle.std.proofs.lemmas.Simd.{zip2_of_maps}
use Rattle.aes_block.specs.Basis.{scaled, high_index, low_index}
use Rattle.aes_block.specs.HalfBytes.{found}
use Rattle.aes_block.specs.declared.substitution.TheConstants.{INVERSE, INVERSE_SCALED}
use Rattle.aes_block.proofs.Bytes.{indices_of, mapped}
use Rattle.aes_block.proofs.substitution.inverse.Goals as goal

pub look_up-scaled-requires : goal.look_up-scaled-requires
look_up-scaled-requires c =
    let v = c.args.pairs in
    indices_of (λ x. x % 16) v _ c.low_half-k.ensures refl c.fits-pairs.1

pub look_up-requires : goal.look_up-requires
look_up-requires c =
    let v = c.args.pairs in
    indices_of (λ x. x / 16) v _ c.high_half-i.ensures refl c.fits-pairs.1

pub look_up-requires-2 : goal.look_up-requires-2
look_up-requires-2 c =
    let v = c.args.pairs in
    let js = zip2_of_maps bit_xor (λ x. x / 16) (λ x. x % 16) v c.high_half-i.ensures c.low_half-k.ensures in
    indices_of (λ x. bit_xor (x / 16) (x % 16)) v _ js refl c.fits-pairs.1

pub look_up-requires-3 : goal.look_up-requires-3
look_up-requires-3 c =
    let v = c.args.pairs in
    let scales = mapped (found INVERSE_SCALED) (λ x. x % 16) v _ _ c.look_up-scaled.ensures c.low_half-k.ensures in
    let inverse_is = mapped (found INVERSE) (λ x. x / 16) v _ _ c.look_up.ensures c.high_half-i.ensures in
    let firsts = zip2_of_maps bit_xor (λ x. found INVERSE (x / 16)) scaled v inverse_is scales in
    indices_of (λ x. bit_xor (found INVERSE (x / 16)) (scaled x)) v _ firsts refl c.fits-pairs.1

pub look_up-requires-4 : goal.look_up-requires-4
look_up-requires-4 c =
    let v = c.args.pairs in
    let js = zip2_of_maps bit_xor (λ x. x / 16) (λ x. x % 16) v c.high_half-i.ensures c.low_half-k.ensures in
    let scales = mapped (found INVERSE_SCALED) (λ x. x % 16) v _ _ c.look_up-scaled.ensures c.low_half-k.ensures in
    let inverse_js = mapped (found INVERSE) (λ x. bit_xor (x / 16) (x % 16)) v _ _ c.look_up-2.ensures js in
    let seconds = zip2_of_maps bit_xor (λ x. found INVERSE (bit_xor (x / 16) (x % 16))) scaled v inverse_js scales in
    indices_of (λ x. bit_xor (found INVERSE (bit_xor (x / 16) (x % 16))) (scaled x)) v _ seconds refl c.fits-pairs.1

pub returns-clause-high : goal.returns-clause-high
returns-clause-high c =
    let v = c.args.pairs in
    let js = zip2_of_maps bit_xor (λ x. x / 16) (λ x. x % 16) v c.high_half-i.ensures c.low_half-k.ensures in
    let scales = mapped (found INVERSE_SCALED) (λ x. x % 16) v _ _ c.look_up-scaled.ensures c.low_half-k.ensures in
    let inverse_is = mapped (found INVERSE) (λ x. x / 16) v _ _ c.look_up.ensures c.high_half-i.ensures in
    let firsts = zip2_of_maps bit_xor (λ x. found INVERSE (x / 16)) scaled v inverse_is scales in
    let inverse_firsts = mapped (found INVERSE) (λ x. bit_xor (found INVERSE (x / 16)) (scaled x)) v _ _ c.look_up-3.ensures firsts in
    let highs = zip2_of_maps bit_xor (λ x. found INVERSE (bit_xor (found INVERSE (x / 16)) (scaled x))) (λ x. bit_xor (x / 16) (x % 16)) v inverse_firsts js in
    highs

pub returns-clause-low : goal.returns-clause-low
returns-clause-low c =
    let v = c.args.pairs in
    let js = zip2_of_maps bit_xor (λ x. x / 16) (λ x. x % 16) v c.high_half-i.ensures c.low_half-k.ensures in
    let scales = mapped (found INVERSE_SCALED) (λ x. x % 16) v _ _ c.look_up-scaled.ensures c.low_half-k.ensures in
    let inverse_js = mapped (found INVERSE) (λ x. bit_xor (x / 16) (x % 16)) v _ _ c.look_up-2.ensures js in
    let seconds = zip2_of_maps bit_xor (λ x. found INVERSE (bit_xor (x / 16) (x % 16))) scaled v inverse_js scales in
    let inverse_seconds = mapped (found INVERSE) (λ x. bit_xor (found INVERSE (bit_xor (x / 16) (x % 16))) (scaled x)) v _ _ c.look_up-4.ensures seconds in
    let lows = zip2_of_maps bit_xor (λ x. found INVERSE (bit_xor (found INVERSE (bit_xor (x / 16) (x % 16))) (scaled x))) (λ x. x / 16) v inverse_seconds c.high_half-i.ensures in
    lows

pub returns-clause-indices : goal.returns-clause-indices
returns-clause-indices c =
    let v = c.args.pairs in
    let js = zip2_of_maps bit_xor (λ x. x / 16) (λ x. x % 16) v c.high_half-i.ensures c.low_half-k.ensures in
    let scales = mapped (found INVERSE_SCALED) (λ x. x % 16) v _ _ c.look_up-scaled.ensures c.low_half-k.ensures in
    let inverse_is = mapped (found INVERSE) (λ x. x / 16) v _ _ c.look_up.ensures c.high_half-i.ensures in
    let firsts = zip2_of_maps bit_xor (λ x. found INVERSE (x / 16)) scaled v inverse_is scales in
    let inverse_js = mapped (found INVERSE) (λ x. bit_xor (x / 16) (x % 16)) v _ _ c.look_up-2.ensures js in
    let seconds = zip2_of_maps bit_xor (λ x. found INVERSE (bit_xor (x / 16) (x % 16))) scaled v inverse_js scales in
    let inverse_firsts = mapped (found INVERSE) (λ x. bit_xor (found INVERSE (x / 16)) (scaled x)) v _ _ c.look_up-3.ensures firsts in
    let highs = zip2_of_maps bit_xor (λ x. found INVERSE (bit_xor (found INVERSE (x / 16)) (scaled x))) (λ x. bit_xor (x / 16) (x % 16)) v inverse_firsts js in
    let inverse_seconds = mapped (found INVERSE) (λ x. bit_xor (found INVERSE (bit_xor (x / 16) (x % 16))) (scaled x)) v _ _ c.look_up-4.ensures seconds in
    let lows = zip2_of_maps bit_xor (λ x. found INVERSE (bit_xor (found INVERSE (bit_xor (x / 16) (x % 16))) (scaled x))) (λ x. x / 16) v inverse_seconds c.high_half-i.ensures in
    (indices_of high_index v _ highs refl c.fits-pairs.1, indices_of low_index v _ lows refl c.fits-pairs.1)
