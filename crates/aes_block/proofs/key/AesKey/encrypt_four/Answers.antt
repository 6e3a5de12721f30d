use Rattle.std.proofs.Common.{◌≡◌, ◌+◌, ◌*◌, ◌/◌, length, take, sym, ap, ◌∙◌, arith}
use Rattle.std.proofs.lemmas.List.{length-take-le}
use Rattle.aes_block.specs.Aes.{aes, cipher}
use Rattle.aes_block.specs.FourBlocks.{lane_block}
use Rattle.aes_block.proofs.Schedules.{words_of, cipher-take}
use Rattle.aes_block.proofs.key.AesKey.encrypt_four.Goals as goal

pub returns : goal.returns
unfolding aes
returns c b lt =
    let n = c.self.inside.key_length in
    let w = c.self.inside.round_keys in
    let block = lane_block c.args.blocks b in
    let words = words_of n c.self.invariant.long in
    let long : length (take n w) ≡ n = length-take-le n w (omega arith) in
    c.encrypt.ensures b lt
    ∙ sym (cipher-take w block (4 * n + 112) (n / 4 + 5) (omega arith))
    ∙ (λ i. cipher (c.self.invariant.expanded i) (sym long i / 4 + 5) block)
    ∙ ap (λ key. aes key block) c.self.view_is
