use Rattle.std.proofs.Common.{ap, ◌∙◌}
use Rattle.crypto_module.proofs.Written.{sealed_there}
use Rattle.crypto_module.proofs.writing.seal_module.Goals as goal

pub returns : goal.returns
returns c =
    sealed_there c.args.key.now c.args.aad.now c.args.nonce.now c.args.buffer.now c.seal_in_place-tag.new.buffer c.copy_from_slice.new.self c.requires.whole
    (ap (λ p. p.0) c.seal_in_place-tag.ensures) (c.copy_from_slice.ensures.after ∙ ap (λ p. p.1) c.seal_in_place-tag.ensures)
