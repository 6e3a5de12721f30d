use Rattle.crypto_module.proofs.CounterMode.{held_if_opened, opened_if_holds}
use Rattle.crypto_module.proofs.opens_exactly_what_is_encrypted.Goals as goal

pub returns : goal.returns
returns c key plain place at limit bytes each small =
    (held_if_opened key plain place at limit bytes each, opened_if_holds key plain place at limit bytes small)
