use Rattle.crypto_module.proofs.Sealed.{sealed_if_opened, opened_if_held}
use Rattle.crypto_module.proofs.opens_exactly_what_is_sealed.Goals as goal

pub returns : goal.returns
returns c key aad plain place at limit fill bytes each small =
    (sealed_if_opened key aad plain place at limit fill bytes each, opened_if_held key aad plain place at limit fill bytes small)
