use Rattle.std.proofs.Common.{refl, sym}
use Rattle.crypto_module.proofs.Sizes.{ctr_sized_is}
use Rattle.crypto_module.proofs.InPlace.{not_ok}
use Rattle.crypto_module.proofs.CounterMode.{ctr_none_held, ctr_left_answer, ctr_left_open}
use Rattle.crypto_module.proofs.ctr_module.read_ctr.Goals as goal

pub returns-in_err-size-clause-accepted : goal.returns-in_err-size-clause-accepted
returns-in_err-size-clause-accepted c =
    not_ok c.from_residual.result _ c.from_residual.ensures.0
    (λ held. ctr_none_held c.args.key.now c.args.place.now c.args.at c.args.limit c.args.bytes.now c.in_err-size.field-0.0
    c.requires.small_limit (sym c.in_err-size.ensures.size) held.0 held.1)

pub returns-clause-answer : goal.returns-clause-answer
returns-clause-answer c =
    ctr_left_answer c.args.key.now c.args.place.now c.args.at c.args.limit c.args.bytes.now c.in_ok-size.size c.nonce_of-nonce.result c.ctr_in_place.new.buffer
    (sym c.in_ok-size.ensures.size) c.nonce_of-nonce.ensures c.ctr_in_place.ensures

pub returns-clause-opened : goal.returns-clause-opened
returns-clause-opened c =
    ctr_left_open c.args.key.now c.args.limit c.args.bytes.now c.in_ok-size.size c.nonce_of-nonce.result c.ctr_in_place.new.buffer c.in_ok-size.ensures.field
    (ctr_sized_is c.args.place.now c.args.at c.args.limit c.args.bytes.now c.in_ok-size.size (sym c.in_ok-size.ensures.size)) c.nonce_of-nonce.ensures c.ctr_in_place.ensures

pub returns-clause-accepted : goal.returns-clause-accepted
returns-clause-accepted c = (λ _. (_, (_, (returns-clause-opened c).module_at_front)), λ _. refl)
