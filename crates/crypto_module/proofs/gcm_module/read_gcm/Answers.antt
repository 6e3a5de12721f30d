use Rattle.std.proofs.Common.{refl, sym}
use Rattle.crypto_module.proofs.Sizes.{sized_is}
use Rattle.crypto_module.proofs.InPlace.{frame_refused, not_ok, none_held, left_open, left_answer, left_refused}
use Rattle.crypto_module.proofs.gcm_module.read_gcm.Goals as goal

pub returns-in_err-size-clause-accepted : goal.returns-in_err-size-clause-accepted
returns-in_err-size-clause-accepted c =
    let refused = frame_refused c.args.key.now c.args.aad.now c.args.place.now c.args.at c.args.limit c.args.fill c.args.bytes.now c.in_err-size.field-0.0
    (sym c.in_err-size.ensures.size) in
    not_ok c.from_residual.result _ c.from_residual.ensures.0
    (λ held. none_held c.args.key.now c.args.aad.now c.args.place.now c.args.at c.args.limit c.args.fill c.args.bytes.now c.in_err-size.field-0.0
    c.requires.small_limit refused held.0 held.1)

pub returns-in-Ok-clause-answer : goal.returns-in-Ok-clause-answer
returns-in-Ok-clause-answer c =
    left_answer c.args.key.now c.args.aad.now c.args.place.now c.args.at c.args.limit c.args.fill c.args.bytes.now c.in_ok-size.size
    c.nonce_of-nonce.result c.stored_of-tag.result c.open_in_place.new.buffer (sym c.in_ok-size.ensures.size)
    c.nonce_of-nonce.ensures c.stored_of-tag.ensures (c.in-Ok.ensures.accepted.0 refl) c.in-Ok.ensures.opened

pub returns-in-Ok-clause-opened : goal.returns-in-Ok-clause-opened
returns-in-Ok-clause-opened c =
    left_open c.args.key.now c.args.aad.now c.args.limit c.args.fill c.args.bytes.now c.in_ok-size.size c.nonce_of-nonce.result c.stored_of-tag.result
    c.open_in_place.new.buffer c.in_ok-size.ensures.field
    (sized_is c.args.place.now c.args.at c.args.limit c.args.fill c.args.bytes.now c.in_ok-size.size (sym c.in_ok-size.ensures.size))
    c.nonce_of-nonce.ensures c.stored_of-tag.ensures (c.in-Ok.ensures.accepted.0 refl) c.in-Ok.ensures.opened

pub returns-in-Ok-clause-accepted : goal.returns-in-Ok-clause-accepted
returns-in-Ok-clause-accepted c = (λ _. (_, (returns-in-Ok-clause-opened c).held), λ _. refl)

pub returns-in-Err-clause-answer : goal.returns-in-Err-clause-answer
returns-in-Err-clause-answer c =
    left_refused c.args.key.now c.args.aad.now c.args.place.now c.args.at c.args.limit c.args.fill c.args.bytes.now c.in_ok-size.size
    c.nonce_of-nonce.result c.stored_of-tag.result c.in-Err.e.expected c.in-Err.e.stored c.refusal_at.result (sym c.in_ok-size.ensures.size)
    c.nonce_of-nonce.ensures c.stored_of-tag.ensures c.in-Err.ensures.accepted.1 c.in-Err.ensures.expected c.in-Err.ensures.stored c.refusal_at.ensures

pub returns-in-Err-clause-accepted : goal.returns-in-Err-clause-accepted
returns-in-Err-clause-accepted c = (
  λ e. cc,
  λ held. none_held c.args.key.now c.args.aad.now c.args.place.now c.args.at c.args.limit c.args.fill c.args.bytes.now c.refusal_at.result
      c.requires.small_limit (sym (returns-in-Err-clause-answer c)) held.0 held.1,
)
