use Rattle.std.proofs.Common.{rules, ◌≡◌, length, nat_le, true}
use Rattle.key_rights.specs.declared.nonces.NonceOwner.TheVariants.{Master}
use Rattle.crypto_tests.proofs.Drawing.{took, made_ok}
use Rattle.crypto_tests.proofs.drawing_maker.DrawingMaker.made.Goals as goal

pub returns-in_err-metadata-clause-nonces : goal.returns-in_err-metadata-clause-nonces
returns-in_err-metadata-clause-nonces g c =
    took _ _ _ _ _ (Master c.in_ok-copy_of.field-0) c.fill-2.new.into c.in-Ok-take.ensures.taken c.in-Ok.ensures.rest c.in-Ok-fill.ensures.answered

pub returns-clause-makes : goal.returns-clause-makes
returns-clause-makes g c = record {
  ok = λ requests.
      let named : nat_le 1 (length c.args.id.now) ≡ true = search rules in
      let key_size : length c.fill.new.into ≡ 16 = search rules in
      let nonce_size : length c.fill-2.new.into ≡ 12 = search rules in
      let key : c.in-Ok-new.key ≡ c.fill.new.into = search rules in
      let owner : c.in_ok-copy_of.field-0 ≡ c.args.id.now = search rules in
      let metadata : c.in_ok-metadata.metadata ≡ c.fill-2.new.into = search rules in
      rw (key, metadata)
      (made_ok c.args.footer c.args.id.now _ _ _ c.args.nonces.now _ c.fill.new.into c.fill-2.new.into named c.in-Ok.ensures.rest c.in-Ok-fill.ensures.rest
      c.in-Ok.ensures.answered c.in-Ok-fill.ensures.answered key_size nonce_size (rw owner at c.in-Ok-take.ensures.fresh) (rw owner at c.in-Ok-take.ensures.taken) requests);
  err = λ requests. tt;
}

pub returns-clause-nonces : goal.returns-clause-nonces
returns-clause-nonces g c =
    took _ _ _ _ _ (Master c.in_ok-copy_of.field-0) c.fill-2.new.into c.in-Ok-take.ensures.taken c.in-Ok.ensures.rest c.in-Ok-fill.ensures.answered
