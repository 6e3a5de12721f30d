use Rattle.std.proofs.Common.{◌≡◌, ◌+◌, ◌++◌, length, rules, refl, ap, ◌∙◌}
use Rattle.footer_modes.proofs.Lengths.{encrypted_tail_added}
use Rattle.footer_modes.proofs.writing.extend_by_encrypted.Goals as goal

pub returns-clause-appended : goal.returns-clause-appended
returns-clause-appended c =
    let twelve : length c.args.nonce.now ≡ 12 = search rules in
    let third = c.in_ok-append-2.ensures.appended ∙ ap (λ t. c.write_footer.new.into ++ t) c.to_le_bytes.ensures in
    encrypted_tail_added c.append-3.result c.args.key.now c.args.aad.now c.args.nonce.now c.args.into.now c.args.crypto.now c.args.footer.now
    c.append.new.into c.write_footer.new.into c.append-2.new.into c.append-3.new.into (length c.args.crypto.now + 32 + length c.args.footer.now)
    twelve c.in_ok-append.ensures.appended c.in_ok-write_footer.ensures.appended refl third c.append-3.ensures.appended
