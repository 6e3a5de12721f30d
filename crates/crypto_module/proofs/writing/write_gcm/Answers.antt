use Rattle.std.proofs.Common.{sym, ◌∙◌}
use Rattle.crypto_module.proofs.Written.{gcm_written, gcm_added}
use Rattle.crypto_module.proofs.writing.write_gcm.Goals as goal

pub returns-clause-appended : goal.returns-clause-appended
returns-clause-appended c =
    c.from_vec.ensures
    ∙ gcm_written c.args.key.now c.args.aad.now c.args.nonce.now c.args.plain.now c.args.into.now c.take-bytes.result.items c.slice_mut.result.now
    c.seal_module.new.buffer c.take-bytes.result.len c.len-start.result (sym c.take-bytes.result.ok.0) (sym c.len-start.ensures) c.told-nonce
    (c.take-bytes.ensures.taken ∙ c.in_ok-append_parts.ensures.appended) c.slice_mut.ensures.value c.seal_module.ensures

pub returns-clause-sealed : goal.returns-clause-sealed
returns-clause-sealed c =
    gcm_added c.args.key.now c.args.aad.now c.args.nonce.now c.args.plain.now c.args.into.now c.from_vec.result c.args.limit c.told-nonce
    c.in_ok-append_parts.ensures.within (returns-clause-appended c)
