use Rattle.std.proofs.Common.{sym, ◌-◌, length, ap, ◌∙◌}
use Rattle.crypto_module.proofs.Written.{ctr_written, ctr_added}
use Rattle.crypto_module.proofs.writing.write_ctr.Goals as goal

pub returns-clause-appended : goal.returns-clause-appended
returns-clause-appended c =
    c.from_vec.ensures
    ∙ ctr_written c.args.key.now c.args.nonce.now c.args.plain.now c.args.into.now c.take-bytes.result.items c.slice_mut.result.now c.ctr_in_place.new.buffer
    c.take-bytes.result.len (c.len.result - length c.args.plain.now) (sym c.take-bytes.result.ok.0) c.told-nonce
    (c.take-bytes.ensures.taken ∙ c.in_ok-append_parts.ensures.appended) (ap (λ n. n - length c.args.plain.now) c.len.ensures)
    c.slice_mut.ensures.value c.ctr_in_place.ensures

pub returns-clause-sealed : goal.returns-clause-sealed
returns-clause-sealed c =
    ctr_added c.args.key.now c.args.nonce.now c.args.plain.now c.args.into.now c.from_vec.result c.args.limit c.told-nonce
    c.in_ok-append_parts.ensures.within (returns-clause-appended c)
