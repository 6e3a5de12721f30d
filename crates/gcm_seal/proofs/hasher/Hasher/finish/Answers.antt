use Rattle.std.proofs.Common.{sym, subst}
use Rattle.gcm_seal.specs.Hashing.{IsHashOf}
use Rattle.gcm_seal.proofs.Pieces.{tagged}
use Rattle.gcm_seal.proofs.hasher.Hasher.finish.Goals as goal

pub returns : goal.returns
returns c = λ key nonce aad text r.
    tagged _ c.encode_lengths-lengths.result key nonce aad text c.tag_from_hash.result c.absorb-with_rest.result c.absorb.result c.absorb.type_inv
    (λ xs e. c.absorb-with_rest.ensures xs e) c.absorb.ensures c.encode_lengths-lengths.ensures c.tag_from_hash.ensures
    (subst (λ v. IsHashOf v key nonce aad text) (sym c.self.view_is) r)
