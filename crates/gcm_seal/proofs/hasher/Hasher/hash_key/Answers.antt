use Rattle.std.proofs.Common.{◌∙◌, ap}
use Rattle.gcm_seal.specs.Hashing.{Hashed}
use Rattle.gcm_seal.proofs.hasher.Hasher.hash_key.Goals as goal

pub returns-clause-subkey : goal.returns-clause-subkey
returns-clause-subkey c = λ key nonce aad text r. ap (λ (v : Hashed). v.key) c.self.view_is ∙ r.subkey
