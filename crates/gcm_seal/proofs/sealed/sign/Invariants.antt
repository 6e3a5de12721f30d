use Rattle.std.proofs.Common.{◌*◌, take}
use Rattle.gcm_seal.specs.Gcm.{gctr}
use Rattle.gcm_seal.specs.Hashing.{IsHashOf}
use Rattle.gcm_seal.proofs.sealed.sign.Given as goal

abbrev pub invariant-loop-i : goal.invariant-loop-i
invariant-loop-i l = IsHashOf l.hasher l.key l.nonce l.aad (gctr l.key l.nonce 2 (take (64 * l.i) l.plain))
