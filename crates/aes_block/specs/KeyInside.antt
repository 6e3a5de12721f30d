-- The invariant of an AesKey: `round_keys` starts with the key's schedule, and `inner_keys` holds the same round keys over
-- the other basis.
use Rattle.std.specs.Prelude.{◌≡◌, ◌+◌, ◌*◌, map, take}
use Rattle.aes_block.specs.Aes.{IsKeyLength, schedule}
use Rattle.aes_block.specs.Basis.{inner_key}
use Rattle.aes_block.specs.declared.key.AesKey.TheInside.{Inside}

pub record IsExpanded (k : Inside) : Type 0 where
  pub long : IsKeyLength k.key_length
  pub expanded : take (4 * k.key_length + 112) k.round_keys ≡ schedule (take k.key_length k.round_keys)
  pub inner : k.inner_keys ≡ map inner_key k.round_keys
