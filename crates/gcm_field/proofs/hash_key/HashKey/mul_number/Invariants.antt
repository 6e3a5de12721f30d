use Rattle.std.proofs.Common.{◌≡◌, ◌-◌, ◌*◌, ◌/◌, ◌^◌, bit_xor}
use Rattle.gcm_field.specs.Field.{polynomial}
use Rattle.gcm_field.specs.Table.{multiple}
use Rattle.gcm_field.proofs.hash_key.HashKey.mul_number.Given as goal

abbrev pub invariant-loop-k : goal.invariant-loop-k
invariant-loop-k l =
    bit_xor l.high l.low ≡ multiple (polynomial l.self-inside.block) (l.fn.x / 2 ^ (128 - 8 * l.k) * 2 ^ (128 - 8 * l.k))
