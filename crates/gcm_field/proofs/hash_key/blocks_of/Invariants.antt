use Rattle.std.proofs.Common.{◌≡◌, ℕ, ◌<◌, [], get_or, length}
use Rattle.std.specs.Int.{w128, to_be_bytes}
use Rattle.gcm_field.proofs.hash_key.blocks_of.Given as goal

abbrev pub invariant-loop-v : goal.invariant-loop-v
invariant-loop-v l =
    record {
      whole : length l.blocks ≡ 16;
      written : (k : ℕ) → k < l.v → get_or l.blocks k [] ≡ to_be_bytes w128 (get_or l.row k 0);
    }
