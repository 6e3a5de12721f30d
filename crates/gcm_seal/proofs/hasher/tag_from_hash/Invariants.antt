use Rattle.std.proofs.Common.{◌≡◌, ℕ, ◌<◌, ◌≤◌, get_or, bit_xor, length}
use Rattle.gcm_seal.proofs.hasher.tag_from_hash.Given as goal

abbrev pub invariant-loop-i : goal.invariant-loop-i
invariant-loop-i l =
    record {
      whole : length l.tag ≡ 16;
      done : (k : ℕ) → k < l.i → get_or l.tag k 0 ≡ bit_xor (get_or l.initial.tag k 0) (get_or l.mask k 0);
      rest : (k : ℕ) → l.i ≤ k → get_or l.tag k 0 ≡ get_or l.initial.tag k 0;
    }
