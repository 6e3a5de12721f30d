use Rattle.std.proofs.Common.{◌≡◌, ℕ, ◌<◌, ◌≤◌, get_or, bit_xor, length}
use Rattle.gcm_seal.proofs.counter_mode.encrypt_short.Given as goal

abbrev pub invariant-loop-j : goal.invariant-loop-j
invariant-loop-j l =
    record {
      whole : length l.stream ≡ 64;
      done : (k : ℕ) → k < l.j → get_or l.stream k 0 ≡ bit_xor (get_or l.text k 0) (get_or l.initial.stream k 0);
      rest : (k : ℕ) → l.j ≤ k → get_or l.stream k 0 ≡ get_or l.initial.stream k 0;
    }
