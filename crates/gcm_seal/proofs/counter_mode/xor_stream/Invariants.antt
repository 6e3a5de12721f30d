use Rattle.std.proofs.Common.{◌≡◌, ℕ, ◌+◌, ◌<◌, ◌≤◌, get_or, bit_xor}
use Rattle.gcm_seal.proofs.counter_mode.xor_stream.Given as goal

abbrev pub invariant-loop-j : goal.invariant-loop-j
invariant-loop-j l =
    record {
      before : (k : ℕ) → k < l.at → get_or l.buffer k 0 ≡ get_or l.initial.buffer k 0;
      inside : (i : ℕ) → i < l.j → get_or l.buffer (l.at + i) 0 ≡ bit_xor (get_or l.initial.buffer (l.at + i) 0) (get_or l.stream i 0);
      after : (k : ℕ) → l.at + l.j ≤ k → get_or l.buffer k 0 ≡ get_or l.initial.buffer k 0;
    }
