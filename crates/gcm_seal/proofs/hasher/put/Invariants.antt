use Rattle.std.proofs.Common.{◌≡◌, ℕ, ◌+◌, ◌<◌, ◌≤◌, get_or, length}
use Rattle.gcm_seal.proofs.hasher.put.Given as goal

abbrev pub invariant-loop-j : goal.invariant-loop-j
invariant-loop-j l =
    record {
      whole : length l.block ≡ 16;
      before : (k : ℕ) → k < l.at → get_or l.block k 0 ≡ get_or l.initial.block k 0;
      inside : (i : ℕ) → i < l.j → get_or l.block (l.at + i) 0 ≡ get_or l.bytes i 0;
      after : (k : ℕ) → l.at + l.j ≤ k → get_or l.block k 0 ≡ get_or l.initial.block k 0;
    }
