use Rattle.std.proofs.Common.{◌≡◌, ◌-◌, ◌++◌, take, length}
use Rattle.hybrid_runs.specs.Written.{bits_text, grouped}
use Rattle.hybrid_runs.proofs.writing.write_bits.Given as goal

abbrev pub invariant-loop : goal.invariant-loop
invariant-loop l =
    (l.fn.into.items ++ bits_text l.bits ≡ l.into.items ++ grouped (l.groups - l.counter) l.rest)
    × (take (length l.fn.into.items) l.into.items ≡ l.fn.into.items)
