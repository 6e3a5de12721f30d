use Rattle.std.proofs.Common.{◌≡◌, ◌-◌, ◌*◌, ◌++◌, length}
use Rattle.hybrid_runs.specs.Hybrid.{packed, le_number}
use Rattle.hybrid_runs.specs.BitsInside.{number_in, bits_in}
use Rattle.hybrid_runs.proofs.reading.push_packed.Given as goal

abbrev pub invariant-loop : goal.invariant-loop
invariant-loop l =
    l.fn.values.items ++ packed l.width l.count (le_number l.run) (8 * length l.run)
    ≡ l.values.items ++ packed l.width (l.count - l.counter) (number_in l.bits.held l.bits.count l.bits.rest.now) (bits_in l.bits.count l.bits.rest.now)
