use Rattle.std.proofs.Common.{◌≡◌, ℕ, ◌*◌, ◌<◌, ◌^◌, ◌++◌}
use Rattle.thrift_compact.specs.Spelling.{varint_within, varint_of, Extends}
use Rattle.thrift_compact.proofs.put.put_varint.Given as goal

-- at most `more` bytes follow the next one, and the varint of the rest completes the whole varint
abbrev pub invariant-loop-rest : goal.invariant-loop-rest
invariant-loop-rest l = ((more : ℕ) × (l.rest < 2 * 128 ^ more) × (l.into ++ varint_within more l.rest ≡ l.fn.into ++ varint_of l.fn.n)) × Extends l.fn.into l.into

abbrev pub decreases-loop-rest : goal.decreases-loop-rest
decreases-loop-rest l = l.rest
