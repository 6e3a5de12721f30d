use Rattle.std.proofs.Common.{◌≡◌, ◌+◌, ◌*◌, ◌/◌, ◌%◌, ◌^◌, ap, ◌∙◌, arith}
use Rattle.hybrid_runs.specs.Hybrid.{le_number}
use Rattle.hybrid_runs.proofs.Numbers.{low_bits, high_bits, high_fits}
use Rattle.hybrid_runs.proofs.bits.Bits.next.Goals as goal
use Rattle.hybrid_runs.proofs.bits.Bits.next.Goals.{then-self-width, else-self-width}

pub invariant_of-next : goal.invariant_of-next
invariant_of-next c = record {
  fits = high_fits c.if-self-width.bits.held c.if-self-width.bits.count c.args.width (omega arith) c.if-self-width.bits.fits;
  small = omega arith;
}

pub returns-clause-value : goal.returns-clause-value
returns-clause-value c =
    let b = c.if-self-width.bits in
    let same : b.held + 2 ^ b.count * le_number b.rest.now ≡ c.args.self.held + 2 ^ c.args.self.count * le_number c.args.self.rest.now =
    elim c.if-self-width.branch [ then-self-width w ↦ rw w.bits-is w.refill-bits.ensures.number | else-self-width w ↦ rw w.bits-is ] in
    low_bits b.held b.count c.args.width (le_number b.rest.now) (omega arith) (omega arith) ∙ ap (λ n. n % 2 ^ c.args.width) same

pub returns-clause-number : goal.returns-clause-number
returns-clause-number c =
    let b = c.if-self-width.bits in
    let same : b.held + 2 ^ b.count * le_number b.rest.now ≡ c.args.self.held + 2 ^ c.args.self.count * le_number c.args.self.rest.now =
    elim c.if-self-width.branch [ then-self-width w ↦ rw w.bits-is w.refill-bits.ensures.number | else-self-width w ↦ rw w.bits-is ] in
    high_bits b.held b.count c.args.width (le_number b.rest.now) (omega arith) ∙ ap (λ n. n / 2 ^ c.args.width) same
