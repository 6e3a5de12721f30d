use Rattle.std.proofs.Common.{◌≡◌, ◌<◌, ◌+◌, ◌*◌, ◌^◌, take, drop, ap, ◌∙◌, sym, arith}
use Rattle.hybrid_runs.specs.Hybrid.{le_number}
use Rattle.hybrid_runs.proofs.Numbers.{shifted, held_fits, number_in-more, le_number-split}
use Rattle.hybrid_runs.proofs.bits.Bits.refill.Goals as goal

pub invariant_of-result : goal.invariant_of-result
invariant_of-result c =
    let small : c.from.result < 2 ^ (8 * c.min-size.result) = rw (c.from.ensures, ← c.split_at.ensures.front_len) c.le_number.ensures.small in
    record {
      fits = rw (shifted c.from.result c.min-size.result c.args.self.count small (omega arith))
          (held_fits c.args.self.held c.from.result c.min-size.result c.args.self.count c.args.self.fits small);
      small = omega arith;
    }

pub returns-clause-number : goal.returns-clause-number
returns-clause-number c =
    let self = c.args.self in
    let size = c.min-size.result in
    let small : c.from.result < 2 ^ (8 * size) = rw (c.from.ensures, ← c.split_at.ensures.front_len) c.le_number.ensures.small in
    let front : c.from.result ≡ le_number (take size self.rest.now) =
    c.from.ensures ∙ c.le_number.ensures.number ∙ ap le_number c.split_at.ensures.front in
    let all : c.from.result + 2 ^ (8 * size) * le_number (drop size self.rest.now) ≡ le_number self.rest.now =
    rw front (sym (le_number-split size self.rest.now (omega arith))) in
    rw (shifted c.from.result size self.count small (omega arith), c.split_at.ensures.back)
    (number_in-more self.held c.from.result size self.count (le_number (drop size self.rest.now)) ∙ ap (λ n. self.held + 2 ^ self.count * n) all)
