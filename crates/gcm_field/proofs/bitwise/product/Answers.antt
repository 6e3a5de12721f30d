use Rattle.std.proofs.Common.{◌≡◌, ℕ, suc, ◌+◌, ◌-◌, ◌*◌, ◌^◌, ◌<◌, bit_xor, refl, sym, ap, ◌∙◌, arith}
use Rattle.std.specs.Int.{bit_at}
use Rattle.std.proofs.lemmas.Nat.{xor_lt}
use Rattle.std.proofs.lemmas.Nat.Bits.{bit_at-lt}
use Rattle.pme_terms.specs.Polynomials.{product_below}
use Rattle.pme_terms.proofs.Xors.{bit_times}
use Rattle.gcm_field.specs.Field.{reversed, field_mul}
use Rattle.gcm_field.proofs.Folds.{reduced, reduced_small}
use Rattle.gcm_field.proofs.Algebra.{sum_more}
use Rattle.gcm_field.proofs.Reversal.{reversed_lt, reversed-xor, bit_at-reversed}
use Rattle.gcm_field.proofs.TableLemmas.{IsPower, power_next, reversed-none}
use Rattle.gcm_field.proofs.bitwise.product.Goals as goal

reversed_where_set : (p v : ℕ) → p < 2 → reversed (p * v) ≡ p * reversed v
reversed_where_set p v h =
    bit_times (λ p. reversed (p * v) ≡ p * reversed v) p h
    (let e : 0 * v ≡ 0 = omega arith in let f : 0 * reversed v ≡ 0 = omega arith in rw (e, f) reversed-none)
    (let e : 1 * v ≡ v = omega arith in let f : 1 * reversed v ≡ reversed v = omega arith in rw (e, f) refl)

pub loop-i-init : goal.loop-i-init
unfolding product_below
loop-i-init c =
    let one : reversed c.args.y * 2 ^ 0 ≡ reversed c.args.y = omega arith in
    record {
      fits = omega arith;
      sum = reversed-none ∙ sym (reduced_small 0 (omega arith));
      power = (omega arith, sym (ap reduced one ∙ reduced_small (reversed c.args.y) (reversed_lt c.args.y)));
    }

pub loop-i-preserved : goal.loop-i-preserved
loop-i-preserved c =
    let a = reversed c.args.x in
    let b = reversed c.args.y in
    let i = c.loop-i.i in
    let p = bit_at c.args.x (127 - i) in
    let power = c.loop-i.invariant.power in
    let next : i + 1 ≡ suc i = omega arith in
    let added : reversed c.where_set-sum.result ≡ bit_at a i * reduced (b * 2 ^ i) =
    ap reversed c.where_set-sum.ensures ∙ reversed_where_set p c.loop-i.shifted (bit_at-lt c.args.x (127 - i))
    ∙ ap (λ q. q * reversed c.loop-i.shifted) (sym (bit_at-reversed c.args.x i (omega arith)))
    ∙ ap (λ v. bit_at a i * v) power.1 in
    let more : IsPower b (suc i) c.times_x-shifted.result =
    power_next b i c.loop-i.shifted c.times_x-shifted.result (reversed_lt c.args.y) (omega arith) power (omega arith) c.times_x-shifted.ensures in
    record {
      fits = xor_lt 128 c.loop-i.sum c.where_set-sum.result c.loop-i.invariant.fits (omega arith);
      sum = reversed-xor c.loop-i.sum c.where_set-sum.result
          ∙ (λ k. bit_xor (c.loop-i.invariant.sum k) (added k)) ∙ sym (sum_more a b i)
          ∙ ap (λ n. reduced (product_below a b n)) (sym next);
      power = (more.0, more.1 ∙ ap (λ n. reduced (b * 2 ^ n)) (sym next));
    }

pub returns : goal.returns
unfolding field_mul
returns c =
    let all : c.loop-i.i ≡ 128 = omega arith in
    c.loop-i.invariant.sum ∙ ap (λ n. reduced (product_below (reversed c.args.x) (reversed c.args.y) n)) all
