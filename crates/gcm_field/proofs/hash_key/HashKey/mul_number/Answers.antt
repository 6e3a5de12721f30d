use Rattle.std.proofs.Common.{◌≡◌, ◌+◌, ◌-◌, ◌*◌, ◌/◌, ◌%◌, ◌^◌, ◌<◌, [], bit_xor, bit_and, get_or, sym, ap, ◌∙◌, arith}
use Rattle.std.specs.Int.{w128, from_be_bytes}
use Rattle.std.proofs.lemmas.Nat.{and_mask}
use Rattle.pme_terms.proofs.Xors.{xor_swap}
use Rattle.pme_terms.proofs.Bytes.{get_or-bytes_high_first, byte_at-shr}
use Rattle.gcm_field.specs.Field.{field_mul, reversed, polynomial}
use Rattle.gcm_field.specs.Table.{multiple}
use Rattle.gcm_field.proofs.TableLemmas.{multiple-none, table_at, next_byte}
use Rattle.gcm_field.proofs.Reversal.{reversed-reversed, reversed_lt}
use Rattle.gcm_field.proofs.Algebra.{field_mul_lt}
use Rattle.gcm_field.proofs.hash_key.HashKey.mul_number.Goals as goal

pub loop-k-init : goal.loop-k-init
loop-k-init c =
    let none : c.args.x / 2 ^ 128 * 2 ^ 128 ≡ 0 = omega arith in
    sym (ap (multiple (polynomial c.self.inside.block)) none ∙ multiple-none (polynomial c.self.inside.block))

pub loop-k-preserved : goal.loop-k-preserved
loop-k-preserved c =
    let h = polynomial c.self.inside.block in
    let x = c.args.x in
    let k = c.loop-k.k in
    let s = 128 - 8 * (k + 1) in
    let within : k < 16 = omega arith in
    let t = c.self.inside.table in
    let place : 8 * (16 - 1 - k) ≡ s = omega arith in
    let read : get_or c.to_be_bytes-bytes.result k 0 ≡ x / 2 ^ s % 256 =
    ap (λ b. get_or b k 0) c.to_be_bytes-bytes.ensures ∙ get_or-bytes_high_first 16 x k within ∙ byte_at-shr (16 - 1 - k) x ∙ ap (λ m. x / 2 ^ m % 256) place in
    let high : get_or (get_or t (2 * k) []) (get_or c.to_be_bytes-bytes.result k 0 / 16) 0 ≡ multiple h (x / 2 ^ s % 256 / 16 * 2 ^ (4 + s)) =
    (λ i. get_or (get_or (c.self.invariant.table i) (2 * k) []) (read i / 16) 0)
    ∙ table_at h (2 * k) (x / 2 ^ s % 256 / 16) (omega arith) (omega arith)
    ∙ ap (λ m. multiple h (x / 2 ^ s % 256 / 16 * 2 ^ m)) (let e : 124 - 4 * (2 * k) ≡ 4 + s = omega arith in e) in
    let low : get_or (get_or t (2 * k + 1) []) (bit_and (get_or c.to_be_bytes-bytes.result k 0) 15) 0 ≡ multiple h (x / 2 ^ s % 256 % 16 * 2 ^ s) =
    (λ i. get_or (get_or (c.self.invariant.table i) (2 * k + 1) []) ((ap (λ b. bit_and b 15) read ∙ and_mask (x / 2 ^ s % 256) 4) i) 0)
    ∙ table_at h (2 * k + 1) (x / 2 ^ s % 256 % 16) (omega arith) (omega arith)
    ∙ ap (λ m. multiple h (x / 2 ^ s % 256 % 16 * 2 ^ m)) (let e : 124 - 4 * (2 * k + 1) ≡ s = omega arith in e) in
    let before : bit_xor c.loop-k.high c.loop-k.low ≡ multiple h (x / 2 ^ (8 + s) * 2 ^ (8 + s)) =
    c.loop-k.invariant ∙ ap (λ m. multiple h (x / 2 ^ m * 2 ^ m)) (let e : 128 - 8 * k ≡ 8 + s = omega arith in e) in
    xor_swap c.loop-k.high (get_or (get_or t (2 * k) []) (get_or c.to_be_bytes-bytes.result k 0 / 16) 0) c.loop-k.low (get_or (get_or t (2 * k + 1) []) (bit_and (get_or c.to_be_bytes-bytes.result k 0) 15) 0)
    ∙ (λ i. bit_xor (before i) (bit_xor (high i) (low i))) ∙ next_byte h x s

pub returns : goal.returns
unfolding multiple
returns c =
    let x = c.args.x in
    let h = polynomial c.self.inside.block in
    let end : 128 - 8 * c.loop-k.k ≡ 0 = omega arith in
    let whole : x / 2 ^ (128 - 8 * c.loop-k.k) * 2 ^ (128 - 8 * c.loop-k.k) ≡ x =
    ap (λ m. x / 2 ^ m * 2 ^ m) end ∙ (let e : x / 2 ^ 0 * 2 ^ 0 ≡ x = omega arith in e) in
    ap reversed (c.loop-k.invariant ∙ ap (multiple h) whole)
    ∙ reversed-reversed (field_mul (reversed x) h) (field_mul_lt (reversed x) h (reversed_lt (from_be_bytes w128 c.self.inside.block)))
    ∙ ap (λ b. field_mul (reversed x) (polynomial b)) c.self.view_is
