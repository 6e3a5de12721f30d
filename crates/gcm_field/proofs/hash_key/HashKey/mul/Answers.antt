use Rattle.std.proofs.Common.{◌≡◌, sym, ap, ◌∙◌, arith}
use Rattle.std.specs.Int.{w128, to_be_bytes}
use Rattle.gcm_field.specs.Field.{polynomial, reversed, field_mul}
use Rattle.gcm_field.proofs.Reversal.{reversed-reversed}
use Rattle.gcm_field.proofs.hash_key.HashKey.mul.Goals as goal

pub returns : goal.returns
returns c =
    let h = polynomial c.args.self.now in
    let product : reversed c.mul_number.result ≡ field_mul (polynomial c.args.x) h =
    c.mul_number.ensures ∙ ap (λ n. field_mul (reversed n) h) c.from_be_bytes.ensures in
    c.to_be_bytes.ensures ∙ ap (to_be_bytes w128) (sym (reversed-reversed c.mul_number.result (omega arith)) ∙ ap reversed product)
