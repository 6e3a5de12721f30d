use Rattle.std.proofs.Common.{◌≡◌, sym, ap, ◌∙◌, arith}
use Rattle.std.specs.Int.{w128, to_be_bytes}
use Rattle.gcm_field.specs.Field.{polynomial, reversed, field_mul}
use Rattle.gcm_field.proofs.Reversal.{reversed-reversed}
use Rattle.gcm_field.proofs.bitwise.plain_product.Goals as goal

pub returns : goal.returns
returns c =
    let product : reversed c.product.result ≡ field_mul (polynomial c.args.x) (polynomial c.args.y) =
    c.product.ensures ∙ (λ k. field_mul (reversed (c.from_be_bytes.ensures k)) (reversed (c.from_be_bytes-2.ensures k))) in
    c.to_be_bytes.ensures ∙ ap (to_be_bytes w128) (sym (reversed-reversed c.product.result (omega arith)) ∙ ap reversed product)
