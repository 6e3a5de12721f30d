use Rattle.std.proofs.Common.{◌≡◌, ◌*◌, ◌/◌, ◌%◌, ◌^◌, bit_xor, sym, ap, ◌∙◌, arith}
use Rattle.gcm_field.specs.Field.{reversed}
use Rattle.gcm_field.proofs.Reversal.{reversed_step}
use Rattle.gcm_field.proofs.bitwise.times_x.Goals as goal
use Rattle.gcm_field.proofs.bitwise.times_x.Goals.{then-v-eq1, else-v-eq1}

pub returns : goal.returns
returns c =
    let v = c.args.v in
    let carry : c.if-v-eq1.carry ≡ v % 2 * (0xe1 * 2 ^ 120) =
    elim c.if-v-eq1.branch [
      | then-v-eq1 w ↦ (let odd : v % 2 ≡ 1 = omega arith in w.carry-is ∙ sym (ap (λ t. t * (0xe1 * 2 ^ 120)) odd))
      | else-v-eq1 w ↦ (let even : v % 2 ≡ 0 = omega arith in w.carry-is ∙ sym (ap (λ t. t * (0xe1 * 2 ^ 120)) even))
    ] in
    ap (λ r. reversed (bit_xor (v / 2) r)) carry ∙ reversed_step v (omega arith)
