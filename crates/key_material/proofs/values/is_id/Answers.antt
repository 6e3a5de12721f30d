use Rattle.std.proofs.Common.{◌≡◌, true, arith}
use Rattle.std.specs.Str.{is_utf8}
use Rattle.std.proofs.lemmas.Str.{is_utf8-from_IsUtf8}
use Rattle.std.proofs.lemmas.Grind.{common_steps}
use Rattle.key_material.specs.PolicyValues.{is_id}
use Rattle.key_material.proofs.values.is_id.Goals as goal

pub returns-then-text-le256 : goal.returns-then-text-le256
unfolding is_id
returns-then-text-le256 c =
    let utf8 : is_utf8 c.args.text.now ≡ true = is_utf8-from_IsUtf8 c.args.text.now c.utf8.text in
    grind (arith, common_steps)
