use Rattle.std.proofs.Common.{arith, ap}
use Rattle.std.specs.Result.{result_ok}
use Rattle.base64.specs.GeneralPurpose as engine
use Rattle.json_text.specs.Codings.{bytes_of_base64}
use Rattle.json_text.proofs.Codes.{base64_shorter}
use Rattle.json_text.proofs.codings.bytes_of_base64.Goals as goal

pub returns-in-Ok-clause-shorter : goal.returns-in-Ok-clause-shorter
unfolding bytes_of_base64 engine.decoded_of
returns-in-Ok-clause-shorter c =
    rw c.from_vec.ensures
    (base64_shorter c.args.text.now c.in-Ok.bytes.items (λ i. omega (arith, c.type_inv.text i)) (ap result_ok c.in-Ok.ensures.ok))
