use Rattle.std.proofs.Common.{ap, arith}
use Rattle.std.specs.Result.{result_ok}
use Rattle.std.proofs.lemmas.Str.{IsUtf8-string_bytes}
use Rattle.hex.proofs.HexLemmas.{decode_of-encode_lower}
use Rattle.json_text.specs.Codings.{bytes_of_hex}
use Rattle.json_text.proofs.codings.hex_text.Goals as goal

pub returns-clause-read_back : goal.returns-clause-read_back
unfolding bytes_of_hex
returns-clause-read_back c =
    rw (c.from_vec.ensures, c.into_bytes.ensures.value, c.in_ok-text.ensures) (ap result_ok (decode_of-encode_lower c.args.bytes.now (λ i. omega (arith, c.type_inv.bytes i))))

pub returns-clause-utf8 : goal.returns-clause-utf8
returns-clause-utf8 c = rw (c.from_vec.ensures, c.into_bytes.ensures.value) (IsUtf8-string_bytes c.in_ok-text.text)
