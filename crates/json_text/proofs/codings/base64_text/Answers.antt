use Rattle.std.proofs.Common.{length, ap, ◌∙◌}
use Rattle.std.proofs.lemmas.Str.{IsUtf8-string_bytes}
use Rattle.json_text.specs.Codings.{base64_text}
use Rattle.json_text.proofs.Codes.{base64_length}
use Rattle.json_text.proofs.codings.base64_text.Goals as goal

pub returns-clause-utf8 : goal.returns-clause-utf8
returns-clause-utf8 c = rw (c.from_vec.ensures, c.into_bytes.ensures.value) (IsUtf8-string_bytes c.in_ok-text.text)

pub returns-clause-long : goal.returns-clause-long
unfolding base64_text
returns-clause-long c = rw (c.from_vec.ensures, c.into_bytes.ensures.value, c.in_ok-text.ensures.text) (base64_length c.args.bytes.now)
