use Rattle.std.proofs.Common.{ap, sym, ◌∙◌, true≢false}
use Rattle.serde_json.specs.Read.{read}
use Rattle.json_text.proofs.Texts.{json_of-utf8, json_of-other}
use Rattle.json_text.proofs.reading.read_json.Goals as goal

pub returns-in_default-clause-value : goal.returns-in_default-clause-value
returns-in_default-clause-value c = sym (json_of-other c.args.bytes.now c.in_default.ensures.cases.0)

pub returns-in-Ok-from_str-clause-value : goal.returns-in-Ok-from_str-clause-value
returns-in-Ok-from_str-clause-value c =
    let utf8 = c.in-Ok.ensures.cases in
    sym (json_of-utf8 c.args.bytes.now utf8.1 ∙ ap read (sym utf8.0) ∙ c.in-Ok-from_str.ensures.ok)

pub returns-else-is_memory-clause-value : goal.returns-else-is_memory-clause-value
returns-else-is_memory-clause-value c =
    let utf8 = c.in-Ok.ensures.cases in
    let other = c.in-Err.ensures.err (λ memory. true≢false (sym (c.is_memory.ensures.1 memory) ∙ c.if-is_memory.false)) in
    sym (json_of-utf8 c.args.bytes.now utf8.1 ∙ ap read (sym utf8.0) ∙ other)
