use Rattle.std.proofs.Common.{rules, sym, ◌∙◌}
use Rattle.table_text.proofs.CellLemmas.{hex_of_empty, hex_size}
use Rattle.table_text.proofs.fields.push_hex.Goals as goal

pub returns-then-is_empty-clause-pushed : goal.returns-then-is_empty-clause-pushed
returns-then-is_empty-clause-pushed c =
    rw (hex_of_empty c.args.field.now (sym c.is_empty.ensures ∙ c.if-is_empty.true), c.in_ok-push.ensures.pushed) (search rules)

pub push-requires-2 : goal.push-requires-2
push-requires-2 c =
    rw c.requires.kind
    (hex_size c.args.field.now c.in-Some.bytes.now 268435456 (sym (rw c.in-Some.is at c.in_ok-bytes.ensures)) c.requires.size)
