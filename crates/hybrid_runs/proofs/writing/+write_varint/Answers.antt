use Rattle.std.proofs.Common.{◌≡◌, ◌++◌, ◌∷◌, [], ◌-◌, ◌/◌, ◌%◌, ◌+◌, ap, ◌∙◌, sym, arith, append_assoc}
use Rattle.hybrid_runs.specs.Written.{varint_text}
use Rattle.hybrid_runs.proofs.ReadBack.{varint_text-more}
use Rattle.hybrid_runs.proofs.writing.+write_varint.Goals as goal

pub returns-clause-appended : goal.returns-clause-appended
returns-clause-appended t c =
    let turns = c.args.turns in
    let number = c.args.number in
    let whole : c.push-2.new.self.items ++ varint_text (turns - 1) (number / 128) ≡ c.args.into.now.items ++ varint_text turns number =
    ap (λ items. items ++ varint_text (turns - 1) (number / 128)) c.in_ok-push-2.ensures.items
    ∙ append_assoc c.args.into.now.items ((number % 128 + 128) ∷ []) (varint_text (turns - 1) (number / 128))
    ∙ ap (λ items. c.args.into.now.items ++ items) (sym (varint_text-more turns number (omega arith) (omega arith))) in
    rw whole at c.write_varint.ensures.appended
