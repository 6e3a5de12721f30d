use Rattle.std.proofs.Common.{Err, ap, ◌<◌, ◌∙◌, length, sym, arith}
use Rattle.std.proofs.Math.ListN.{length-set}
use Rattle.csv.specs.Records.{fields_of}
use Rattle.table_text.proofs.TableLemmas.{refused_at, row_bad, row_turn, short_at}
use Rattle.table_text.proofs.from_csv.add_record.Goals as goal

pub push_field-requires : goal.push_field-requires
push_field-requires c = short_at (fields_of c.args.record.now) c.loop-i.i c.field_of-field.result.now c.requires.short c.field_of-field.ensures

pub returns-in-Err-clause-err : goal.returns-in-Err-clause-err
returns-in-Err-clause-err c =
    let inside : c.loop-i.i < length c.loop-i.columns.items = omega (arith, c.requires.long, c.loop-i.invariant.long, c.args.columns.now.ok, c.len-i-end.ensures) in
    rw c.at_field.ensures (refused_at _ c.in-Err.error c.loop-i.i (λ bad. c.loop-i.invariant.rest
    ∙ row_bad c.loop-i.i c.loop-i.columns.items (fields_of c.args.record.now) c.field_of-field.result.now c.index_mut.result.now inside c.index_mut.ensures.value c.field_of-field.ensures (c.in-Err.ensures.bad (ap Err bad))))

pub loop-i-preserved : goal.loop-i-preserved
loop-i-preserved c =
    let inside : c.loop-i.i < length c.loop-i.columns.items = omega (arith, c.requires.long, c.loop-i.invariant.long, c.args.columns.now.ok, c.len-i-end.ensures) in
    record {
      long = c.loop-i.invariant.long ∙ sym (length-set c.loop-i.columns.items c.loop-i.i c.push_field.new.column);
      rest = c.loop-i.invariant.rest
          ∙ row_turn c.loop-i.i c.loop-i.columns.items (fields_of c.args.record.now) c.field_of-field.result.now c.index_mut.result.now c.push_field.new.column inside c.index_mut.ensures.value c.field_of-field.ensures c.in-Ok.ensures.pushed;
    }
