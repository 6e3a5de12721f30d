use Rattle.std.proofs.lemmas.Result.{err_from_is_err_and}
use Rattle.thrift_compact.specs.Tree.{no_fields, field}
use Rattle.parquet_fields.proofs.Loops.{begun, taken, not_taken}
use Rattle.parquet_fields.proofs.struct_fields.read_fields.Goals as goal

pub loop-fields-init : goal.loop-fields-init
loop-fields-init g c =
    rw c.none-fields.ensures (begun (g.M.StructFields.after g.M.StructFields.none) c.args.reader.now c.struct_begin.new.self c.in_ok-struct_begin.ensures.value)

pub loop-fields-preserved : goal.loop-fields-preserved
loop-fields-preserved g c =
    taken g.M.StructFields.after g.met.M.StructFields.at_field c.loop-fields.fields c.read_field.new.self _ c.args.reader.now c.loop-fields.reader c.field.new.self c.read_field.new.reader _ c.in-Some.head c.loop-fields.invariant c.in-Some.is c.in_ok-head.ensures.value c.in_ok-read_field.ensures.value c.in_ok-head.ensures.shorter c.in_ok-read_field.ensures.shorter

pub returns-in_err-read_field-clause-value : goal.returns-in_err-read_field-clause-value
returns-in_err-read_field-clause-value g c =
    let p = err_from_is_err_and c.from_residual-in_err-read_field.result c.from_residual-in_err-read_field.ensures.1 in
    rw (p.1, p.2) (not_taken (λ t. g.M.StructFields.after c.loop-fields.fields (field c.in-Some.head.id t no_fields)) _ c.read_field.new.self _ c.args.reader.now c.loop-fields.reader c.field.new.self c.read_field.new.reader _ c.in-Some.head _ c.loop-fields.invariant c.in-Some.is c.in_ok-head.ensures.value c.in_err-read_field.ensures.value)
