use Rattle.std.proofs.Common.{◌∙◌, ap}
use Rattle.parquet_fields.specs.Fields.{of_checked}
use Rattle.parquet_fields.proofs.OtherKinds.{struct_value}
use Rattle.parquet_fields.proofs.struct_fields.struct_field.Goals as goal

pub returns-in_ok-fields-in-Struct-clause-value : goal.returns-in_ok-fields-in-Struct-clause-value
returns-in_ok-fields-in-Struct-clause-value g c =
    struct_value (g.M.StructFields.after g.M.StructFields.none) g.M.StructFields.judged c.args.kind c.args.reader.now c.read_fields.new.reader c.in_ok-fields-in-Struct.fields _ c.in-Struct.is c.in_ok-fields-in-Struct.ensures.value (c.of.ensures ∙ ap of_checked c.judge.ensures)
