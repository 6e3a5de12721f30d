use Rattle.std.proofs.Common.{refl}
use Rattle.thrift_compact.specs.declared.kind.TKind.TheVariants as kind
use Rattle.parquet_fields.specs.Fields.{struct_of}
use Rattle.parquet_fields.proofs.OtherKinds.{not_struct, item_passed_over}
use Rattle.parquet_fields.proofs.struct_fields.struct_item.Goals as goal

pub returns-in_ok-skip_element-in_default-clause-value : goal.returns-in_ok-skip_element-in_default-clause-value
returns-in_ok-skip_element-in_default-clause-value g c =
    item_passed_over (struct_of (λ fs. g.M.StructFields.judged (g.M.StructFields.after g.M.StructFields.none fs))) kind.Struct c.args.kind (not_struct (λ fs. g.M.StructFields.judged (g.M.StructFields.after g.M.StructFields.none fs))) (λ b. refl) c.in_default.not-Struct c.args.reader.now c.skip_element.new.self c.in_ok-skip_element-in_default.ensures.value
