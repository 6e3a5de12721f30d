use Rattle.std.proofs.Common.{refl}
use Rattle.thrift_compact.specs.declared.kind.TKind.TheVariants as kind
use Rattle.parquet_fields.specs.Fields.{binary_of}
use Rattle.parquet_fields.proofs.OtherKinds.{not_binary, item_passed_over}
use Rattle.parquet_fields.proofs.items.BytesItem.read_item.Goals as goal

pub returns-in_ok-skip_element-in_default-clause-value : goal.returns-in_ok-skip_element-in_default-clause-value
returns-in_ok-skip_element-in_default-clause-value c =
    item_passed_over binary_of kind.Binary c.args.kind not_binary (λ b. refl) c.in_default.not-Binary c.args.reader.now c.skip_element.new.self c.in_ok-skip_element-in_default.ensures.value
