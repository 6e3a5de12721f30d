use Rattle.std.proofs.lemmas.Result.{on_ok_weaker}
use Rattle.thrift_compact.specs.declared.kind.TKind.TheVariants as kind
use Rattle.parquet_writing.specs.Plans.{schema_column}
use Rattle.parquet_writing.proofs.PutLists.{item_put}
use Rattle.parquet_writing.proofs.put_schema.put_column.Goals as goal

pub returns : goal.returns
returns c =
    on_ok_weaker c.struct_end.result (λ over.
    item_put (schema_column c.args.column.now) kind.Struct c.args.writer.now c.struct_begin.new.self c.put_column_fields.new.writer c.struct_end.new.self c.requires.0 c.in_ok-struct_begin.ensures.ok c.in_ok-put_column_fields.ensures.fields over) c.struct_end.ensures.ok
