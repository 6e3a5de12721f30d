use Rattle.std.proofs.Common.{◌≡◌, ◌+◌, suc, ◌∙◌, ap, sym, subst, pos, length, arith}
use Rattle.std.specs.List.{All}
use Rattle.std.proofs.Math.Numerals.{add-one}
use Rattle.std.proofs.lemmas.List.{length-map}
use Rattle.std.proofs.lemmas.List.Elements.{All-get_or}
use Rattle.thrift_compact.specs.Tree.{list}
use Rattle.parquet_writing.specs.Fitting.{FitsColumn}
use Rattle.parquet_writing.specs.Plans.{structs, schema_column, schema}
use Rattle.parquet_writing.specs.Putting.{with_value}
use Rattle.parquet_writing.proofs.PutLists.{list_begun, item_awaited, item_deep, item_behind, mapped_here, mapped_over}
use Rattle.parquet_writing.proofs.put_schema.put_schema.Goals as goal

pub loop-column-init : goal.loop-column-init
loop-column-init c =
    let items = c.as_slice-items.result.now in
    let counted : length items + 1 ≡ length (schema items) = add-one (length items) ∙ ap suc (sym (length-map items schema_column)) in
    (item_behind _ _ _ _ _ _ (list_begun (pos 2) (schema items) c.args.writer.now c.list_field.new.self _ counted c.in_ok-list_field.ensures.ok) c.in_ok-put_root.ensures, c.as_slice-items.ensures)

pub put_column-requires : goal.put_column-requires
put_column-requires c =
    let here = mapped_here schema_column _ _ c.column-item.result _ _ _ c.loop-column-test.true c.column-item.is c.loop-column.invariant.0 in
    let fits : All FitsColumn c.as_slice-items.result.now = subst (All FitsColumn) (sym c.as_slice-items.ensures) c.requires.3 in (
      item_awaited _ _ _ _ _ here,
      omega (arith, item_deep _ _ _ _ _ here, c.requires.1),
      subst FitsColumn (sym c.column-item.is) (All-get_or FitsColumn _ _ c.column-item.result c.loop-column-test.true fits),
    )

pub loop-column-preserved : goal.loop-column-preserved
loop-column-preserved c =
    let here = mapped_here schema_column _ _ c.column-item.result _ _ _ c.loop-column-test.true c.column-item.is c.loop-column.invariant.0 in
    (item_behind _ _ _ _ _ _ here c.in_ok-put_column.ensures, c.loop-column.invariant.1)

pub returns : goal.returns
returns c =
    mapped_over schema_column _ _ _ _ _ c.loop-column-test.false c.loop-column.invariant.0
    ∙ ap (λ columns. with_value (pos 2) (list (structs (schema columns))) c.args.writer.now) c.loop-column.invariant.1
