use Rattle.std.proofs.Common.{◌∙◌, ap, sym, subst, pos, length, arith}
use Rattle.std.specs.List.{All}
use Rattle.std.proofs.lemmas.List.Elements.{All-get_or}
use Rattle.thrift_compact.specs.Tree.{list}
use Rattle.parquet_writing.specs.Fitting.{FitsGroup}
use Rattle.parquet_writing.specs.Plans.{structs, row_groups}
use Rattle.parquet_writing.specs.Putting.{with_value}
use Rattle.parquet_writing.proofs.PutLists.{list_begun, item_awaited, item_deep, item_behind, grouped_here, grouped_over, groups_length}
use Rattle.parquet_writing.proofs.put_group.put_groups.Goals as goal

pub loop-position-init : goal.loop-position-init
loop-position-init c =
    (list_begun (pos 4) (row_groups 0 c.as_slice-items.result.now) c.args.writer.now c.list_field.new.self _ (sym (groups_length 0 c.as_slice-items.result.now)) c.in_ok-list_field.ensures.ok, c.as_slice-items.ensures)

pub put_group-requires : goal.put_group-requires
put_group-requires c =
    let here = grouped_here _ _ c.index-items-position.result _ _ _ c.loop-position-test.true c.index-items-position.is c.loop-position.invariant.0 in
    let fits : All FitsGroup c.as_slice-items.result.now = subst (All FitsGroup) (sym c.as_slice-items.ensures) c.requires.3 in
    let few = ap length c.as_slice-items.ensures in (
      item_awaited _ _ _ _ _ here,
      omega (arith, item_deep _ _ _ _ _ here, c.requires.1),
      subst FitsGroup (sym c.index-items-position.is) (All-get_or FitsGroup _ _ c.index-items-position.result c.loop-position-test.true fits),
      omega (arith, few, c.requires.2, c.loop-position-test.true),
    )

pub loop-position-preserved : goal.loop-position-preserved
loop-position-preserved c =
    let here = grouped_here _ _ c.index-items-position.result _ _ _ c.loop-position-test.true c.index-items-position.is c.loop-position.invariant.0 in
    (item_behind _ _ _ _ _ _ here c.in_ok-put_group.ensures, c.loop-position.invariant.1)

pub returns : goal.returns
returns c =
    grouped_over _ _ _ _ _ c.loop-position-test.false c.loop-position.invariant.0
    ∙ ap (λ groups. with_value (pos 4) (list (structs (row_groups 0 groups))) c.args.writer.now) c.loop-position.invariant.1
