use Rattle.std.proofs.Common.{◌∙◌, ap, sym, subst, pos, map, arith}
use Rattle.std.specs.List.{All}
use Rattle.std.proofs.lemmas.List.{length-map}
use Rattle.std.proofs.lemmas.List.Elements.{All-get_or}
use Rattle.thrift_compact.specs.Tree.{list}
use Rattle.parquet_writing.specs.Fitting.{FitsChunk}
use Rattle.parquet_writing.specs.Plans.{structs, column_chunk}
use Rattle.parquet_writing.specs.Putting.{with_value}
use Rattle.parquet_writing.proofs.PutLists.{list_begun, item_awaited, item_deep, item_behind, mapped_here, mapped_over}
use Rattle.parquet_writing.proofs.put_group.put_chunks.Goals as goal

pub loop-chunk-init : goal.loop-chunk-init
loop-chunk-init c =
    (list_begun (pos 1) (map column_chunk c.as_slice-items.result.now) c.args.writer.now c.list_field.new.self _ (sym (length-map c.as_slice-items.result.now column_chunk)) c.in_ok-list_field.ensures.ok, c.as_slice-items.ensures)

pub put_chunk-requires : goal.put_chunk-requires
put_chunk-requires c =
    let here = mapped_here column_chunk _ _ c.chunk-item.result _ _ _ c.loop-chunk-test.true c.chunk-item.is c.loop-chunk.invariant.0 in
    let fits : All FitsChunk c.as_slice-items.result.now = subst (All FitsChunk) (sym c.as_slice-items.ensures) c.requires.3 in (
      item_awaited _ _ _ _ _ here,
      omega (arith, item_deep _ _ _ _ _ here, c.requires.1),
      subst FitsChunk (sym c.chunk-item.is) (All-get_or FitsChunk _ _ c.chunk-item.result c.loop-chunk-test.true fits),
    )

pub loop-chunk-preserved : goal.loop-chunk-preserved
loop-chunk-preserved c =
    let here = mapped_here column_chunk _ _ c.chunk-item.result _ _ _ c.loop-chunk-test.true c.chunk-item.is c.loop-chunk.invariant.0 in
    (item_behind _ _ _ _ _ _ here c.in_ok-put_chunk.ensures, c.loop-chunk.invariant.1)

pub returns : goal.returns
returns c =
    mapped_over column_chunk _ _ _ _ _ c.loop-chunk-test.false c.loop-chunk.invariant.0
    ∙ ap (λ chunks. with_value (pos 1) (list (structs (map column_chunk chunks))) c.args.writer.now) c.loop-chunk.invariant.1
