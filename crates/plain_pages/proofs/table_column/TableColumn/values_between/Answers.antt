use Rattle.std.proofs.Common.{◌≡◌, ◌-◌, length, take, drop, ap, sym, ◌∙◌}
use Rattle.plain_pages.specs.Columns.{Column, cells_kept, levels_in, values_text, rows_between}
use Rattle.plain_pages.proofs.RowsKept.{values_cut, start_le, end_le}
use Rattle.plain_pages.proofs.table_column.TableColumn.values_between.Goals as goal

pub part-requires : goal.part-requires
part-requires c =
    let inside = c.self.inside in
    let kind = inside.spec.kind in
    let cells = cells_kept kind (levels_in inside.spec.optional inside.count inside.levels.items) inside.values.items in
    let all : length c.as_slice.result.now ≡ length (values_text c.args.self.now.spec.kind c.args.self.now.cells) =
    ap length (c.as_slice.ensures.value ∙ c.self.invariant.kept.values_are) ∙ ap (λ (v : Column). length (values_text v.spec.kind v.cells)) c.self.view_is in
    record {
      order = rw (c.start_of-start.ensures, c.start_of-end.ensures) (start_le c.args.self.now.spec.kind c.args.from c.args.to c.args.self.now.cells c.requires.order);
      inside = rw (c.start_of-end.ensures, all) (end_le c.args.self.now.spec.kind c.args.to c.args.self.now.cells);
    }

pub returns : goal.returns
returns c =
    let inside = c.self.inside in
    let kind = inside.spec.kind in
    let cells = cells_kept kind (levels_in inside.spec.optional inside.count inside.levels.items) inside.values.items in
    let back = sym c.self.view_is in
    let start : c.start_of-start.result ≡ length (values_text kind (take c.args.from cells)) =
    c.start_of-start.ensures ∙ ap (λ (v : Column). length (values_text v.spec.kind (take c.args.from v.cells))) back in
    let end : c.start_of-end.result ≡ length (values_text kind (take c.args.to cells)) =
    c.start_of-end.ensures ∙ ap (λ (v : Column). length (values_text v.spec.kind (take c.args.to v.cells))) back in
    c.part.ensures
    ∙ ap (λ vs. take (c.start_of-end.result - c.start_of-start.result) (drop c.start_of-start.result vs)) c.as_slice.ensures.value
    ∙ values_cut kind c.args.from c.args.to c.start_of-start.result c.start_of-end.result cells inside.values.items c.requires.order c.self.invariant.kept.values_are start end
    ∙ ap (λ (v : Column). values_text v.spec.kind (rows_between c.args.from c.args.to v.cells)) c.self.view_is
