use Rattle.std.proofs.Common.{◌≡◌, ◌-◌, take, drop, length, ap, ◌∙◌, arith}
use Rattle.plain_pages.specs.Columns.{Column, cells_kept, levels_in, levels_of, rows_between}
use Rattle.plain_pages.proofs.Kept.{kept_length, kept_levels}
use Rattle.plain_pages.proofs.RowsKept.{levels_cut}
use Rattle.plain_pages.proofs.table_column.TableColumn.levels_between.Goals as goal

pub part-requires : goal.part-requires
part-requires c =
    let inside = c.self.inside in
    let cells = cells_kept inside.spec.kind (levels_in inside.spec.optional inside.count inside.levels.items) inside.values.items in
    let same : length cells ≡ length c.args.self.now.cells = ap (λ (v : Column). length v.cells) c.self.view_is in
    let all = kept_length inside.spec cells inside.count inside.levels.items inside.marks.items inside.values.items _ c.self.invariant c.if-self.true in
    record { order = c.requires.order; inside = omega (arith, c.requires.inside, c.self.invariant.counted, ap length c.as_slice-levels.ensures.value) }

pub returns-then-self-clause-levels : goal.returns-then-self-clause-levels
returns-then-self-clause-levels c optional =
    let inside = c.self.inside in
    let cells = cells_kept inside.spec.kind (levels_in inside.spec.optional inside.count inside.levels.items) inside.values.items in
    c.part.ensures
    ∙ ap (λ ls. take (c.args.to - c.args.from) (drop c.args.from ls)) c.as_slice-levels.ensures.value
    ∙ levels_cut c.args.from c.args.to cells inside.levels.items (kept_levels inside.spec cells inside.count inside.levels.items inside.marks.items inside.values.items _ c.self.invariant c.if-self.true)
    ∙ ap (λ (v : Column). levels_of (rows_between c.args.from c.args.to v.cells)) c.self.view_is
