use Rattle.std.proofs.Common.{◌≡◌, ◌+◌, ◌<◌, ◌≤◌, ◌*◌, ◌/◌, length, get_or, ap, sym, ◌∙◌, arith}
use Rattle.std.proofs.lemmas.List.{get_or_read}
use Rattle.plain_pages.specs.Columns.{Column, cells_kept, levels_in, start_of}
use Rattle.plain_pages.proofs.Kept.{kept_length}
use Rattle.plain_pages.proofs.RowsKept.{mark_read, end_read, row_step}
use Rattle.plain_pages.proofs.table_column.TableColumn.start_of.Goals as goal

pub loop-i-init : goal.loop-i-init
loop-i-init c =
    let inside = c.self.inside in
    let cells = cells_kept inside.spec.kind (levels_in inside.spec.optional inside.count inside.levels.items) inside.values.items in
    let there : c.args.row / 16 < length inside.marks.items = rw (← c.deref.ensures.value) (grind (arith, c.in-Some.ensures.lookup.0)) in
    let mark : c.in-Some.mark.now ≡ get_or inside.marks.items (c.args.row / 16) 0 =
    rw (← c.deref.ensures.value) (get_or_read c.deref.result.now (c.args.row / 16) c.in-Some.mark.now (rw c.deref.ensures.value there) c.in-Some.ensures.lookup.1 0) in
    let sixteens : c.args.row / 16 * 16 ≡ 16 * (c.args.row / 16) = omega arith in
    mark_read inside.spec cells (levels_in inside.spec.optional inside.count inside.levels.items) inside.marks.items inside.values.items (c.args.row / 16) c.in-Some.mark.now c.self.invariant.kept there mark
    ∙ ap (start_of inside.spec.kind cells) (sym sixteens)
    ∙ ap (λ (v : Column). start_of v.spec.kind v.cells (c.args.row / 16 * 16)) c.self.view_is

pub level_at-level-requires : goal.level_at-level-requires
level_at-level-requires c =
    let inside = c.self.inside in
    let cells = cells_kept inside.spec.kind (levels_in inside.spec.optional inside.count inside.levels.items) inside.values.items in
    let same : length cells ≡ length c.args.self.now.cells = ap (λ (v : Column). length v.cells) c.self.view_is in
    record {
      counted = kept_length inside.spec cells inside.count inside.levels.items inside.marks.items inside.values.items _ c.self.invariant;
      inside = omega (arith, c.requires, c.self.invariant.counted);
    }

pub overflow_add-start : goal.overflow_add-start
overflow_add-start c =
    let inside = c.self.inside in
    let cells = cells_kept inside.spec.kind (levels_in inside.spec.optional inside.count inside.levels.items) inside.values.items in
    let same : length cells ≡ length c.args.self.now.cells = ap (λ (v : Column). length v.cells) c.self.view_is in
    let here : c.loop-i.i < length cells = omega (arith, c.requires) in
    let start : c.loop-i.start ≡ start_of inside.spec.kind cells c.loop-i.i = c.loop-i.invariant ∙ ap (λ (v : Column). start_of v.spec.kind v.cells c.loop-i.i) (sym c.self.view_is) in
    let size = rw c.as_slice.ensures.value at c.size_at-start.ensures in
    let step = row_step inside.spec cells (levels_in inside.spec.optional inside.count inside.levels.items) inside.marks.items inside.values.items c.loop-i.i c.loop-i.start c.level_at-level.result c.size_at-start.result
    c.self.invariant.kept here c.level_at-level.ensures start size in
    omega (arith, step.1, ap length c.as_slice.ensures.value, c.as_slice.type_inv.0)

pub loop-i-preserved : goal.loop-i-preserved
loop-i-preserved c =
    let inside = c.self.inside in
    let cells = cells_kept inside.spec.kind (levels_in inside.spec.optional inside.count inside.levels.items) inside.values.items in
    let same : length cells ≡ length c.args.self.now.cells = ap (λ (v : Column). length v.cells) c.self.view_is in
    let here : c.loop-i.i < length cells = omega (arith, c.requires) in
    let start : c.loop-i.start ≡ start_of inside.spec.kind cells c.loop-i.i = c.loop-i.invariant ∙ ap (λ (v : Column). start_of v.spec.kind v.cells c.loop-i.i) (sym c.self.view_is) in
    let size = rw c.as_slice.ensures.value at c.size_at-start.ensures in
    let step = row_step inside.spec cells (levels_in inside.spec.optional inside.count inside.levels.items) inside.marks.items inside.values.items c.loop-i.i c.loop-i.start c.level_at-level.result c.size_at-start.result
    c.self.invariant.kept here c.level_at-level.ensures start size in
    step.0 ∙ ap (λ (v : Column). start_of v.spec.kind v.cells (c.loop-i.i + 1)) c.self.view_is

pub returns-in-None : goal.returns-in-None
returns-in-None c =
    let inside = c.self.inside in
    let cells = cells_kept inside.spec.kind (levels_in inside.spec.optional inside.count inside.levels.items) inside.values.items in
    let marks : length inside.marks.items ≤ c.args.row / 16 = rw (← c.deref.ensures.value) (grind (arith, c.in-None.ensures.lookup.0)) in
    let past : length cells ≤ c.args.row = omega (arith, marks, c.self.invariant.kept.marks_are.enough) in
    let size : c.len.result ≡ length inside.values.items = omega (arith, inside.values.ok, c.len.ensures) in
    end_read inside.spec cells (levels_in inside.spec.optional inside.count inside.levels.items) inside.marks.items inside.values.items c.args.row c.len.result c.self.invariant.kept past size
    ∙ ap (λ (v : Column). start_of v.spec.kind v.cells c.args.row) c.self.view_is
