use Rattle.std.proofs.Common.{◌≡◌, ◌≢◌, ◌<◌, length, get_or, Some, ap, sym, subst, ◌∙◌}
use Rattle.std.specs.List.{slice_get}
use Rattle.std.proofs.lemmas.Option.{slice_get-get_or, get_or_from_slice_get}
use Rattle.plain_pages.specs.Cells.{null, cell_of}
use Rattle.plain_pages.specs.Columns.{Column, AreCellsOf, IsCellOf, cells_kept, levels_in, start_of}
use Rattle.plain_pages.proofs.Kept.{kept_length}
use Rattle.plain_pages.proofs.RowsKept.{of_spec_at, null_read, value_read}
use Rattle.plain_pages.proofs.table_column.TableColumn.cell.Goals as goal

pub level_at-level-requires : goal.level_at-level-requires
level_at-level-requires c =
    let inside = c.self.inside in
    let cells = cells_kept inside.spec.kind (levels_in inside.spec.optional inside.count inside.levels.items) inside.values.items in
    let seen : cells ≡ c.args.self.now.cells = ap (λ (v : Column). v.cells) c.self.view_is in
    record {
      counted = kept_length inside.spec cells inside.count inside.levels.items inside.marks.items inside.values.items _ c.self.invariant;
      inside = rw (c.self.invariant.counted, seen) c.requires;
    }

pub returns-clause-cell : goal.returns-clause-cell
returns-clause-cell c =
    let inside = c.self.inside in
    let kind = inside.spec.kind in
    let row = c.args.row in
    let levels = levels_in inside.spec.optional inside.count inside.levels.items in
    let values = inside.values.items in
    let cells = cells_kept kind levels values in
    let seen : cells ≡ c.args.self.now.cells = ap (λ (v : Column). v.cells) c.self.view_is in
    let here : row < length cells = rw seen c.requires in
    let level : get_or levels row 0 ≢ 0 = λ z. c.if-level-eq0.false (c.level_at-level.ensures ∙ z) in
    let start : c.start_of.result ≡ start_of kind cells row = c.start_of.ensures ∙ ap (λ (v : Column). start_of v.spec.kind v.cells row) (sym c.self.view_is) in
    let value : cell_of c.value_at.result ≡ get_or cells row null =
    c.value_at.ensures ∙ rw (start, c.as_slice.ensures.value) (value_read inside.spec cells levels inside.marks.items values row c.self.invariant.kept here level) in
    ap (λ cs. slice_get cs row) (sym seen) ∙ slice_get-get_or cells row null here ∙ ap Some (sym value)

pub returns-clause-of_spec : goal.returns-clause-of_spec
returns-clause-of_spec c =
    let inside = c.self.inside in
    let column = c.args.self.now in
    let all : AreCellsOf column.spec column.cells = rw (← c.self.view_is) c.self.invariant.kept.of_spec in
    let read : get_or column.cells c.args.row null ≡ cell_of c.value_at.result = get_or_from_slice_get column.cells c.args.row (cell_of c.value_at.result) null (returns-clause-cell c) in
    rw (← read) (of_spec_at column.spec column.cells c.args.row all c.requires)

pub returns-then-level-eq0-clause-of_spec : goal.returns-then-level-eq0-clause-of_spec
returns-then-level-eq0-clause-of_spec c =
    let inside = c.self.inside in
    let column = c.args.self.now in
    let levels = levels_in inside.spec.optional inside.count inside.levels.items in
    let cells = cells_kept inside.spec.kind levels inside.values.items in
    let seen : cells ≡ column.cells = ap (λ (v : Column). v.cells) c.self.view_is in
    let here : c.args.row < length cells = rw seen c.requires in
    let level : get_or levels c.args.row 0 ≡ 0 = sym c.level_at-level.ensures ∙ c.if-level-eq0.true in
    let read : get_or column.cells c.args.row null ≡ null =
    ap (λ cs. get_or cs c.args.row null) (sym seen) ∙ null_read inside.spec cells levels inside.marks.items inside.values.items c.args.row c.self.invariant.kept here level in
    let all : AreCellsOf column.spec column.cells = rw (← c.self.view_is) c.self.invariant.kept.of_spec in
    subst (λ cell. IsCellOf column.spec cell) read (of_spec_at column.spec column.cells c.args.row all c.requires)
