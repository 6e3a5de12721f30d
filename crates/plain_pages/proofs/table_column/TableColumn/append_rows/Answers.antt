use Rattle.std.proofs.Common.{◌≡◌, ap, ◌∙◌, arith}
use Rattle.plain_pages.specs.Columns.{AreCellsOf, Column, levels_of, page_of, page_text, rows_between}
use Rattle.plain_pages.proofs.RowsKept.{all_rows, few_rows, page_same}
use Rattle.plain_pages.proofs.PageBack.{page_back}
use Rattle.plain_pages.proofs.table_column.TableColumn.append_rows.Goals as goal

pub append_page-requires : goal.append_page-requires
append_page-requires c = omega (arith, c.levels_between.ensures.few, c.requires.few)

pub returns-clause-appended : goal.returns-clause-appended
returns-clause-appended c =
    let column = c.args.self.now in
    let rows = rows_between c.args.from c.args.to column.cells in
    let spec : c.self.inside.spec ≡ column.spec = ap (λ (v : Column). v.spec) c.self.view_is in
    let same : page_of c.self.inside.spec c.levels_between.result.now c.values_between.result.now ≡ page_text column.spec rows =
    rw spec (page_same column.spec c.levels_between.result.now (levels_of rows) c.values_between.result.now c.levels_between.ensures.levels
    ∙ ap (page_of column.spec (levels_of rows)) c.values_between.ensures) in
    rw same at c.append_page.ensures.appended

pub returns-clause-page : goal.returns-clause-page
returns-clause-page c =
    let column = c.args.self.now in
    let rows = rows_between c.args.from c.args.to column.cells in
    let of_spec : AreCellsOf column.spec column.cells = rw (← c.self.view_is) c.self.invariant.kept.of_spec in
    page_back column.spec rows (all_rows column.spec c.args.from c.args.to column.cells of_spec) (omega (arith, few_rows c.args.from c.args.to column.cells, c.requires.few))
