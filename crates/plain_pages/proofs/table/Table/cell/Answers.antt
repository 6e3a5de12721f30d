use Rattle.std.proofs.Common.{◌≡◌, subst}
use Rattle.plain_pages.specs.Cells.{cell_of}
use Rattle.plain_pages.specs.Columns.{Column, IsCellOf}
use Rattle.plain_pages.proofs.table.Table.cell.Goals as goal

pub returns-clause-of_spec : goal.returns-clause-of_spec
returns-clause-of_spec c = λ column found.
    let same : c.column.result.now ≡ column = cc c.column.ensures.item in
    let P : Column → Type 0 = λ v. IsCellOf v.spec (cell_of c.cell.result) in
    subst P same c.cell.ensures.of_spec
