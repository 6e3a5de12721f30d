use Rattle.std.proofs.Common.{◌≡◌, Some, length, get_or, refl}
use Rattle.std.specs.List.{slice_get}
use Rattle.std.proofs.lemmas.Option.{slice_get_read}
use Rattle.plain_pages.specs.Columns.{IsTable}
use Rattle.plain_pages.proofs.TableLemmas.{column_rows}
use Rattle.plain_pages.proofs.table.Table.column.Goals as goal

pub returns-clause-rows : goal.returns-clause-rows
returns-clause-rows c =
    let at : c.index.result.now ≡ get_or c.args.self.now c.args.column c.index.result.now = rw (← c.self.view_is) c.index.ensures in
    let found : slice_get c.args.self.now c.args.column ≡ Some c.index.result.now =
    slice_get_read c.args.self.now (length c.args.self.now) c.args.column c.index.result.now refl c.requires at in
    let table : IsTable c.args.self.now = rw (← c.self.view_is) c.self.invariant in
    column_rows c.args.self.now c.args.column c.index.result.now table found
