use Rattle.std.proofs.Common.{◌≡◌, ℕ, List, ◌++◌, drop, length, OnOk, Ok, Err, Result, rules, refl}
use Rattle.std.proofs.lemmas.List.{drop_at}
use Rattle.plain_pages.specs.Cells.{Cell}
use Rattle.parquet_types.specs.declared.column.ColumnSpec.{ColumnSpec}
use Rattle.plain_pages.specs.Columns.{IsPageOf, page_text, rows_between}
use Rattle.plain_pages.proofs.table_column.TableColumn.write_rows.Goals as goal

written_back : {T E : Type 0} (r : Result T E) (spec : ColumnSpec) (cells : List Cell) (old new text : List ℕ) → OnOk r (new ≡ old ++ text) → IsPageOf spec cells text
    → OnOk r (IsPageOf spec cells (drop (length old) new))
written_back (Ok x) spec cells old new text written back = rw (written, drop_at old text (length old) refl) back
written_back (Err e) spec cells old new text written back = tt

pub returns-clause-read_back : goal.returns-clause-read_back
returns-clause-read_back c =
    let rows = rows_between c.args.from c.args.to c.args.self.now.cells in
    let written : OnOk c.append_rows-written.result (c.from_vec.result ≡ c.args.into.now ++ page_text c.args.self.now.spec rows) = search rules in
    written_back c.append_rows-written.result c.args.self.now.spec rows c.args.into.now c.from_vec.result (page_text c.args.self.now.spec rows) written c.append_rows-written.ensures.page
