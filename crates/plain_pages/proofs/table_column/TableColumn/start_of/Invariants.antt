use Rattle.std.proofs.Common.{◌≡◌}
use Rattle.plain_pages.specs.Columns.{start_of}
use Rattle.plain_pages.proofs.table_column.TableColumn.start_of.Given as goal

abbrev pub invariant-loop-i : goal.invariant-loop-i
invariant-loop-i l = l.start ≡ start_of l.fn.self.spec.kind l.fn.self.cells l.i
