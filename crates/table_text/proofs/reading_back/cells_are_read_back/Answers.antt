use Rattle.table_text.proofs.CellBack.{cell_back}
use Rattle.table_text.proofs.reading_back.cells_are_read_back.Goals as goal

pub returns : goal.returns
returns c = cell_back
