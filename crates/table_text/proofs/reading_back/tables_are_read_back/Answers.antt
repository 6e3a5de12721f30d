use Rattle.table_text.proofs.TableBack.{table_back}
use Rattle.table_text.proofs.reading_back.tables_are_read_back.Goals as goal

pub returns : goal.returns
returns c = table_back
