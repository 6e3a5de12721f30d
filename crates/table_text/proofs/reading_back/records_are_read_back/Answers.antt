use Rattle.table_text.proofs.TableBack.{record_back}
use Rattle.table_text.proofs.reading_back.records_are_read_back.Goals as goal

pub returns : goal.returns
returns c = record_back
