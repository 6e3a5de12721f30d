use Rattle.table_text.proofs.HeaderBack.{heading_back}
use Rattle.table_text.proofs.reading_back.headings_are_read_back.Goals as goal

pub returns : goal.returns
returns c = heading_back
