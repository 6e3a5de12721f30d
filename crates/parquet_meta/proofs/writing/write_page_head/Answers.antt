use Rattle.parquet_meta.proofs.PlanNumbers.{page_header_fits}
use Rattle.parquet_meta.proofs.WritersRead.{ok_of_bytes, page_head_back}
use Rattle.parquet_meta.proofs.writing.write_page_head.Goals as goal

pub returns-clause-read_back : goal.returns-clause-read_back
returns-clause-read_back c = ok_of_bytes _ _ _ c.write_page_head.ensures (page_head_back c.args.head.now c.head_in_range.ensures)

pub returns-clause-numbers : goal.returns-clause-numbers
returns-clause-numbers c = page_header_fits c.args.head.now c.head_in_range.ensures
