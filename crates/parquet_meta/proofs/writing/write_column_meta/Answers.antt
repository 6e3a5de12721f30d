use Rattle.parquet_meta.proofs.PlanNumbers.{column_meta_fits}
use Rattle.parquet_meta.proofs.WritersRead.{ok_of_bytes, column_meta_back}
use Rattle.parquet_meta.proofs.writing.write_column_meta.Goals as goal

pub returns-clause-read_back : goal.returns-clause-read_back
returns-clause-read_back c = ok_of_bytes _ _ _ c.write_column_meta.ensures (column_meta_back c.args.chunk.now c.requires c.chunk_in_range.ensures)

pub returns-clause-numbers : goal.returns-clause-numbers
returns-clause-numbers c = column_meta_fits c.args.chunk.now c.chunk_in_range.ensures
