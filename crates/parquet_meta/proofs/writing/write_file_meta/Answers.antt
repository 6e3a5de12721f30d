use Rattle.parquet_meta.proofs.PlanNumbers.{file_meta_fits}
use Rattle.parquet_meta.proofs.WritersRead.{ok_of_bytes, footer_back}
use Rattle.parquet_meta.proofs.writing.write_file_meta.Goals as goal

pub returns-clause-read_back : goal.returns-clause-read_back
returns-clause-read_back c = ok_of_bytes _ _ _ c.write_file_meta.ensures (footer_back c.args.plan.now c.requires c.plan_in_range.ensures)

pub returns-clause-numbers : goal.returns-clause-numbers
returns-clause-numbers c = file_meta_fits c.args.plan.now c.requires c.plan_in_range.ensures
