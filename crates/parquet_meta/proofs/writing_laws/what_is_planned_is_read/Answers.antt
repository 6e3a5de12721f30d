use Rattle.parquet_meta.proofs.PlansKeep.{file_plan_read}
use Rattle.parquet_meta.proofs.PlansPassed.{passed_plan_read, typed_is_planned}
use Rattle.parquet_meta.proofs.writing_laws.what_is_planned_is_read.Goals as goal

pub returns-clause-keeps : goal.returns-clause-keeps
returns-clause-keeps c = file_plan_read

pub returns-clause-passed : goal.returns-clause-passed
returns-clause-passed c = passed_plan_read

pub returns-clause-typed : goal.returns-clause-typed
returns-clause-typed c = typed_is_planned
