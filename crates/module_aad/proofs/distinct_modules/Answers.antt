use Rattle.module_aad.proofs.Suffixes.{distinct_places, distinct_files}
use Rattle.module_aad.proofs.distinct_modules.Goals as goal

pub returns-clause-places : goal.returns-clause-places
returns-clause-places c = distinct_places

pub returns-clause-files : goal.returns-clause-files
returns-clause-files c = λ prefix u v p q long differ same. differ (distinct_files prefix u v p q long same)
