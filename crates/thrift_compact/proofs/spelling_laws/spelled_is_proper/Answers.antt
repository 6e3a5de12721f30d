use Rattle.thrift_compact.proofs.FromSpelled.{proper_from, fits_from}
use Rattle.thrift_compact.proofs.spelling_laws.spelled_is_proper.Goals as goal

pub returns-clause-proper : goal.returns-clause-proper
returns-clause-proper c depth k t bs spells = proper_from t depth k bs spells

pub returns-clause-fits : goal.returns-clause-fits
returns-clause-fits c depth k t bs bytes spells = fits_from t depth k bs bytes spells
