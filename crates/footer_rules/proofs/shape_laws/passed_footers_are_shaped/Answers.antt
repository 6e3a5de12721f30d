use Rattle.footer_rules.proofs.Shaped.{shape_of}
use Rattle.footer_rules.proofs.shape_laws.passed_footers_are_shaped.Goals as goal

pub returns : goal.returns
returns c = shape_of
