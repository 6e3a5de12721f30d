use Rattle.key_material.proofs.Judged.{accepted, refused_by}
use Rattle.key_material.proofs.laws.policies_are_judged_by_name.Goals as goal

pub returns-clause-accepted : goal.returns-clause-accepted
returns-clause-accepted c = accepted

pub returns-clause-refused : goal.returns-clause-refused
returns-clause-refused c = refused_by
