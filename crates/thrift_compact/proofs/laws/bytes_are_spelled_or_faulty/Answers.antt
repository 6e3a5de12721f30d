use Rattle.thrift_compact.proofs.Judged.{judged, never_both, one_fault}
use Rattle.thrift_compact.proofs.Places.{place_inside}
use Rattle.thrift_compact.proofs.laws.bytes_are_spelled_or_faulty.Goals as goal

pub returns-clause-each : goal.returns-clause-each
returns-clause-each c depth k bytes each = judged depth k bytes each

pub returns-clause-never_both : goal.returns-clause-never_both
returns-clause-never_both c depth k t bytes rest f begins fault = never_both depth k t bytes rest f begins fault

pub returns-clause-one_fault : goal.returns-clause-one_fault
returns-clause-one_fault c depth k bytes f g one two = one_fault depth k bytes f g one two

pub returns-clause-inside : goal.returns-clause-inside
returns-clause-inside c depth k bytes f fault = place_inside depth k bytes f fault
