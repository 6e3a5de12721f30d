use Rattle.key_rights.proofs.Pairs.{distinct_entries, none_taken, one_taken}
use Rattle.key_rights.proofs.pairs_are_told_apart.Goals as goal

pub returns-clause-distinct : goal.returns-clause-distinct
returns-clause-distinct c = distinct_entries

pub returns-clause-none : goal.returns-clause-none
returns-clause-none c = none_taken

pub returns-clause-one : goal.returns-clause-one
returns-clause-one c = one_taken
