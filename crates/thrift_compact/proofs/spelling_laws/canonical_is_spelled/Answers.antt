use Rattle.std.proofs.Common.{◌∙◌, subst}
use Rattle.thrift_compact.specs.Grammar.{Spells}
use Rattle.thrift_compact.specs.Spelling.{ordered, canonical}
use Rattle.thrift_compact.proofs.Arranged.{kind_in_order, proper_in_order, fits_in_order}
use Rattle.thrift_compact.proofs.Spelled.{spelled}
use Rattle.thrift_compact.proofs.spelling_laws.canonical_is_spelled.Goals as goal

pub returns : goal.returns
returns c t whole proper fits =
    subst (λ k. Spells 32 k (ordered t) (canonical t)) (kind_in_order t ∙ whole)
    (spelled 32 (ordered t) (proper_in_order 32 t proper) (fits_in_order t fits))
