-- Two spellings that the same bytes begin with are equal, since reading gives one tree and one rest.
use Rattle.std.proofs.Common.{◌≡◌, ℕ, List, ◌++◌, sym, ap, ◌∙◌}
use Rattle.std.proofs.lemmas.List.{append_cancel_right}
use Rattle.thrift_compact.specs.declared.kind.TKind.{TKind}
use Rattle.thrift_compact.specs.Tree.{Tree}
use Rattle.thrift_compact.specs.Reading.{value}
use Rattle.thrift_compact.specs.Grammar.{Spells}
use Rattle.thrift_compact.specs.Spelled.{AreOne}
use Rattle.thrift_compact.proofs.Again.{value_again}
use Rattle.thrift_compact.proofs.Steps.{one_answer}

pub one_front : (depth : ℕ) (k : TKind) (t u : Tree) (front other rest others : List ℕ) → Spells depth k t front → Spells depth k u other
    → front ++ rest ≡ other ++ others → AreOne t u front other rest others
one_front depth k t u front other rest others one two same =
    let answers = one_answer (value depth k (front ++ rest)) (t, rest) (u, others) (value_again t depth k front rest one)
    (ap (value depth k) same ∙ value_again u depth k other others two) in
    let rests : rest ≡ others = ap (λ p. p.1) answers in
    record {
      trees = ap (λ p. p.0) answers;
      fronts = append_cancel_right front other others (ap (λ r. front ++ r) (sym rests) ∙ same);
      rests = rests;
    }
