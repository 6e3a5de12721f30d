use Rattle.std.proofs.Common.{◌≡◌, ◌-◌, List, ℕ, [], ◌∷◌, Some, pos}
use Rattle.thrift_compact.specs.Writing.{resumed}
use Rattle.thrift_compact.specs.declared.kind.TKind.TheVariants as kind
use Rattle.thrift_compact.specs.declared.writer.Part.TheVariants as part
use Rattle.metadata_tests.proofs.written_structs.zeros.Given as goal

abbrev pub invariant-loop-item : goal.invariant-loop-item
invariant-loop-item l = (out : List ℕ) × (l.writer ≡ resumed out (part.List kind.I8 (l.count - l._item) ∷ part.Struct (Some (pos 1)) ∷ []))
