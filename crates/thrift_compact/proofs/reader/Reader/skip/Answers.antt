use Rattle.std.proofs.Common.{ap}
use Rattle.thrift_compact.specs.Standing.{Moves}
use Rattle.thrift_compact.proofs.Stacks.{value_skipped}
use Rattle.thrift_compact.proofs.reader.Reader.skip.Goals as goal

pub returns-clause-value : goal.returns-clause-value
returns-clause-value c =
    let moves : Moves c.args.self.now (record { rest = c.skip_value.new.cursor; size = c.self.inside.size; inner = c.self.inside.inner; outer = c.self.inside.outer.items }) = record { size = ap (λ s. s.size) c.self.view_is; inner = ap (λ s. s.inner) c.self.view_is; outer = ap (λ s. s.outer) c.self.view_is } in
    value_skipped c.args.self.now _ _ _ c.args.kind c.depth_left-depth_left.ensures (ap (λ s. s.rest) c.self.view_is) c.in_default.ensures.value moves
