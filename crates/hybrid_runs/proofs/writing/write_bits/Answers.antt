use Rattle.std.proofs.Common.{◌∷◌, [], ◌∙◌, arith}
use Rattle.hybrid_runs.proofs.ReadBack.{grouped_turn, kept_more}
use Rattle.hybrid_runs.proofs.writing.write_bits.Goals as goal

pub loop-preserved : goal.loop-preserved
loop-preserved c =
    let so = c.loop.invariant in
    let pushed = c.in_ok-push.ensures.items in
    let items = c.loop.into.items in
    let more = c.push.new.self.items in
    let split = c.split_at.ensures in (
      so.0
          ∙ grouped_turn items more c.loop.rest.now c.split_at.result.0.now c.split_at.result.1.now _ _ c.byte_of.result (omega arith) pushed c.byte_of.ensures.number
          (rw (← c.min.ensures) split.front) (rw (← c.min.ensures) split.back),
      kept_more c.args.into.now.items items more (c.byte_of.result ∷ []) so.1 pushed,
    )
