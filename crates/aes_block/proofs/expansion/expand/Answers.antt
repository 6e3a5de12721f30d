use Rattle.std.proofs.Common.{◌≡◌, ◌+◌, ◌-◌, ◌*◌, ◌/◌, length, take, ap, ◌∙◌, arith}
use Rattle.std.proofs.lemmas.Slice.{take-put_mid_below}
use Rattle.aes_block.specs.Aes.{schedule, schedule_after}
use Rattle.aes_block.proofs.Schedules.{words_of, begun, one_more}
use Rattle.aes_block.proofs.expansion.expand.Goals as goal

pub loop-i-init : goal.loop-i-init
loop-i-init c =
    let n = length c.args.bytes.now in
    begun c.copy_from_slice.new.self c.args.bytes.now _ (n / 4) c.copy_from_slice.ensures.after (words_of n c.requires).whole

pub loop-i-preserved : goal.loop-i-preserved
loop-i-preserved c =
    let n = length c.args.bytes.now in
    let i = c.loop-i.i in
    let w = c.loop-i.words in
    let new = c.copy_from_slice-in-loop-i.new.self in
    let words = words_of n c.requires in
    let is = c.copy_from_slice-in-loop-i.ensures.after in
    let four : length new ≡ 4 = ap length is ∙ (omega arith) in (
      take-put_mid_below (4 * i) (4 * i + 4 - 4 * i) w new n (omega arith) (omega arith) ∙ c.loop-i.invariant.0,
      one_more c.args.bytes.now w new (n / 4) i (4 * i + 4 - 4 * i) (omega arith) (omega arith) (omega arith) four c.loop-i.invariant.1 (is ∙ c.next-word.ensures),
    )

pub returns-clause-key : goal.returns-clause-key
returns-clause-key c = c.loop-i.invariant.0

pub returns-clause-schedule : goal.returns-clause-schedule
unfolding schedule
returns-clause-schedule c =
    let n = length c.args.bytes.now in
    let words = words_of n c.requires in
    let bytes : 4 * n + 112 ≡ 4 * c.loop-i.i = omega arith in
    let after : c.loop-i.i - n / 4 ≡ 3 * (n / 4) + 28 = omega arith in
    ap (λ k. take k c.loop-i.words) bytes ∙ c.loop-i.invariant.1 ∙ ap (schedule_after c.args.bytes.now (n / 4)) after
