use Rattle.std.proofs.Common.{sym, arith}
use Rattle.plain_pages.proofs.PlaceLists.{slice_get-every, slice_get-every_past}
use Rattle.plain_pages.proofs.ranks.every_rank.Goals as goal

pub returns-then-i-count : goal.returns-then-i-count
returns-then-i-count c = sym (slice_get-every_past c.args.count c.args.i (omega arith))

pub returns : goal.returns
returns c = sym (slice_get-every c.args.count c.args.i (omega arith))
