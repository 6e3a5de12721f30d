use Rattle.std.proofs.Common.{sym, arith}
use Rattle.plain_pages.proofs.PlaceLists.{slice_get-even, slice_get-even_past}
use Rattle.plain_pages.proofs.places.even_place.Goals as goal

pub returns-then-k-count : goal.returns-then-k-count
returns-then-k-count c = sym (slice_get-even_past c.args.first c.args.step c.args.count c.args.k (omega arith))

pub returns : goal.returns
returns c = sym (slice_get-even c.args.first c.args.step c.args.count c.args.k (omega arith))
