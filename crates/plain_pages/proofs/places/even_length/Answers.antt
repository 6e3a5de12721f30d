use Rattle.std.proofs.Common.{sym}
use Rattle.plain_pages.proofs.PlaceLists.{length-even}
use Rattle.plain_pages.proofs.places.even_length.Goals as goal

pub returns : goal.returns
returns c = sym (length-even c.args.first c.args.step c.args.count)
