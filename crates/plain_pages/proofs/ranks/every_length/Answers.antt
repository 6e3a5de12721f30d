use Rattle.std.proofs.Common.{sym}
use Rattle.plain_pages.proofs.PlaceLists.{length-every}
use Rattle.plain_pages.proofs.ranks.every_length.Goals as goal

pub returns : goal.returns
returns c = sym (length-every c.args.count)
