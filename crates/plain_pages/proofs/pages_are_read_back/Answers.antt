use Rattle.plain_pages.proofs.PageBack.{page_back}
use Rattle.plain_pages.proofs.pages_are_read_back.Goals as goal

pub returns : goal.returns
returns c = page_back
