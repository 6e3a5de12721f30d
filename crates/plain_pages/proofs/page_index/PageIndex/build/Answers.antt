use Rattle.std.proofs.Common.{sym, ◌∙◌}
use Rattle.plain_pages.proofs.PageByNumber.{page-read}
use Rattle.plain_pages.proofs.page_index.PageIndex.build.Goals as goal

pub returns-clause-answers : goal.returns-clause-answers
returns-clause-answers c = λ answered. c.read_index.ensures.answers answered ∙ sym (page-read _ _ _ _ _)
