use Rattle.footer_modes.proofs.TailsLaid.{laid_if_read, read_if_laid, flag_needed}
use Rattle.footer_modes.proofs.laws.tails_are_laid_out.Goals as goal

pub returns-clause-exactly : goal.returns-clause-exactly
returns-clause-exactly c asks bytes tail each = (laid_if_read asks bytes tail each, read_if_laid asks bytes tail)

pub returns-clause-read : goal.returns-clause-read
returns-clause-read c asks bytes tail = read_if_laid asks bytes tail

pub returns-clause-flagged : goal.returns-clause-flagged
returns-clause-flagged c asks bytes tail = flag_needed asks bytes tail
