use Rattle.footer_modes.proofs.PlannedRead.{encrypted_plan_read, signed_plan_read}
use Rattle.footer_modes.proofs.tail_laws.planned_tails_are_read.Goals as goal

pub returns : goal.returns
returns c = record { encrypted = encrypted_plan_read; signed = signed_plan_read }
