use Rattle.crypto_module.proofs.ReadBack.{gcm_reads_back, ctr_reads_back}
use Rattle.crypto_module.proofs.reads_back_what_is_written.Goals as goal

pub returns : goal.returns
returns c = record { gcm = gcm_reads_back; ctr = ctr_reads_back }
