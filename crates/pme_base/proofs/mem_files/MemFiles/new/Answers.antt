use Rattle.pme_base.proofs.HeldBytes.{none_hold, no_bytes}
use Rattle.pme_base.proofs.mem_files.MemFiles.new.Goals as goal

pub invariant_of-result : goal.invariant_of-result
invariant_of-result c = record { files_hold_bytes = rw c.new-2.ensures.items none_hold; pending_are_bytes = rw c.new-3.ensures no_bytes }
