use Rattle.pme_base.proofs.HeldBytes.{entry_holds, no_bytes}
use Rattle.pme_base.proofs.mem_files.MemFilesFiles.publish.Goals as goal

pub invariant_of-self-2 : goal.invariant_of-self-2
invariant_of-self-2 c = record {
  files_hold_bytes = rw c.push_front.ensures.items (entry_holds _ _ _ _ c.args.self.now.files_hold_bytes (rw c.replace-bytes.ensures.value c.args.self.now.pending_are_bytes));
  pending_are_bytes = rw (c.replace-bytes.ensures.after, c.new.ensures) no_bytes;
}
