use Rattle.std.proofs.Common.{arith}
use Rattle.pme_base.proofs.HeldBytes.{entry_holds}
use Rattle.pme_base.proofs.mem_files.MemFiles.store.Goals as goal

pub invariant_of-self : goal.invariant_of-self
invariant_of-self c = record {
  files_hold_bytes = rw c.push_front.ensures.items
      (entry_holds _ _ _ _ c.args.self.now.files_hold_bytes (rw c.in_ok-bytes.ensures (λ i. omega (arith, c.type_inv.bytes i))));
  pending_are_bytes = c.args.self.now.pending_are_bytes;
}
