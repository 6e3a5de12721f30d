use Rattle.pme_base.proofs.mem_random.MemRandom.new.Goals as goal

pub invariant_of-result : goal.invariant_of-result
invariant_of-result c = record { are_bytes = rw (← c.as_slice.ensures) c.are_bytes.ensures }
