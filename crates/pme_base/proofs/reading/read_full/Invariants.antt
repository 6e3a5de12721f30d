use Rattle.std.proofs.Common.{◌≡◌, ◌≤◌, ◌-◌, length, IfSome}
use Rattle.pme_base.specs.Outside.{bytes_of, RoseBy}
use Rattle.pme_base.proofs.ReadSteps.{IsReadSoFar}
use Rattle.pme_base.proofs.reading.read_full.Given as goal

abbrev pub invariant-loop-done : goal.invariant-loop-done
invariant-loop-done g l = let files = g.F.Files in record {
  within : l.done ≤ length l.into;
  published : files.published l.files ≡ files.published l.fn.files;
  pending : files.pending l.files ≡ files.pending l.fn.files;
  given : RoseBy l.done (files.given l.fn.files) (files.given l.files);
  later : files.faults l.fn.files ≤ files.faults l.files;
  read_so_far : IfSome (files.published l.fn.files) (λ published. IsReadSoFar (bytes_of published l.name) l.at l.done l.into);
}

abbrev pub decreases-loop-done : goal.decreases-loop-done
decreases-loop-done g l = length l.initial.into - l.done
