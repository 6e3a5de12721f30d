use Rattle.std.proofs.Common.{refl}
use Rattle.footer_modes.specs.TailOf as defined
use Rattle.footer_modes.proofs.Told.{of_told}
use Rattle.footer_modes.proofs.reader.footer_key_metadata.Goals as goal

pub returns-clause-answer : goal.returns-clause-answer
returns-clause-answer g c =
    of_told (λ e a. defined.area_metadata e.magic e.data_end a) defined.file_key_metadata (λ bytes. refl) _ _ _ _ _ c.in_ok-ends.ensures.answer c.in_ok-ends.ensures.inside (rw c.in_ok-ends.ensures.published at c.in_ok-area.ensures.answered) (rw c.as_slice.ensures.value at c.area_metadata.ensures.answer)
