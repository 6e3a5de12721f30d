use Rattle.std.proofs.Common.{refl}
use Rattle.std.specs.Option.{option_copied}
use Rattle.footer_modes.specs.TailOf as defined
use Rattle.footer_modes.proofs.TailsLaid.{result_mode}
use Rattle.footer_modes.proofs.Told.{of_told, laid_told}
use Rattle.footer_modes.proofs.reader.read_tail.Goals as goal

pub returns-clause-answer : goal.returns-clause-answer
returns-clause-answer g c =
    let asks = defined.asks_of (g.K.KeyFinder.answer c.args.finder.now) (option_copied c.args.prefix) c.args.options.now.gcm_only c.args.options.now.allow_plain in
    of_told (λ e a. defined.area_tail asks e.magic e.data_end a) (defined.file_tail asks) (λ bytes. refl) _ _ _ _ _ c.in_ok-ends.ensures.answer c.in_ok-ends.ensures.inside (rw c.in_ok-ends.ensures.published at c.in_ok-area.ensures.answered) (rw c.as_mut_slice.ensures.value at c.open_area.ensures.answer)

pub returns-clause-laid_out : goal.returns-clause-laid_out
returns-clause-laid_out g c =
    let asks = defined.asks_of (g.K.KeyFinder.answer c.args.finder.now) (option_copied c.args.prefix) c.args.options.now.gcm_only c.args.options.now.allow_plain in
    laid_told asks _ _ _ (g.met.F.Files.bytes c.args.files.now) (returns-clause-answer g c)

pub returns-clause-mode : goal.returns-clause-mode
returns-clause-mode g c =
    let asks = defined.asks_of (g.K.KeyFinder.answer c.args.finder.now) (option_copied c.args.prefix) c.args.options.now.gcm_only c.args.options.now.allow_plain in
    result_mode asks c.in_ok-ends.ends.magic c.in_ok-ends.ends.data_end c.as_mut_slice.result.now c.open_area.result c.open_area.ensures.answer
