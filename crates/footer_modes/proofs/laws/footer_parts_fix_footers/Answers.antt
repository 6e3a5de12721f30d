use Rattle.footer_modes.proofs.Parted.{parts_fix, tail_placed, tail_shape}
use Rattle.footer_modes.proofs.laws.footer_parts_fix_footers.Goals as goal

pub returns : goal.returns
returns c = record { fix = parts_fix; placed = tail_placed; shaped = tail_shape }
