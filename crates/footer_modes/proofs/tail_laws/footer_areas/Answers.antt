use Rattle.footer_modes.proofs.Lengths.{encrypted_area_length, signed_area_length}
use Rattle.footer_modes.proofs.tail_laws.footer_areas.Goals as goal

pub returns : goal.returns
returns c = record { encrypted = encrypted_area_length; signed = signed_area_length }
