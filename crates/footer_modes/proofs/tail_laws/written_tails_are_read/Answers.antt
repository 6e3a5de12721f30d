use Rattle.footer_modes.proofs.WrittenRead.{encrypted_read, signed_read, unencrypted_read, encrypted_metadata_read, signed_metadata_read}
use Rattle.footer_modes.proofs.tail_laws.written_tails_are_read.Goals as goal

pub returns : goal.returns
returns c = record {
  encrypted = encrypted_read;
  signed = signed_read;
  unencrypted = unencrypted_read;
  encrypted_metadata = encrypted_metadata_read;
  signed_metadata = signed_metadata_read;
}
