use Rattle.key_rights.proofs.KeyTexts.{key_texts_are_hex}
use Rattle.key_rights.proofs.keys_are_hex.Goals as goal

pub returns : goal.returns
returns c = key_texts_are_hex
