use Rattle.thrift_compact.proofs.Sound.{sound}
use Rattle.thrift_compact.proofs.laws.what_is_read_is_spelled.Goals as goal

pub returns : goal.returns
returns c depth k t bytes rest each read =
    let took = sound depth k bytes (t, rest) each read in
    (took.front, took.is, took.parts)
