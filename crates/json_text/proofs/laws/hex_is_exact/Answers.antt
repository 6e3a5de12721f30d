use Rattle.json_text.proofs.Codes.{hex_round_trips, hex_digits, hex_twice}
use Rattle.json_text.proofs.laws.hex_is_exact.Goals as goal

pub returns-clause-round_trip : goal.returns-clause-round_trip
returns-clause-round_trip c = hex_round_trips

pub returns-clause-digits : goal.returns-clause-digits
returns-clause-digits c = hex_digits

pub returns-clause-twice : goal.returns-clause-twice
returns-clause-twice c = hex_twice
