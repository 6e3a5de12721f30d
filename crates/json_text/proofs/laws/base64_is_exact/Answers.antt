use Rattle.json_text.proofs.Codes.{base64_round_trips, base64_exact, base64_utf8, base64_length, base64_shorter}
use Rattle.json_text.proofs.laws.base64_is_exact.Goals as goal

pub returns-clause-round_trip : goal.returns-clause-round_trip
returns-clause-round_trip c = base64_round_trips

pub returns-clause-exact : goal.returns-clause-exact
returns-clause-exact c = base64_exact

pub returns-clause-utf8 : goal.returns-clause-utf8
returns-clause-utf8 c = base64_utf8

pub returns-clause-long : goal.returns-clause-long
returns-clause-long c = base64_length

pub returns-clause-shorter : goal.returns-clause-shorter
returns-clause-shorter c = base64_shorter
