use Rattle.std.proofs.Common.{◌≡◌, take}
use Rattle.table_text.specs.Headers.{last_colon}
use Rattle.table_text.proofs.header.last_colon.Given as goal

abbrev pub invariant-loop-i : goal.invariant-loop-i
invariant-loop-i l = l.last ≡ last_colon (take l.i l.field)
