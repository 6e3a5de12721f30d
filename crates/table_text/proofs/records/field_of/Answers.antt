use Rattle.std.proofs.Common.{sym, ◌≤◌, length, arith}
use Rattle.csv.specs.Records.{fields_of}
use Rattle.table_text.proofs.HeaderLemmas.{no_field}
use Rattle.table_text.proofs.records.field_of.Goals as goal

pub unreachable-requires : goal.unreachable-requires
unreachable-requires c =
    let over : length (fields_of c.args.record.now) ≤ c.args.i = no_field (fields_of c.args.record.now) c.args.i (sym c.in-None.ensures.value) in
    omega arith
