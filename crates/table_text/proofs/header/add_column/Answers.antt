use Rattle.std.proofs.Common.{◌≡◌, Some, sym}
use Rattle.table_text.specs.Headers.{heading_read}
use Rattle.table_text.proofs.HeaderSpecs.{head_named}
use Rattle.table_text.proofs.header.add_column.Goals as goal

pub empty_column-requires : goal.empty_column-requires
empty_column-requires c =
    let read : heading_read c.args.field.now ≡ Some (c.in-Some.name.now, c.in-Some.column_type) = sym c.in-Some.ensures in
    head_named c.args.field.now (c.in-Some.name.now, c.in-Some.column_type) c.requires read
