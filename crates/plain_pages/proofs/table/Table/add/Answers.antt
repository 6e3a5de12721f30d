use Rattle.std.proofs.Common.{subst}
use Rattle.plain_pages.specs.ColumnSpecs.{IsColumnSpec}
use Rattle.plain_pages.proofs.TableLemmas.{next_table}
use Rattle.plain_pages.proofs.table.Table.add.Goals as goal

pub invariant_of-self-2 : goal.invariant_of-self-2
invariant_of-self-2 c =
    rw (c.in_ok-push.ensures.items)
    (next_table c.self.inside.columns.items c.args.column c.self.invariant (rw c.self.view_is c.requires.long) (subst IsColumnSpec c.spec-spec.ensures.spec c.spec-spec.ensures.named) (rw c.self.view_is c.requires.new_name))
