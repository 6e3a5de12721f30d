use Rattle.std.proofs.Common.{sym, ◌∙◌}
use Rattle.std.specs.FinMap.{get-from_entries}
use Rattle.std.specs.Cmp.Lexicographic.{nat_list_cmp_total}
use Rattle.pme_base.proofs.mem_files.MemFiles.held.Goals as goal

pub returns : goal.returns
returns c = c.newest.ensures ∙ sym (get-from_entries nat_list_cmp_total _ _)
