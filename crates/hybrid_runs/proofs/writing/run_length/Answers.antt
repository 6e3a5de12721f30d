use Rattle.std.proofs.Common.{◌∙◌}
use Rattle.hybrid_runs.specs.Written.{header_text}
use Rattle.hybrid_runs.proofs.ReadBack.{length-run_text}
use Rattle.hybrid_runs.proofs.writing.run_length.Goals as goal

pub returns : goal.returns
unfolding header_text
returns c = λ bits same.
    length-run_text bits
    ∙ rw (same, c.varint_length.ensures.length, c.groups_of-groups.ensures)
