use Rattle.std.proofs.Common.{◌∙◌}
use Rattle.json_text.proofs.Texts.{json_of-utf8}
use Rattle.json_text.proofs.writing.write_json.Goals as goal

pub returns-clause-text : goal.returns-clause-text
returns-clause-text c =
    let written = c.in_ok-text.ensures in
    rw c.from_vec.ensures (record {
      spelled = written.text;
      read_back = λ depth. json_of-utf8 c.in_ok-text.text.items written.utf8 ∙ written.reads_back depth;
    })
