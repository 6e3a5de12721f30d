use Rattle.std.proofs.Common.{inr, ◌∙◌, refl}
use Rattle.csv.specs.Reading.{strip_bom}
use Rattle.table_text.specs.Records.{records_left, records_of}
use Rattle.table_text.proofs.RecordLemmas.{stripped}
use Rattle.table_text.proofs.records.open.Goals as goal

pub returns-clause-reading : goal.returns-clause-reading
returns-clause-reading c =
    let made = c.from_reader.ensures in
    record {
      ready = inr (inr (rw (c.flexible.ensures, c.has_headers.ensures) at made.has_headers, made.headers));
      trim = rw (c.flexible.ensures, c.has_headers.ensures) at made.trim ∙ c.new.ensures.trim;
      config = rw (c.flexible.ensures, c.has_headers.ensures) at made.config ∙ c.new.ensures.config;
      flexible = rw c.flexible.ensures at made.flexible;
      left = strip_bom c.args.text.now;
      left_is = made.source;
      small = stripped c.args.text.now c.requires;
    }

pub returns-clause-all : goal.returns-clause-all
unfolding records_left records_of
returns-clause-all c = rw (c.from_reader.ensures.state, c.from_reader.ensures.source) refl
