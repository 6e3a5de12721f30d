use Rattle.std.proofs.Common.{inl}
use Rattle.csv.specs.Records.{fields_of}
use Rattle.table_text.proofs.RecordLemmas.{took, ended, outside}
use Rattle.table_text.proofs.records.read_next.Goals as goal

pub returns-in-Ok-clause-found : goal.returns-in-Ok-clause-found
returns-in-Ok-clause-found c found = (took c.args.reader.now c.read_byte_record.new.self (fields_of c.read_byte_record.new.row) c.requires (inl (c.in-Ok.ensures.ready c.requires.trim)) c.in-Ok.ensures.flexible (rw found at (c.in-Ok.ensures.reads c.requires.trim c.requires.ready))).next

pub returns-in-Ok-clause-reading : goal.returns-in-Ok-clause-reading
returns-in-Ok-clause-reading c found = (took c.args.reader.now c.read_byte_record.new.self (fields_of c.read_byte_record.new.row) c.requires (inl (c.in-Ok.ensures.ready c.requires.trim)) c.in-Ok.ensures.flexible (rw found at (c.in-Ok.ensures.reads c.requires.trim c.requires.ready))).reading

pub returns-in-Ok-clause-short : goal.returns-in-Ok-clause-short
returns-in-Ok-clause-short c found = (took c.args.reader.now c.read_byte_record.new.self (fields_of c.read_byte_record.new.row) c.requires (inl (c.in-Ok.ensures.ready c.requires.trim)) c.in-Ok.ensures.flexible (rw found at (c.in-Ok.ensures.reads c.requires.trim c.requires.ready))).short

pub returns-in-Ok-clause-end : goal.returns-in-Ok-clause-end
returns-in-Ok-clause-end c none = ended c.args.reader.now c.read_byte_record.new.self (fields_of c.read_byte_record.new.row) c.requires (rw none at (c.in-Ok.ensures.reads c.requires.trim c.requires.ready))

pub cause_of-requires : goal.cause_of-requires
cause_of-requires c = rw c.kind.ensures (outside c.args.reader.now c.read_byte_record.new.self _ c.requires (c.in-Err.ensures.why c.requires.ready))
