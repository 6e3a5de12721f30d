-- The contents of the objects in memory, and which of their calls are set to fail.
use Rattle.std.specs.Prelude.{ℕ, ◌+◌, ◌-◌, ◌^◌, ◌==◌, min, Bool, cond, List, [], drop}
use Rattle.std.specs.List.{list_any}
use Rattle.std.specs.FinMap.{from_entries}
use Rattle.pme_base.specs.declared.calls.Calls.{Calls}
use Rattle.pme_base.specs.declared.mem_files.MemFiles.{MemFiles}
use Rattle.pme_base.specs.declared.mem_random.MemRandom.{MemRandom}
use Rattle.pme_base.specs.declared.mem_sink.MemSink.{MemSink}
use Rattle.pme_base.specs.Outside.{Published}

-- a count raised by one, up to 2^64 - 1
abbrev pub one_more : ℕ → ℕ
one_more count = min (count + 1) (2 ^ 64 - 1)

-- no call was made, and none is set to fail
abbrev pub no_calls : Calls
no_calls = record { made = 0; failing = []; faults = 0 }

-- whether the next call is set to fail
abbrev pub is_failing : Calls → Bool
is_failing calls = list_any (λ call. call == calls.made) calls.failing

-- the calls after one more call, which failed or succeeded
abbrev pub called : Bool → Calls → Calls
called failed calls = record calls { made = one_more calls.made; faults = cond failed (one_more calls.faults) calls.faults }

-- the contents of files in memory
pub record Memory : Type 0 where
  pub published : Published
  pub pending : List ℕ
  pub given : ℕ
  pub largest_read : ℕ
  pub largest_append : ℕ
  pub calls : Calls

abbrev pub memory : MemFiles → Memory
memory m = record { published = from_entries m.log.items; pending = m.pending; given = m.given; largest_read = m.largest_read; largest_append = m.largest_append; calls = m.calls }

abbrev pub mem_published : MemFiles → Published
mem_published m = (memory m).published

abbrev pub mem_pending : MemFiles → List ℕ
mem_pending m = (memory m).pending

-- the bytes that a source in memory will give
abbrev pub mem_to_come : MemRandom → List ℕ
mem_to_come m = drop m.next m.bytes

-- the bytes written to a sink in memory
abbrev pub mem_written : MemSink → List ℕ
mem_written m = m.bytes
