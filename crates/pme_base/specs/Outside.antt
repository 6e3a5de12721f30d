-- The objects outside, as contracts see them: published files, pending bytes, random bytes still to come, and bytes
-- written. Where contracts don't see an object's contents they are None, and so is each definition here.
use Rattle.std.specs.Prelude.{◌≡◌, ℕ, ◌+◌, ◌-◌, ◌^◌, ◌<◌, ◌≤◌, min, slice_index, List, [], ◌++◌, take, drop, length, Option, None, Some, unwrap_or, option_map, Result, Ok, Err, IsErrOf}
use Rattle.std.specs.Cmp.Lexicographic.{slice_cmp}
use Rattle.std.specs.Ordering.{nat_cmp}
use Rattle.std.specs.FinMap.{FinMap, get, insert}
use Rattle.pme_base.specs.declared.outside.Trouble.{Trouble}
use Rattle.pme_base.specs.declared.outside.Trouble.TheVariants.{Failed}
use Rattle.pme_base.specs.Counts.{Rose}

-- the published files: a finite map from names to bytes
abbrev pub Published : Type 0
Published = FinMap (slice_cmp nat_cmp) (List ℕ)

-- each item is a byte
abbrev pub AreBytes : List ℕ → Type 0
AreBytes bytes = (i : ℕ) → slice_index bytes i < 256

-- each file holds bytes
abbrev pub HoldBytes : Published → Type 0
HoldBytes files = (name bytes : List ℕ) → get files name ≡ Some bytes → AreBytes bytes

-- the bytes of a file; empty where it isn't published
abbrev pub bytes_of : Published → List ℕ → List ℕ
bytes_of files name = unwrap_or (get files name) []

-- no pending bytes
abbrev pub nothing_pending : Option Published → Option (List ℕ)
nothing_pending files = option_map (λ _. []) files

-- bytes appended to other bytes
abbrev pub followed_by : List ℕ → Option (List ℕ) → Option (List ℕ)
followed_by bytes before = option_map (λ all. all ++ bytes) before

-- the files after the pending bytes were published under this name
abbrev pub with_file : Option Published → List ℕ → Option (List ℕ) → Option Published
with_file (Some files) name (Some bytes) = Some (insert files name bytes)
with_file (Some files) name None = None
with_file None name bytes = None

-- the number of bytes given after a read, capped at 2^64 - 1
abbrev pub given_after : ℕ → Result ℕ Trouble → ℕ
given_after given (Ok count) = min (given + count) (2 ^ 64 - 1)
given_after given (Err trouble) = given

-- the first `count` bytes of the buffer are the file's bytes from offset `at` on; `count` is 0 only where the buffer is
-- empty or the file has no bytes there
pub record IsReadAt (bytes : List ℕ) (at count : ℕ) (into : List ℕ) : Type 0 where
  pub front : take count into ≡ take count (drop at bytes)
  pub within : count ≤ length bytes - at
  pub nonzero : 0 < length into → at < length bytes → 0 < count

-- the first `count` bytes of the buffer are the file's bytes from offset `at` on, and `count` is less than the buffer's
-- length only at the file's end. Offsets have 64 bits: where both the file and the buffer reach past the last offset,
-- `count` may be any number.
pub record IsReadFull (bytes : List ℕ) (at count : ℕ) (into : List ℕ) : Type 0 where
  pub front : take count into ≡ take count (drop at bytes)
  pub within : count ≤ length bytes - at
  pub whole : min (at + length into) (length bytes) ≤ 2 ^ 64 → count ≡ min (length into) (length bytes - at)

-- the number of bytes given rose by `count`, up to 2^64 - 1
pub record RoseBy (count before now : ℕ) : Type 0 where
  pub least : min (before + count) (2 ^ 64 - 1) ≤ now
  pub most : now ≤ before + count

-- the bytes drawn are the next ones to come
pub record IsDrawn (to_come drawn : List ℕ) : Type 0 where
  pub enough : length drawn ≤ length to_come
  pub next : drawn ≡ take (length drawn) to_come

-- a prefix of the bytes was appended to those written before
pub record PutsFront (bytes : List ℕ) (before after : Option (List ℕ)) : Type 0 where
  pub count : ℕ
  pub within : count ≤ length bytes
  pub front : after ≡ followed_by (take count bytes) before

-- the number of failed calls never falls, and a call returns Failed only where it rose
pub record HasCause {T : Type 0} (before now : ℕ) (result : Result T Trouble) : Type 0 where
  pub later : before ≤ now
  pub failed : IsErrOf result Failed → Rose before now
