-- Appending bytes to earlier bytes.
use Rattle.std.proofs.Common.{◌≡◌, ℕ, Result, Ok, Err, List, [], ◌++◌, refl, sym, ◌∙◌, ap, append_assoc, OnErr}
use Rattle.std.proofs.lemmas.List.{append-nil}
use Rattle.thrift_compact.specs.Spelling.{varint_within, varint_of, Extends}

-- bytes begin with themselves, and still begin with the old bytes after more were appended
pub extends_same : (old new : List ℕ) → new ≡ old → Extends old new
extends_same old new same = record { more = []; parts = rw same (sym (append-nil old)) }

pub extends_more : (old between new : List ℕ) → Extends old between → Extends between new → Extends old new
extends_more old between new first second = record {
  more = first.more ++ second.more;
  parts = second.parts ∙ (ap (λ xs. xs ++ second.more) first.parts ∙ append_assoc old first.more second.more);
}

pub extends_by : (old more new : List ℕ) → new ≡ old ++ more → Extends old new
extends_by old more new parts = record { more = more; parts = parts }

pub varint_of_is : (n : ℕ) → varint_of n ≡ varint_within 9 n
unfolding varint_of
varint_of_is n = refl

pub extends_unchanged : (old between new : List ℕ) → Extends old between → new ≡ between → Extends old new
extends_unchanged old between new first step = extends_more old between new first (extends_same between new step)

pub kept_unchanged : {T E : Type 0} (result : Result T E) (old between new : List ℕ) → Extends old between → OnErr result (new ≡ between) → OnErr result (Extends old new)
kept_unchanged (Ok x) old between new first step = tt
kept_unchanged (Err e) old between new first step = extends_unchanged old between new first step
