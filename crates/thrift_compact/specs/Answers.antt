-- How the result of a reading function in the code relates to the reading that defines it.
use Rattle.std.specs.Prelude.{◌≡◌, ℕ, suc, ◌-◌, ℤ, List, [], ◌∷◌, ◌++◌, Option, Some, None, Result, Ok, Err}
use Rattle.thrift_compact.specs.declared.cursor.Stop.{Stop}
use Rattle.thrift_compact.specs.declared.cursor.Stop.TheVariants as stops
use Rattle.thrift_compact.specs.declared.kind.TKind.{TKind}
use Rattle.thrift_compact.specs.declared.refusal.ThriftRefusal.{ThriftRefusal}
use Rattle.thrift_compact.specs.declared.refusal.ThriftRefusal.TheVariants.{Bad, OutOfMemory}
use Rattle.pme_base.specs.Steps.{◌>>=◌}
use Rattle.thrift_compact.specs.Reading.{Fault, nest}

-- the reading has the fault of this stop; a failed allocation may stop any step
abbrev pub Fails : {Y : Type 0} → Stop → Result Y Fault → Type 0
Fails stops.Memory read = Unit {0}
Fails (stops.Fault why left) read = read ≡ Err (why, left)

-- a result Ok is the value of the reading, seen through `view`, and `rest` are the bytes after it; a result Err is its fault
abbrev pub Gives : {X Y : Type 0} → (X → Y) → Result X Stop → List ℕ → Result (Y × List ℕ) Fault → Type 0
Gives view (Ok x) rest read = read ≡ Ok (view x, rest)
Gives view (Err stop) rest read = Fails stop read

-- Gives for a step that reads no bytes
abbrev pub Answer : {X Y : Type 0} → (X → Y) → Result X Stop → Result Y Fault → Type 0
Answer view (Ok x) defined = defined ≡ Ok (view x)
Answer view (Err stop) defined = Fails stop defined

-- one more level may be opened and `inner` are left, or the stop is the fault that a list, a map and a struct have here
abbrev pub Enters : Result ℕ Stop → ℕ → List ℕ → Type 0
Enters (Ok inner) depth bs = depth ≡ suc inner
Enters (Err stop) depth bs =
    Fails stop ((nest depth).trees bs) × Fails stop ((nest depth).pairs bs) × Fails stop ((nest depth).fields bs)

-- a reading whose value is mapped by a function
abbrev pub mapped : {X Y : Type 0} → (X → Y) → Result (X × List ℕ) Fault → Result (Y × List ℕ) Fault
mapped f read = read >>= λ x. Ok (f x.0, x.1)

-- a reading whose value is dropped, as skipping does
abbrev pub skipped : {X : Type 0} → Result (X × List ℕ) Fault → Result (Unit {0} × List ℕ) Fault
skipped read = mapped (λ _. tt) read

-- the ids of a struct before and after the head of a field was read
abbrev pub Adds : Result (Option (ℤ × TKind)) Stop → List ℤ → List ℤ → Type 0
Adds (Ok (Some head)) before after = after ≡ before ++ head.0 ∷ []
Adds (Ok None) before after = after ≡ before
Adds (Err stop) before after = Unit {0}

-- a stop as a public error, where the whole input has `size` bytes
abbrev pub refusal_of : ℕ → Stop → ThriftRefusal
refusal_of size (stops.Fault why left) = Bad (size - left) why
refusal_of size stops.Memory = OutOfMemory
