-- The loop over the fields of a struct, for any value that is made of them.
use Rattle.std.proofs.Common.{◌≡◌, ℕ, suc, ◌-◌, ◌<◌, ◌≤◌, ℤ, List, [], ◌∷◌, ◌++◌, length, Option, Some, None, Result, Ok, Err, sym, ap, ◌∙◌, subst, arith}
use Rattle.thrift_compact.specs.declared.frame.FieldHead.{FieldHead}
use Rattle.thrift_compact.specs.declared.frame.Frame.{Frame}
use Rattle.thrift_compact.specs.declared.frame.Frame.TheVariants as frame
use Rattle.thrift_compact.specs.declared.refusal.ThriftRefusal.{ThriftRefusal}
use Rattle.thrift_compact.specs.declared.refusal.ThriftRefusal.TheVariants.{Bad, OutOfMemory}
use Rattle.thrift_compact.specs.Answers.{mapped}
use Rattle.pme_base.proofs.Chain.{bind_ok, ok_same, err_same}
use Rattle.thrift_compact.proofs.PartsLeft.{FieldsLeft, fields_begin, fields_no_head, fields_end, fields_no_value, fields_more, fields_same}
use Rattle.thrift_compact.specs.Reading.{Fault, nest, value, field_head}
use Rattle.thrift_compact.specs.Standing.{Standing, depth_left, IsStruct, ids_of, FailsAt, GivesAt, BeginsStruct, ReadsField}
use Rattle.thrift_compact.specs.Tree.{Tree, Fields, no_fields, field}
use Rattle.parquet_fields.specs.Reads.{ReadsKnown}

-- If reading a part fails, reading the whole fails in the same way.
pub fails_with : {X Y : Type 0} (size other : ℕ) (e : ThriftRefusal) (part : Result X Fault) (whole : Result Y Fault) → size ≡ other → ((f : Fault) → part ≡ Err f → whole ≡ Err f) → FailsAt size e part → FailsAt other e whole
fails_with size other (Bad at why) part whole same leads fails = (fails.0, leads (why, fails.0) fails.1, subst (λ (n : ℕ). at ≡ n - fails.0) same fails.2)
fails_with size other OutOfMemory part whole same leads fails = tt

pub mapped_ok : {X Y : Type 0} (f : X → Y) (read : Result (X × List ℕ) Fault) (y : Y) (r : List ℕ) → mapped f read ≡ Ok (y, r) → (x : X) × (read ≡ Ok (x, r)) × (y ≡ f x)
mapped_ok f read y r e =
    let x = bind_ok read (λ z. Ok (f z.0, z.1)) (y, r) e in
    let same = ok_same (f x.0.0, x.0.1) (y, r) x.2 in
    let rest : x.0.1 ≡ r = ap (λ p. p.1) same in
    (x.0.0, x.1 ∙ ap (λ s. Ok (x.0.0, s)) rest, sym (ap (λ p. p.0) same))

pub mapped_err : {X Y : Type 0} (f : X → Y) (read : Result (X × List ℕ) Fault) (g : Fault) → mapped f read ≡ Err g → read ≡ Err g
mapped_err f (Ok x) g e = absurd cc
mapped_err f (Err h) g e = ap (λ i. Err i) (err_same h g e)

-- The reader is inside the struct that begins at `first`; the fields left, given to `make`, complete `whole`.
pub record Inside {X : Type 0} (make : Fields → X) (whole : Result (X × List ℕ) Fault) (first now : Standing) : Type 0 where
  pub fields : FieldsLeft make whole (value (depth_left now)) (ids_of now.inner) now.rest
  pub inner : IsStruct now.inner
  pub size : now.size ≡ first.size
  pub outer : now.outer ≡ first.inner ∷ first.outer
  pub shorter : length now.rest ≤ length first.rest

pub begun : {X : Type 0} (make : Fields → X) (first now : Standing) → BeginsStruct first now (Ok tt) → Inside make (mapped make ((nest (depth_left first)).fields first.rest)) first now
begun make first now begins =
    let opens = begins.1 in
    let more : length now.outer ≡ suc (length first.outer) = ap length opens.outer in
    let deep : suc (depth_left now) ≡ depth_left first = omega (arith, opens.depth_left, more) in
    let start : FieldsLeft make (mapped make ((nest (suc (depth_left now))).fields first.rest)) (value (depth_left now)) [] first.rest = fields_begin make (value (depth_left now)) first.rest in
    let at_room = subst (λ (n : ℕ). FieldsLeft make (mapped make ((nest n).fields first.rest)) (value (depth_left now)) [] first.rest) deep start in
    let at_rest = subst (λ (bs : List ℕ). FieldsLeft make (mapped make ((nest (depth_left first)).fields first.rest)) (value (depth_left now)) [] bs) (sym begins.0) at_room in
    let inside : IsStruct now.inner = subst IsStruct (sym opens.inner) tt in
    let same : length now.rest ≡ length first.rest = ap length begins.0 in
    record {
      fields = subst (λ (inner : Frame). FieldsLeft make (mapped make ((nest (depth_left first)).fields first.rest)) (value (depth_left now)) (ids_of inner) now.rest) (sym opens.inner) at_rest;
      inner = inside;
      size = opens.size;
      outer = opens.outer;
      shorter = omega (arith, same);
    }

-- The value of a field has been read; the struct with it added completes the same whole with the fields that follow.
pub taken : {M : Type 0} (after : M → Fields → M) → ((m : M) (id : ℤ) (t : Tree) (fs : Fields) → after m (field id t fs) ≡ after (after m (field id t no_fields)) fs) → (old new : M) (whole : Result (M × List ℕ) Fault) (first now mid last : Standing) (read : Option FieldHead) (head : FieldHead) → Inside (after old) whole first now → read ≡ Some head → ReadsField now mid (Ok read) → ReadsKnown (λ t. after old (field head.id t no_fields)) head.kind new mid last (Ok tt) → length mid.rest < length now.rest → length last.rest ≤ length mid.rest → Inside (after new) whole first last
taken after law old new whole first now mid last read head inside is reads takes less some =
    let at = subst (λ (x : Option FieldHead). ReadsField now mid (Ok x)) is reads in
    let t = takes.0 in
    let moves = takes.3 in
    let same_outer : last.outer ≡ now.outer = moves.outer ∙ at.3 in
    let at_now = subst (λ (outer : List Frame). value (32 - length outer) head.kind mid.rest ≡ Ok (t, last.rest)) at.3 takes.1 in
    let next = fields_more (after old) whole (value (depth_left now)) (ids_of now.inner) now.rest (head.id, head.kind) mid.rest t last.rest inside.fields at.0 at_now (omega arith) in
    let joined = fields_same (λ fs. after old (field head.id t fs)) (after new) whole (value (depth_left now)) (ids_of now.inner ++ head.id ∷ []) last.rest (λ fs. law old head.id t fs ∙ ap (λ m. after m fs) (sym takes.2)) next in
    let at_outer = subst (λ (outer : List Frame). FieldsLeft (after new) whole (value (32 - length outer)) (ids_of now.inner ++ head.id ∷ []) last.rest) (sym same_outer) joined in
    let same_inner : last.inner ≡ frame.Struct (ids_of now.inner ++ head.id ∷ []) = moves.inner ∙ at.2 in
    let still : IsStruct last.inner = subst IsStruct (sym same_inner) tt in
    record {
      fields = subst (λ (inner : Frame). FieldsLeft (after new) whole (value (depth_left last)) (ids_of inner) last.rest) (sym same_inner) at_outer;
      inner = still;
      size = moves.size ∙ (at.1 ∙ inside.size);
      outer = same_outer ∙ inside.outer;
      shorter = omega (arith, inside.shorter);
    }

-- Reading the value of a field fails.
pub not_taken : {M : Type 0} (step : Tree → M) (make : Fields → M) (new : M) (whole : Result (M × List ℕ) Fault) (first now mid last : Standing) (read : Option FieldHead) (head : FieldHead) (e : ThriftRefusal) → Inside make whole first now → read ≡ Some head → ReadsField now mid (Ok read) → ReadsKnown step head.kind new mid last (Err e) → FailsAt first.size e whole
not_taken step make new whole first now mid last read head e inside is reads takes =
    let at = subst (λ (x : Option FieldHead). ReadsField now mid (Ok x)) is reads in
    let at_now = subst (λ (outer : List Frame). FailsAt mid.size e (value (32 - length outer) head.kind mid.rest)) at.3 takes in
    fails_with mid.size first.size e (value (depth_left now) head.kind mid.rest) whole (at.1 ∙ inside.size) (λ f d. fields_no_value make whole (value (depth_left now)) (ids_of now.inner) now.rest (head.id, head.kind) mid.rest f inside.fields at.0 d) at_now

-- Reading the header of a field fails.
pub no_head : {X : Type 0} (make : Fields → X) (whole : Result (X × List ℕ) Fault) (first now last : Standing) (e : ThriftRefusal) → Inside make whole first now → ReadsField now last (Err e) → FailsAt first.size e whole
no_head make whole first now last e inside reads =
    fails_with now.size first.size e (field_head (ids_of now.inner) now.rest) whole inside.size (λ f d. fields_no_head make whole (value (depth_left now)) (ids_of now.inner) now.rest f inside.fields d) reads

-- The stop byte is read.
pub ended : {M : Type 0} (after : M → Fields → M) → ((m : M) → after m no_fields ≡ m) → (known : M) (whole : Result (M × List ℕ) Fault) (first now last : Standing) (read : Option FieldHead) → Inside (after known) whole first now → read ≡ None → ReadsField now last (Ok read) → GivesAt (λ (m : M). m) first last (Ok known) whole
ended after law known whole first now last read inside is reads =
    let at = subst (λ (x : Option FieldHead). ReadsField now last (Ok x)) is reads in
    let closes = at.1 in
    let same : first.inner ∷ first.outer ≡ last.inner ∷ last.outer = sym inside.outer ∙ closes.outer in
    let inner : last.inner ≡ first.inner = cc in
    let outer : last.outer ≡ first.outer = cc in (
      fields_end (after known) whole (value (depth_left now)) (ids_of now.inner) now.rest last.rest inside.fields at.0 ∙ ap (λ m. Ok (m, last.rest)) (law known),
      record { size = closes.size ∙ inside.size; inner = inner; outer = outer },
    )
