-- Invariants of loops that read a list, a map or a struct one part at a time. `whole` is the reading of all parts, and
-- `make` turns the parts that the loop has not read yet into the value of `whole`. For each of the three records a lemma
-- states the step over one part, the end of the loop, and each failure.
use Rattle.std.specs.Prelude.{◌≡◌, ℕ, zero, suc, ◌<◌, ◌≤◌, ℤ, List, [], ◌∷◌, ◌++◌, length, Option, Some, None, Result, Ok, Err, refl}
use Rattle.std.proofs.Common.{sym, ap, ◌∙◌, arith}
use Rattle.pme_base.specs.declared.refusal.ThriftFault.TheVariants.{End}
use Rattle.pme_base.specs.Steps.{◌>>=◌}
use Rattle.pme_base.proofs.Chain.{err_same}
use Rattle.thrift_compact.specs.declared.kind.TKind.{TKind}
use Rattle.thrift_compact.specs.Answers.{mapped}
use Rattle.thrift_compact.specs.Reading.{Fault, Read, elements, entries, fields, after_head, field_head}
use Rattle.thrift_compact.specs.Tree.{Tree, Trees, no_trees, tree, Pairs, no_pairs, pair, Fields, no_fields, field}

pub mapped_same : {X Y : Type 0} (f g : X → Y) (r : Result (X × List ℕ) Fault) → ((x : X) → f x ≡ g x) → mapped f r ≡ mapped g r
mapped_same f g (Ok x) same = ap (λ y. Ok (y, x.1)) (same x.0)
mapped_same f g (Err fault) same = refl

-- mapping after mapping is mapping by the composition
mapped_step : {A X Y : Type 0} (f : X → Y) (g : A → X) (r : Result (A × List ℕ) Fault) → mapped f (r >>= λ x. Ok (g x.0, x.1)) ≡ mapped (λ a. f (g a)) r
mapped_step f g (Ok x) = refl
mapped_step f g (Err fault) = refl

-- `left` elements of a list are still to be read
pub record ItemsLeft {X : Type 0} (make : Trees → X) (whole : Result (X × List ℕ) Fault) (one : Read Tree) (left : ℕ) (bs : List ℕ) : Type 0 where
  pub rest : mapped make (elements one left bs) ≡ whole

pub items_more : {X : Type 0} (make : Trees → X) (whole : Result (X × List ℕ) Fault) (one : Read Tree) (left : ℕ) (bs : List ℕ) (t : Tree) (r : List ℕ) → ItemsLeft make whole one (suc left) bs → one bs ≡ Ok (t, r) → ItemsLeft (λ ts. make (tree t ts)) whole one left r
items_more make whole one left bs t r now e =
    let front : mapped make (elements one (suc left) bs) ≡ mapped make (elements one left r >>= λ ts. Ok (tree t ts.0, ts.1)) = rw e refl in
    record { rest = sym (mapped_step make (λ ts. tree t ts) (elements one left r)) ∙ (sym front ∙ now.rest) }

pub items_fail : {X : Type 0} (make : Trees → X) (whole : Result (X × List ℕ) Fault) (one : Read Tree) (left : ℕ) (bs : List ℕ) (f : Fault) → ItemsLeft make whole one (suc left) bs → one bs ≡ Err f → whole ≡ Err f
items_fail make whole one left bs f now e = sym now.rest ∙ (rw e refl)

pub items_end : {X : Type 0} (make : Trees → X) (whole : Result (X × List ℕ) Fault) (one : Read Tree) (bs : List ℕ) → ItemsLeft make whole one zero bs → whole ≡ Ok (make no_trees, bs)
items_end make whole one bs now = sym now.rest

pub items_same : {X : Type 0} (f g : Trees → X) (whole : Result (X × List ℕ) Fault) (one : Read Tree) (left : ℕ) (bs : List ℕ) → ((ts : Trees) → f ts ≡ g ts) → ItemsLeft f whole one left bs → ItemsLeft g whole one left bs
items_same f g whole one left bs same now =
    record { rest = sym (mapped_same f g (elements one left bs) same) ∙ now.rest }

-- `left` pairs of a map are still to be read
pub record EntriesLeft {X : Type 0} (make : Pairs → X) (whole : Result (X × List ℕ) Fault) (key value : Read Tree) (left : ℕ) (bs : List ℕ) : Type 0 where
  pub rest : mapped make (entries key value left bs) ≡ whole

pub entries_more : {X : Type 0} (make : Pairs → X) (whole : Result (X × List ℕ) Fault) (key value : Read Tree) (left : ℕ) (bs : List ℕ) (k v : Tree) (r s : List ℕ) → EntriesLeft make whole key value (suc left) bs → key bs ≡ Ok (k, r) → value r ≡ Ok (v, s) → EntriesLeft (λ ps. make (pair k v ps)) whole key value left s
entries_more make whole key value left bs k v r s now e d =
    let front : mapped make (entries key value (suc left) bs) ≡ mapped make (entries key value left s >>= λ ps. Ok (pair k v ps.0, ps.1)) = rw (e, d) refl in
    record { rest = sym (mapped_step make (λ ps. pair k v ps) (entries key value left s)) ∙ (sym front ∙ now.rest) }

pub entries_no_key : {X : Type 0} (make : Pairs → X) (whole : Result (X × List ℕ) Fault) (key value : Read Tree) (left : ℕ) (bs : List ℕ) (f : Fault) → EntriesLeft make whole key value (suc left) bs → key bs ≡ Err f → whole ≡ Err f
entries_no_key make whole key value left bs f now e = sym now.rest ∙ (rw e refl)

pub entries_no_value : {X : Type 0} (make : Pairs → X) (whole : Result (X × List ℕ) Fault) (key value : Read Tree) (left : ℕ) (bs : List ℕ) (k : Tree) (r : List ℕ) (f : Fault) → EntriesLeft make whole key value (suc left) bs → key bs ≡ Ok (k, r) → value r ≡ Err f → whole ≡ Err f
entries_no_value make whole key value left bs k r f now e d = sym now.rest ∙ (rw (e, d) refl)

pub entries_end : {X : Type 0} (make : Pairs → X) (whole : Result (X × List ℕ) Fault) (key value : Read Tree) (bs : List ℕ) → EntriesLeft make whole key value zero bs → whole ≡ Ok (make no_pairs, bs)
entries_end make whole key value bs now = sym now.rest

pub entries_same : {X : Type 0} (f g : Pairs → X) (whole : Result (X × List ℕ) Fault) (key value : Read Tree) (left : ℕ) (bs : List ℕ) → ((ps : Pairs) → f ps ≡ g ps) → EntriesLeft f whole key value left bs → EntriesLeft g whole key value left bs
entries_same f g whole key value left bs same now =
    record { rest = sym (mapped_same f g (entries key value left bs) same) ∙ now.rest }

-- the fields after fields with the ids `ids` are still to be read
pub record FieldsLeft {X : Type 0} (make : Fields → X) (whole : Result (X × List ℕ) Fault) (value : TKind → Read Tree) (ids : List ℤ) (bs : List ℕ) : Type 0 where
  pub turns : ℕ
  pub enough : length bs ≤ turns
  pub rest : mapped make (fields value turns ids bs) ≡ whole

pub fields_begin : {X : Type 0} (make : Fields → X) (value : TKind → Read Tree) (bs : List ℕ) → FieldsLeft make (mapped make (fields value (length bs) [] bs)) value [] bs
fields_begin make value bs = record { turns = length bs; enough = omega arith; rest = refl }

-- if the next head has a fault the fields have it: there is a turn left for it, or no byte is left
fields_turn : (value : TKind → Read Tree) (turns : ℕ) (ids : List ℤ) (bs : List ℕ) → length bs ≤ turns → (f : Fault) → field_head ids bs ≡ Err f → fields value turns ids bs ≡ Err f
fields_turn value zero ids [] enough f e = ap (λ g. Err g) (err_same (End, 0) f e)
fields_turn value zero ids (b ∷ bs) enough f e = absurd (omega arith)
fields_turn value (suc turns) ids bs enough f e = rw e refl

pub fields_no_head : {X : Type 0} (make : Fields → X) (whole : Result (X × List ℕ) Fault) (value : TKind → Read Tree) (ids : List ℤ) (bs : List ℕ) (f : Fault) → FieldsLeft make whole value ids bs → field_head ids bs ≡ Err f → whole ≡ Err f
fields_no_head make whole value ids bs f now e = sym now.rest ∙ (rw (fields_turn value now.turns ids bs now.enough f e) refl)

-- if the next head was read there is a turn left for it, and the rest is read in the other turns
fields_next : (value : TKind → Read Tree) (turns : ℕ) (ids : List ℤ) (bs : List ℕ) → length bs ≤ turns → (h : Option (ℤ × TKind)) (r : List ℕ) → field_head ids bs ≡ Ok (h, r) → (n : ℕ) × (turns ≡ suc n) × (fields value turns ids bs ≡ after_head value (fields value n) ids h r)
fields_next value zero ids [] enough h r e = absurd cc
fields_next value zero ids (b ∷ bs) enough h r e = absurd (omega arith)
fields_next value (suc turns) ids bs enough h r e = (turns, refl, rw e refl)

pub fields_end : {X : Type 0} (make : Fields → X) (whole : Result (X × List ℕ) Fault) (value : TKind → Read Tree) (ids : List ℤ) (bs r : List ℕ) → FieldsLeft make whole value ids bs → field_head ids bs ≡ Ok (None, r) → whole ≡ Ok (make no_fields, r)
fields_end make whole value ids bs r now e =
    let next = fields_next value now.turns ids bs now.enough None r e in
    sym now.rest ∙ ap (mapped make) next.2

pub fields_no_value : {X : Type 0} (make : Fields → X) (whole : Result (X × List ℕ) Fault) (value : TKind → Read Tree) (ids : List ℤ) (bs : List ℕ) (h : ℤ × TKind) (r : List ℕ) (f : Fault) → FieldsLeft make whole value ids bs → field_head ids bs ≡ Ok (Some h, r) → value h.1 r ≡ Err f → whole ≡ Err f
fields_no_value make whole value ids bs h r f now e d =
    let next = fields_next value now.turns ids bs now.enough (Some h) r e in
    sym now.rest ∙ (ap (mapped make) next.2 ∙ (rw d refl))

pub fields_more : {X : Type 0} (make : Fields → X) (whole : Result (X × List ℕ) Fault) (value : TKind → Read Tree) (ids : List ℤ) (bs : List ℕ) (h : ℤ × TKind) (r : List ℕ) (t : Tree) (s : List ℕ) → FieldsLeft make whole value ids bs → field_head ids bs ≡ Ok (Some h, r) → value h.1 r ≡ Ok (t, s) → length s < length bs → FieldsLeft (λ fs. make (field h.0 t fs)) whole value (ids ++ h.0 ∷ []) s
fields_more make whole value ids bs h r t s now e d shorter =
    let next = fields_next value now.turns ids bs now.enough (Some h) r e in
    let n = next.0 in
    let front : mapped make (after_head value (fields value n) ids (Some h) r) ≡ mapped make (fields value n (ids ++ h.0 ∷ []) s >>= λ fs. Ok (field h.0 t fs.0, fs.1)) = rw d refl in
    record {
      turns = n;
      enough = omega (arith, now.enough, next.1);
      rest = sym (mapped_step make (λ fs. field h.0 t fs) (fields value n (ids ++ h.0 ∷ []) s)) ∙ (sym front ∙ (sym (ap (mapped make) next.2) ∙ now.rest));
    }

pub fields_same : {X : Type 0} (f g : Fields → X) (whole : Result (X × List ℕ) Fault) (value : TKind → Read Tree) (ids : List ℤ) (bs : List ℕ) → ((fs : Fields) → f fs ≡ g fs) → FieldsLeft f whole value ids bs → FieldsLeft g whole value ids bs
fields_same f g whole value ids bs same now = record {
  turns = now.turns;
  enough = now.enough;
  rest = sym (mapped_same f g (fields value now.turns ids bs) same) ∙ now.rest;
}
