-- The loops over the items of a list.
use Rattle.std.proofs.Common.{◌≡◌, ◌≢◌, ℕ, zero, suc, ◌+◌, ◌-◌, ◌<◌, ◌≤◌, List, [], ◌∷◌, ◌++◌, length, Result, Ok, refl, sym, ap, ◌∙◌, subst, arith, append_assoc}
use Rattle.thrift_compact.specs.declared.frame.Frame.{Frame}
use Rattle.thrift_compact.specs.declared.kind.TKind.{TKind}
use Rattle.thrift_compact.specs.declared.kind.TKind.TheVariants as kind
use Rattle.thrift_compact.specs.declared.refusal.ThriftRefusal.{ThriftRefusal}
use Rattle.thrift_compact.specs.Answers.{mapped, skipped}
use Rattle.thrift_compact.proofs.Steps.{skipped_ok, skipped_err}
use Rattle.thrift_compact.proofs.PartsLeft.{ItemsLeft, items_more, items_fail, items_end, items_same}
use Rattle.thrift_compact.specs.Reading.{Fault, nest, value, element, elements}
use Rattle.thrift_compact.specs.Standing.{Standing, depth_left, FailsAt, Moves, GivesAt, BeginsList, Closes}
use Rattle.thrift_compact.specs.Tree.{Tree, Trees, no_trees, tree, list}
use Rattle.parquet_fields.specs.declared.field_state.FieldState.{FieldState}
use Rattle.parquet_fields.specs.declared.field_state.FieldState.TheVariants.{Absent, WrongType, Refused, Value}
use Rattle.parquet_fields.specs.Fields.{onto_items, items_of, list_of}
use Rattle.parquet_fields.specs.Reads.{ReadsAs, ReadsItem, bad_items}
use Rattle.parquet_fields.proofs.Loops.{fails_with, mapped_ok, mapped_err}

pub moves_then : (first now last : Standing) → Moves first now → Moves now last → Moves first last
moves_then first now last one other =
    record { size = other.size ∙ one.size; inner = other.inner ∙ one.inner; outer = other.outer ∙ one.outer }

pub stays : (first : Standing) → Moves first first
stays first = record { size = refl; inner = refl; outer = refl }

abbrev pub nothing : Trees → Unit {0}
nothing ts = tt

-- In a list that begins at `first`, `left` items are still to be read; with them `make` gives `whole`.
pub record Among {X : Type 0} (make : Trees → X) (whole : Result (X × List ℕ) Fault) (kind : TKind) (first now : Standing) (left : ℕ) : Type 0 where
  pub items : ItemsLeft make whole (element (value (depth_left first)) kind) left now.rest
  pub moves : Moves first now
  pub shorter : length now.rest ≤ length first.rest

pub items_begun : {X : Type 0} (make : Trees → X) (kind : TKind) (first : Standing) (count : ℕ) → Among make (mapped make (elements (element (value (depth_left first)) kind) count first.rest)) kind first first (count - 0)
items_begun make kind first count =
    let all : count - 0 ≡ count = omega arith in
    record { items = rw all (record { rest = refl }); moves = stays first; shorter = omega arith }

-- The next item is the first of the items left.
next_item : {X : Type 0} (make : Trees → X) (whole : Result (X × List ℕ) Fault) (kind : TKind) (first now : Standing) (count turn : ℕ) → turn < count → Among make whole kind first now (count - turn) → Among make whole kind first now (suc (count - (turn + 1)))
next_item make whole kind first now count turn early among =
    let left : count - turn ≡ suc (count - (turn + 1)) = omega arith in
    subst (λ (n : ℕ). Among make whole kind first now n) left among

pub item_fails : {X : Type 0} (make : Trees → X) (whole : Result (X × List ℕ) Fault) (kind : TKind) (first now : Standing) (count turn : ℕ) (e : ThriftRefusal) → turn < count → Among make whole kind first now (count - turn) → FailsAt now.size e (element (value (depth_left now)) kind now.rest) → FailsAt first.size e whole
item_fails make whole kind first now count turn e early among fails =
    let next = next_item make whole kind first now count turn early among in
    let at_first = subst (λ (outer : List Frame). FailsAt now.size e (element (value (32 - length outer)) kind now.rest)) among.moves.outer fails in
    fails_with now.size first.size e (element (value (depth_left first)) kind now.rest) whole among.moves.size (λ f d. items_fail make whole (element (value (depth_left first)) kind) (count - (turn + 1)) now.rest f next.items d) at_first

pub item_taken : {X : Type 0} (make : Trees → X) (whole : Result (X × List ℕ) Fault) (kind : TKind) (first now last : Standing) (count turn : ℕ) (t : Tree) → turn < count → Among make whole kind first now (count - turn) → element (value (depth_left now)) kind now.rest ≡ Ok (t, last.rest) → Moves now last → length last.rest ≤ length now.rest → Among (λ ts. make (tree t ts)) whole kind first last (count - (turn + 1))
item_taken make whole kind first now last count turn t early among read moves some =
    let next = next_item make whole kind first now count turn early among in
    let at_first = subst (λ (outer : List Frame). element (value (32 - length outer)) kind now.rest ≡ Ok (t, last.rest)) among.moves.outer read in
    record {
      items = items_more make whole (element (value (depth_left first)) kind) (count - (turn + 1)) now.rest t last.rest next.items at_first;
      moves = moves_then first now last among.moves moves;
      shorter = omega (arith, among.shorter);
    }

pub others_same : {X : Type 0} (f g : Trees → X) (whole : Result (X × List ℕ) Fault) (kind : TKind) (first now : Standing) (left : ℕ) → ((ts : Trees) → f ts ≡ g ts) → Among f whole kind first now left → Among g whole kind first now left
others_same f g whole kind first now left same among =
    record { items = items_same f g whole (element (value (depth_left first)) kind) left now.rest same among.items; moves = among.moves; shorter = among.shorter }

pub no_item : {X : Type 0} (make : Trees → X) (whole : Result (X × List ℕ) Fault) (kind : TKind) (first now : Standing) (count turn : ℕ) → count ≤ turn → Among make whole kind first now (count - turn) → (whole ≡ Ok (make no_trees, now.rest)) × Moves first now
no_item make whole kind first now count turn late among =
    let left : count - turn ≡ zero = omega arith in
    let at_end = subst (λ (n : ℕ). ItemsLeft make whole (element (value (depth_left first)) kind) n now.rest) left among.items in
    (items_end make whole (element (value (depth_left first)) kind) now.rest at_end, among.moves)

-- An item is skipped.
pub item_passed : (whole : Result (Unit {0} × List ℕ) Fault) (kind : TKind) (first now last : Standing) (count turn : ℕ) → turn < count → Among nothing whole kind first now (count - turn) → GivesAt (λ (u : Unit {0}). u) now last (Ok tt) (skipped (element (value (depth_left now)) kind now.rest)) → length last.rest ≤ length now.rest → Among nothing whole kind first last (count - (turn + 1))
item_passed whole kind first now last count turn early among given some =
    let x = skipped_ok (element (value (depth_left now)) kind now.rest) last.rest given.0 in
    item_taken nothing whole kind first now last count turn x.0 early among x.1 given.1 some

pub item_not_passed : (whole : Result (Unit {0} × List ℕ) Fault) (kind : TKind) (first now : Standing) (count turn : ℕ) (e : ThriftRefusal) → turn < count → Among nothing whole kind first now (count - turn) → FailsAt now.size e (skipped (element (value (depth_left now)) kind now.rest)) → FailsAt first.size e whole
item_not_passed whole kind first now count turn e early among fails =
    let at = fails_with now.size now.size e (skipped (element (value (depth_left now)) kind now.rest)) (element (value (depth_left now)) kind now.rest) refl (λ f d. skipped_err (element (value (depth_left now)) kind now.rest) f d) fails in
    item_fails nothing whole kind first now count turn e early among at

-- A list of items put in front of the state of another list.
abbrev pub before_items : {X : Type 0} → List X → FieldState (List X) → FieldState (List X)
before_items xs (Value ys) = Value (xs ++ ys)
before_items xs others = others

none_before : {X : Type 0} (others : FieldState (List X)) → before_items [] others ≡ others
none_before (Value ys) = refl
none_before Absent = refl
none_before WrongType = refl
none_before (Refused r) = refl

one_before : {X : Type 0} (xs : List X) (x : X) (others : FieldState (List X)) → before_items xs (onto_items (Value x) others) ≡ before_items (xs ++ x ∷ []) others
one_before xs x (Value ys) = ap (λ zs. Value zs) (sym (append_assoc xs (x ∷ []) ys))
one_before xs x Absent = refl
one_before xs x WrongType = refl
one_before xs x (Refused r) = refl

abbrev pub made_with : {X : Type 0} → (Tree → FieldState X) → List X → Trees → FieldState (List X)
made_with item xs ts = before_items xs (items_of item ts)

pub list_begun : {X : Type 0} (item : Tree → FieldState X) (kind : TKind) (first : Standing) (count : ℕ) (xs : List X) → xs ≡ [] → Among (made_with item xs) (mapped (items_of item) (elements (element (value (depth_left first)) kind) count first.rest)) kind first first (count - 0)
list_begun item kind first count xs empty =
    let begun = items_begun (items_of item) kind first count in
    rw empty (others_same (items_of item) (made_with item []) (mapped (items_of item) (elements (element (value (depth_left first)) kind) count first.rest)) kind first first (count - 0) (λ ts. sym (none_before (items_of item ts))) begun)

pub item_added : {X : Type 0} (item : Tree → FieldState X) (whole : Result (FieldState (List X) × List ℕ) Fault) (kind : TKind) (first now last : Standing) (count turn : ℕ) (xs added : List X) (state : FieldState X) (x : X) → turn < count → Among (made_with item xs) whole kind first now (count - turn) → state ≡ Value x → ReadsItem item kind now last (Ok state) → length last.rest ≤ length now.rest → added ≡ xs ++ x ∷ [] → Among (made_with item added) whole kind first last (count - (turn + 1))
item_added item whole kind first now last count turn xs added state x early among is reads some joined =
    let taken = item_taken (made_with item xs) whole kind first now last count turn reads.0 early among reads.1 reads.3 some in
    let given : item reads.0 ≡ Value x = sym reads.2 ∙ is in
    rw joined (others_same (λ ts. made_with item xs (tree reads.0 ts)) (made_with item (xs ++ x ∷ [])) whole kind first last (count - (turn + 1)) (λ ts. ap (λ m. before_items xs (onto_items m (items_of item ts))) given ∙ one_before xs x (items_of item ts)) taken)

-- The first bad item decides.
bad_before : {X : Type 0} (xs : List X) (bad : FieldState X) (others : FieldState (List X)) → ((x : X) → bad ≢ Value x) → before_items xs (onto_items bad others) ≡ bad_items bad
bad_before xs (Value x) others other = absurd (other x refl)
bad_before xs (Refused r) others other = refl
bad_before xs Absent others other = refl
bad_before xs WrongType others other = refl

pub item_bad : {X : Type 0} (item : Tree → FieldState X) (whole : Result (FieldState (List X) × List ℕ) Fault) (kind : TKind) (first now last : Standing) (count turn : ℕ) (xs : List X) (bad : FieldState X) → turn < count → Among (made_with item xs) whole kind first now (count - turn) → ((x : X) → bad ≢ Value x) → ReadsItem item kind now last (Ok bad) → length last.rest ≤ length now.rest → Among (λ ts. bad_items bad) whole kind first last (count - (turn + 1))
item_bad item whole kind first now last count turn xs bad early among other reads some =
    let taken = item_taken (made_with item xs) whole kind first now last count turn reads.0 early among reads.1 reads.3 some in
    others_same (λ ts. made_with item xs (tree reads.0 ts)) (λ ts. bad_items bad) whole kind first last (count - (turn + 1)) (λ ts. ap (λ m. before_items xs (onto_items m (items_of item ts))) (sym reads.2) ∙ bad_before xs bad (items_of item ts) other) taken

-- The items after the bad one are skipped.
others_passed : {X : Type 0} (x : X) (kind : TKind) (first now last : Standing) (whole : Result (X × List ℕ) Fault) (left : ℕ) → Among (λ ts. x) whole kind first now left → GivesAt (λ (u : Unit {0}). u) now last (Ok tt) (skipped (elements (element (value (depth_left now)) kind) left now.rest)) → (whole ≡ Ok (x, last.rest)) × Moves first last
others_passed x kind first now last whole left among given =
    let at_first = subst (λ (outer : List Frame). skipped (elements (element (value (32 - length outer)) kind) left now.rest) ≡ Ok (tt, last.rest)) among.moves.outer given.0 in
    let ts = skipped_ok (elements (element (value (depth_left first)) kind) left now.rest) last.rest at_first in
    let made : mapped (λ ts. x) (elements (element (value (depth_left first)) kind) left now.rest) ≡ Ok (x, last.rest) = rw ts.1 refl in
    (sym among.items.rest ∙ made, moves_then first now last among.moves given.1)

others_not_passed : {X : Type 0} (x : X) (kind : TKind) (first now : Standing) (whole : Result (X × List ℕ) Fault) (left : ℕ) (e : ThriftRefusal) → Among (λ ts. x) whole kind first now left → FailsAt now.size e (skipped (elements (element (value (depth_left now)) kind) left now.rest)) → FailsAt first.size e whole
others_not_passed x kind first now whole left e among fails =
    let at_first = subst (λ (outer : List Frame). FailsAt now.size e (skipped (elements (element (value (32 - length outer)) kind) left now.rest))) among.moves.outer fails in
    fails_with now.size first.size e (skipped (elements (element (value (depth_left first)) kind) left now.rest)) whole among.moves.size (λ f d. sym among.items.rest ∙ (rw (skipped_err (elements (element (value (depth_left first)) kind) left now.rest) f d) refl)) at_first

pub bad_list : {X : Type 0} (item : Tree → FieldState X) (whole : Result (FieldState (List X) × List ℕ) Fault) (kind : TKind) (first now mid last : Standing) (count turn : ℕ) (xs : List X) (bad : FieldState X) → turn < count → Among (made_with item xs) whole kind first now (count - turn) → ((x : X) → bad ≢ Value x) → ReadsItem item kind now mid (Ok bad) → length mid.rest ≤ length now.rest → GivesAt (λ (u : Unit {0}). u) mid last (Ok tt) (skipped (elements (element (value (depth_left mid)) kind) (count - turn - 1) mid.rest)) → (whole ≡ Ok (bad_items bad, last.rest)) × Moves first last
bad_list item whole kind first now mid last count turn xs bad early among other reads some given =
    let left : count - turn - 1 ≡ count - (turn + 1) = omega arith in
    let those = subst (λ (n : ℕ). GivesAt (λ (u : Unit {0}). u) mid last (Ok tt) (skipped (elements (element (value (depth_left mid)) kind) n mid.rest))) left given in
    others_passed (bad_items bad) kind first mid last whole (count - (turn + 1)) (item_bad item whole kind first now mid count turn xs bad early among other reads some) those

pub bad_list_fails : {X : Type 0} (item : Tree → FieldState X) (whole : Result (FieldState (List X) × List ℕ) Fault) (kind : TKind) (first now mid : Standing) (count turn : ℕ) (xs : List X) (bad : FieldState X) (e : ThriftRefusal) → turn < count → Among (made_with item xs) whole kind first now (count - turn) → ((x : X) → bad ≢ Value x) → ReadsItem item kind now mid (Ok bad) → length mid.rest ≤ length now.rest → FailsAt mid.size e (skipped (elements (element (value (depth_left mid)) kind) (count - turn - 1) mid.rest)) → FailsAt first.size e whole
bad_list_fails item whole kind first now mid count turn xs bad e early among other reads some fails =
    let left : count - turn - 1 ≡ count - (turn + 1) = omega arith in
    let those = subst (λ (n : ℕ). FailsAt mid.size e (skipped (elements (element (value (depth_left mid)) kind) n mid.rest))) left fails in
    others_not_passed (bad_items bad) kind first mid whole (count - (turn + 1)) e (item_bad item whole kind first now mid count turn xs bad early among other reads some) those

-- The list begins at `first`.
head_read : {X : Type 0} (item : Tree → FieldState X) (first now : Standing) (head : TKind × ℕ) → BeginsList first now (Ok head) → (nest (depth_left first)).trees first.rest ≡ elements (element (value (depth_left now)) head.0) head.1 now.rest
head_read item first now head begins =
    let opens = begins.1 in
    let more : length now.outer ≡ suc (length first.outer) = ap length opens.outer in
    let deep : depth_left first ≡ suc (depth_left now) = omega (arith, opens.depth_left, more) in
    ap (λ n. (nest n).trees first.rest) deep ∙ (rw begins.0 refl)

pub list_value : {X : Type 0} (item : Tree → FieldState X) (first now mid last : Standing) (head : TKind × ℕ) (state : FieldState (List X)) → BeginsList first now (Ok head) → GivesAt (λ (m : FieldState (List X)). m) now mid (Ok state) (mapped (items_of item) (elements (element (value (depth_left now)) head.0) head.1 now.rest)) → last.rest ≡ mid.rest → Closes mid last → ReadsAs (list_of item) first last (Ok state) (value (depth_left first) kind.List first.rest)
list_value item first now mid last head state begins given same closes =
    let x = mapped_ok (items_of item) (elements (element (value (depth_left now)) head.0) head.1 now.rest) state mid.rest given.0 in
    let trees : (nest (depth_left first)).trees first.rest ≡ Ok (x.0, last.rest) = head_read item first now head begins ∙ (x.1 ∙ ap (λ r. Ok (x.0, r)) (sym same)) in
    let opens = begins.1 in
    let around : first.inner ∷ first.outer ≡ last.inner ∷ last.outer = sym opens.outer ∙ (sym given.1.outer ∙ closes.outer) in
    let inner : last.inner ≡ first.inner = cc in
    let outer : last.outer ≡ first.outer = cc in
    (list x.0, rw trees refl, x.2, record { size = closes.size ∙ (given.1.size ∙ opens.size); inner = inner; outer = outer })

pub list_fails : {X : Type 0} (item : Tree → FieldState X) (first now : Standing) (head : TKind × ℕ) (e : ThriftRefusal) → BeginsList first now (Ok head) → FailsAt now.size e (mapped (items_of item) (elements (element (value (depth_left now)) head.0) head.1 now.rest)) → FailsAt first.size e (value (depth_left first) kind.List first.rest)
list_fails item first now head e begins fails =
    let opens = begins.1 in
    fails_with now.size first.size e (mapped (items_of item) (elements (element (value (depth_left now)) head.0) head.1 now.rest)) (value (depth_left first) kind.List first.rest) opens.size (λ f d. rw (head_read item first now head begins ∙ mapped_err (items_of item) (elements (element (value (depth_left now)) head.0) head.1 now.rest) f d) refl) fails
