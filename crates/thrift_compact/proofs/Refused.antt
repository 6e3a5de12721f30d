-- Bytes that have a fault are refused with that fault.
use Rattle.std.proofs.Common.{◌≡◌, inl, inr, ℕ, zero, suc, ◌+◌, ◌*◌, ◌/◌, ◌%◌, ◌<◌, ◌≤◌, ℤ, true, false, nat_lt, ◌==◌, List, [], ◌∷◌, ◌++◌, length, refl, sym, ap, ◌∙◌, arith, append_assoc, length-append, Option, Some, None, Result, Ok, Err}
use Rattle.pme_base.specs.Steps.{◌>>=◌}
use Rattle.pme_base.specs.declared.refusal.ThriftFault.TheVariants.{End, WrongType, Varint, Repeated}
use Rattle.thrift_compact.specs.declared.kind.TKind.{TKind}
use Rattle.thrift_compact.specs.declared.kind.TKind.TheVariants as kind
use Rattle.thrift_compact.specs.Kinds.{code, of_code}
use Rattle.thrift_compact.specs.Tree.{Tree, Trees, no_trees, tree, Pairs, no_pairs, pair, Fields, no_fields, field, count, pair_count}
use Rattle.thrift_compact.specs.Reading.{Fault, byte_at, bytes_at, varint_within, varint_at, number_at, size_at, binary_at, truth_at, known_kind, list_head, map_kinds, is_among, last, field_head, element, elements, entries, trees_at, pairs_from, pairs_at, fields, too_deep, nest, value}
use Rattle.thrift_compact.specs.Grammar.{NamesField, Within, Spells, AllSpell, PairsSpell}
use Rattle.thrift_compact.specs.Faults.{NoByte, TooFew, GoOn, VarintFault, NumberFault, SizeFault, BinaryFault, TruthFault, IsNoKind, ElementFault, ListHeadFault, no_list_head, no_element_kind, list_size_fault, ListFault, MapKindsFault, PairFault, MapBodyFault, MapFault, FieldHeadFault, no_field_head, no_field_kind, id_fault, id_too_far, id_again, FieldsFault, DepthFault, Faults}
use Rattle.thrift_compact.proofs.Steps.{below, not_below, other, one_refusal}
use Rattle.thrift_compact.proofs.Numbers.{at_front, number_again, size_again}
use Rattle.thrift_compact.proofs.HeadsAgain.{code_range, low_kind, own_kind, high_half, list_head_again, map_kinds_again, field_head_again, head_long}
use Rattle.thrift_compact.proofs.Again.{element_again, value_again}

byte_fails : (bs : List ℕ) (f : Fault) → NoByte bs f → byte_at bs ≡ Err f
byte_fails bs f h = rw (h.1, h.0) refl

varint_short : (bs : List ℕ) (start more : ℕ) → GoOn bs → length bs < suc more → varint_within start more bs ≡ Err (End, 0)
unfolding varint_within
varint_short [] start more on few = refl
varint_short (b ∷ bs) start zero on few = absurd (omega arith)
varint_short (b ∷ bs) start (suc more) on few =
    let t : nat_lt b 128 ≡ false = not_below b 128 on.0 in
    rw (t, varint_short bs start more on.1 (omega arith)) refl

varint_long : (firsts : List ℕ) (start more last : ℕ) (rest : List ℕ) → GoOn firsts → length firsts ≡ more → 2 ≤ last
    → varint_within start more (firsts ++ last ∷ rest) ≡ Err (Varint, start)
unfolding varint_within
varint_long [] start zero last rest on count large = let t : nat_lt last 2 ≡ false = not_below last 2 large in rw t refl
varint_long [] start (suc more) last rest on count large = absurd (omega arith)
varint_long (b ∷ firsts) start zero last rest on count large = absurd (omega arith)
varint_long (b ∷ firsts) start (suc more) last rest on count large =
    let t : nat_lt b 128 ≡ false = not_below b 128 on.0 in
    rw (t, varint_long firsts start more last rest on.1 (omega arith) large) refl

varint_fails : (bs : List ℕ) (f : Fault) → VarintFault bs f → varint_at bs ≡ Err f
varint_fails bs f (inl (on, few, is)) = rw is (varint_short bs (length bs) 9 on (omega arith))
varint_fails bs f (inr (nine, rest, tenth, on, count, large, parts, is)) =
    rw (is, parts) (varint_long nine (length (nine ++ tenth ∷ rest)) 9 tenth rest on count large)

number_fails : (limit : ℕ) (bs : List ℕ) (f : Fault) → NumberFault limit bs f → number_at limit bs ≡ Err f
number_fails limit bs f (inl v) = rw (varint_fails bs f v) refl
number_fails limit bs f (inr (n, front, rest, whole, large, parts, is)) =
    let t : nat_lt n limit ≡ false = not_below n limit large in
    rw (is, parts, at_front 18446744073709551616 n front rest (omega arith) whole, t) refl

size_fails : (bs : List ℕ) (f : Fault) → SizeFault bs f → size_at bs ≡ Err f
size_fails bs f (inl v) = rw (varint_fails bs f v) refl
size_fails bs f (inr (n, front, rest, whole, large, parts, is)) =
    let t : nat_lt n 2147483648 ≡ false = not_below n 2147483648 large in
    rw (is, parts, at_front 18446744073709551616 n front rest (omega arith) whole, t) refl

bytes_fails : (n : ℕ) (bs : List ℕ) (f : Fault) → TooFew n bs f → bytes_at n bs ≡ Err f
bytes_fails n bs f (few, is) = let t : nat_lt (length bs) n ≡ true = below (length bs) n few in rw (is, t) refl

binary_fails : (bs : List ℕ) (f : Fault) → BinaryFault bs f → binary_at bs ≡ Err f
binary_fails bs f (inl v) = rw (size_fails bs f v) refl
binary_fails bs f (inr (n, (front, rest, sized, parts, few))) = rw (parts, size_again n front rest sized, bytes_fails n rest f few) refl

truth_fails : (bs : List ℕ) (f : Fault) → TruthFault bs f → truth_at bs ≡ Err f
truth_fails bs f (inl h) = rw (byte_fails bs f h) refl
truth_fails bs f (inr (b, rest, large, parts, is)) = let t : nat_lt b 3 ≡ false = not_below b 3 (omega arith) in rw (is, parts, t) refl

no_code : (n : ℕ) → IsNoKind n → of_code n ≡ None
no_code n (inl e) = rw e refl
no_code n (inr large) =
    rw (
      other n 1 (λ e. omega arith),
      other n 2 (λ e. omega arith),
      other n 3 (λ e. omega arith),
      other n 4 (λ e. omega arith),
      other n 5 (λ e. omega arith),
      other n 6 (λ e. omega arith),
      other n 7 (λ e. omega arith),
      other n 8 (λ e. omega arith),
      other n 9 (λ e. omega arith),
      other n 10 (λ e. omega arith),
      other n 11 (λ e. omega arith),
      other n 12 (λ e. omega arith),
    ) refl

list_head_fails : (bs : List ℕ) (f : Fault) → ListHeadFault bs f → list_head bs ≡ Err f
list_head_fails bs f (no_list_head h) = rw (byte_fails bs f h) refl
list_head_fails bs f (no_element_kind (b, rest, none, parts, is)) = rw (is, parts, no_code (b % 16) none) refl
list_head_fails bs f (list_size_fault k (front, rest, head, parts, fault)) =
    rw (parts, head, low_kind 15 k, high_half 15 k, size_fails rest f fault) refl

-- if the second type code has no kind the fault is the same whether the first has one or not
second_unknown : {T : Type 0} (left : ℕ) (o : Option TKind) (next : TKind → TKind → Result T Fault)
    → (known_kind left o >>= λ key. known_kind left None >>= λ value. next key value) ≡ Err (WrongType, left)
second_unknown left (Some k) next = refl
second_unknown left None next = refl

map_kinds_fails : (bs : List ℕ) (f : Fault) → MapKindsFault bs f → map_kinds bs ≡ Err f
map_kinds_fails bs f (inl h) = rw (byte_fails bs f h) refl
map_kinds_fails bs f (inr (b, rest, inl none, parts, is)) = rw (is, parts, no_code (b / 16) none) refl
map_kinds_fails bs f (inr (b, rest, inr none, parts, is)) =
    rw (is, parts, no_code (b % 16) none) (second_unknown (suc (length rest)) (of_code (b / 16)) (λ key value. Ok ((key, value), rest)))

again_fails : (ids : List ℤ) (id : ℤ) (k : TKind) (front rest : List ℕ) → NamesField (last ids) id k front → is_among id ids ≡ true
    → field_head ids (front ++ rest) ≡ Err (Repeated, length (front ++ rest))
again_fails ids id k front rest (inl s) among =
    let more : (16 * s.0 + code k == 0) ≡ false = other (16 * s.0 + code k) 0 (λ e. omega (arith, code_range k)) in
    let near : (s.0 == 0) ≡ false = other s.0 0 (λ e. omega (arith, s.1)) in
    rw (s.5, more, low_kind s.0 k, high_half s.0 k, near, ← s.3, s.4, among) refl
again_fails ids id k front rest (inr s) among =
    let more : (code k == 0) ≡ false = other (code k) 0 (λ e. omega (arith, code_range k)) in
    let far : code k / 16 ≡ 0 = omega (arith, code_range k) in
    rw (s.2, more, own_kind k, far, number_again 65536 id s.0 rest (omega arith) s.1, among) refl

field_head_fails : (ids : List ℤ) (bs : List ℕ) (f : Fault) → FieldHeadFault ids bs f → field_head ids bs ≡ Err f
field_head_fails ids bs f (no_field_head h) = rw (byte_fails bs f h) refl
field_head_fails ids bs f (no_field_kind (b, rest, (least, none), parts, is)) =
    let more : (b == 0) ≡ false = other b 0 (λ e. omega arith) in
    rw (is, parts, more, no_code (b % 16) none) refl
field_head_fails ids bs f (id_fault k (front, rest, head, parts, fault)) =
    let more : (code k == 0) ≡ false = other (code k) 0 (λ e. omega (arith, code_range k)) in
    let far : code k / 16 ≡ 0 = omega (arith, code_range k) in
    rw (parts, head, more, own_kind k, far, number_fails 65536 rest f fault) refl
field_head_fails ids bs f (id_too_far (b, rest, (delta, k, least, b_is, far), parts, is)) =
    let more : (16 * delta + code k == 0) ≡ false = other (16 * delta + code k) 0 (λ e. omega (arith, code_range k)) in
    let near : (delta == 0) ≡ false = other delta 0 (λ e. omega arith) in
    rw (is, parts, b_is, more, low_kind delta k, high_half delta k, near, far) refl
field_head_fails ids bs f (id_again id k front rest names among parts is) = rw (is, parts) (again_fails ids id k front rest names among)

-- each fault of a value with `depth` levels is reported
abbrev pub Refuses : ℕ → Type 0
Refuses depth = (k : TKind) (bs : List ℕ) (f : Fault) → Faults depth k bs f → value depth k bs ≡ Err f

element_fails : (depth : ℕ) → Refuses depth → (k : TKind) (bs : List ℕ) (f : Fault) → ElementFault (Faults depth) k bs f → element (value depth) k bs ≡ Err f
element_fails depth refuses kind.True bs f fault = rw (truth_fails bs f fault) refl
element_fails depth refuses kind.False bs f fault = rw (truth_fails bs f fault) refl
element_fails depth refuses k bs f fault = refuses k bs f fault

-- bytes that spell an element are read as that element, whatever bytes follow
element_read : (depth : ℕ) (k : TKind) (t : Tree) (a r : List ℕ) → Within k t a (Spells depth k t a) → element (value depth) k (a ++ r) ≡ Ok (t, r)
element_read depth k t a r is = element_again depth k t a r (Spells depth k t a) is (value_again t depth k a r)

items_fail : (ts : Trees) (n depth : ℕ) → Refuses depth → (k : TKind) (front rest : List ℕ) (f : Fault) → count ts < n → AllSpell depth k ts front
    → ElementFault (Faults depth) k rest f → elements (element (value depth) k) n (front ++ rest) ≡ Err f
items_fail ts zero depth refuses k front rest f few all fault = absurd (omega arith)
items_fail no_trees (suc n) depth refuses k front rest f few all fault = rw (all, element_fails depth refuses k rest f fault) refl
items_fail (tree t ts) (suc n) depth refuses k front rest f few (first, others, one, all, parts) fault =
    rw (parts, append_assoc first others rest, element_read depth k t first (others ++ rest) one, items_fail ts n depth refuses k others rest f (omega arith) all fault) refl

list_fails : (depth : ℕ) → Refuses depth → (bs : List ℕ) (f : Fault) → ListFault depth (Faults depth) bs f → trees_at (value depth) bs ≡ Err f
list_fails depth refuses bs f (inl head) = rw (list_head_fails bs f head) refl
list_fails depth refuses bs f (inr (k, n, (head, body, headed, parts, (ts, few, (front, rest, all, more, fault))))) =
    rw (parts, list_head_again k n head body headed, more) (items_fail ts n depth refuses k front rest f few all fault)

pairs_fail : (ps : Pairs) (n depth : ℕ) → Refuses depth → (key_kind value_kind : TKind) (front rest : List ℕ) (f : Fault) → pair_count ps < n
    → PairsSpell depth key_kind value_kind ps front → PairFault depth (Faults depth) key_kind value_kind rest f
    → entries (element (value depth) key_kind) (element (value depth) value_kind) n (front ++ rest) ≡ Err f
pairs_fail ps zero depth refuses key_kind value_kind front rest f few all fault = absurd (omega arith)
pairs_fail no_pairs (suc n) depth refuses key_kind value_kind front rest f few all (inl fault) = rw (all, element_fails depth refuses key_kind rest f fault) refl
pairs_fail no_pairs (suc n) depth refuses key_kind value_kind front rest f few all (inr (key, (first, second, one, parts, fault))) =
    rw (all, parts, element_read depth key_kind key first second one, element_fails depth refuses value_kind second f fault) refl
pairs_fail (pair key one ps) (suc n) depth refuses key_kind value_kind front rest f few (first, second, others, key_is, value_is, all, parts) fault =
    rw (
      parts,
      append_assoc first (second ++ others) rest,
      append_assoc second others rest,
      element_read depth key_kind key first (second ++ (others ++ rest)) key_is,
      element_read depth value_kind one second (others ++ rest) value_is,
      pairs_fail ps n depth refuses key_kind value_kind others rest f (omega arith) all fault,
    ) refl

map_body_fails : (n depth : ℕ) → Refuses depth → (bs : List ℕ) (f : Fault) → 0 < n → MapBodyFault depth (Faults depth) n bs f → pairs_from (value depth) n bs ≡ Err f
map_body_fails zero depth refuses bs f some fault = absurd (omega arith)
map_body_fails (suc n) depth refuses bs f some (inl kinds) = rw (map_kinds_fails bs f kinds) refl
map_body_fails (suc n) depth refuses bs f some (inr (key, one, (head, body, head_is, parts, (ps, few, (front, rest, all, more, fault))))) =
    rw (parts, head_is, map_kinds_again key one body, more) (pairs_fail ps (suc n) depth refuses key one front rest f few all fault)

map_fails : (depth : ℕ) → Refuses depth → (bs : List ℕ) (f : Fault) → MapFault depth (Faults depth) bs f → pairs_at (value depth) bs ≡ Err f
map_fails depth refuses bs f (inl size) = rw (size_fails bs f size) refl
map_fails depth refuses bs f (inr (n, some, (front, rest, sized, parts, fault))) =
    rw (parts, size_again n front rest sized) (map_body_fails n depth refuses rest f some fault)

fields_fail : (fs : Fields) (n depth : ℕ) → Refuses depth → (ids : List ℤ) (bs : List ℕ) (f : Fault) → length bs ≤ n → FieldsFault depth (Faults depth) ids fs bs f
    → fields (value depth) n ids bs ≡ Err f
fields_fail no_fields zero depth refuses ids [] f enough (inl head) = ap Err (one_refusal (field_head ids []) f (End, 0) (field_head_fails ids [] f head) refl)
fields_fail no_fields zero depth refuses ids (b ∷ bs) f enough (inl head) = absurd (omega arith)
fields_fail no_fields zero depth refuses ids bs f enough (inr (id, k, (front, rest, head, parts, fault))) =
    absurd (omega (arith, ap length parts, length-append front rest, head_long ids id k front head))
fields_fail no_fields (suc n) depth refuses ids bs f enough (inl head) = rw (field_head_fails ids bs f head) refl
fields_fail no_fields (suc n) depth refuses ids bs f enough (inr (id, k, (front, rest, head, parts, fault))) =
    rw (parts, field_head_again ids id k front rest head, refuses k rest f fault) refl
fields_fail (field id t fs) zero depth refuses ids bs f enough (k, (front, rest, head, parts, later)) =
    absurd (omega (arith, ap length parts, length-append front rest, head_long ids id k front head))
fields_fail (field id t fs) (suc n) depth refuses ids bs f enough (k, (front, rest, head, parts, (body, others, one, more, fault))) =
    let shorter : length others ≤ n = omega (arith, ap length parts, ap length more, length-append front rest, length-append body others, head_long ids id k front head) in
    rw (parts, field_head_again ids id k front rest head, more, value_again t depth k body others one, fields_fail fs n depth refuses (ids ++ id ∷ []) others f shorter fault) refl

deep_fails : {A : Type 0} (bs : List ℕ) (f : Fault) (r : Result (A × List ℕ) Fault) → too_deep bs ≡ r → DepthFault bs f → r ≡ Err f
deep_fails bs f r is (inl h) = sym is ∙ rw (h.0, h.1) refl
deep_fails bs f r is (inr (b, rest, any, parts, fault)) = sym is ∙ rw (fault, parts) refl

refuses_zero : Refuses zero
refuses_zero kind.True bs f fault = absurd fault
refuses_zero kind.False bs f fault = absurd fault
refuses_zero kind.I8 bs f fault = rw (byte_fails bs f fault) refl
refuses_zero kind.I16 bs f fault = rw (number_fails 65536 bs f fault) refl
refuses_zero kind.I32 bs f fault = rw (number_fails 4294967296 bs f fault) refl
refuses_zero kind.I64 bs f fault = rw (number_fails 18446744073709551616 bs f fault) refl
refuses_zero kind.Double bs f fault = rw (bytes_fails 8 bs f fault) refl
refuses_zero kind.Binary bs f fault = rw (binary_fails bs f fault) refl
refuses_zero kind.List bs f fault = rw (deep_fails bs f ((nest zero).trees bs) refl fault) refl
refuses_zero kind.Set bs f fault = rw (deep_fails bs f ((nest zero).trees bs) refl fault) refl
refuses_zero kind.Map bs f fault = rw (deep_fails bs f ((nest zero).pairs bs) refl fault) refl
refuses_zero kind.Struct bs f fault = rw (deep_fails bs f ((nest zero).fields bs) refl fault) refl

refuses_more : (depth : ℕ) → Refuses depth → Refuses (suc depth)
refuses_more depth refuses kind.True bs f fault = absurd fault
refuses_more depth refuses kind.False bs f fault = absurd fault
refuses_more depth refuses kind.I8 bs f fault = rw (byte_fails bs f fault) refl
refuses_more depth refuses kind.I16 bs f fault = rw (number_fails 65536 bs f fault) refl
refuses_more depth refuses kind.I32 bs f fault = rw (number_fails 4294967296 bs f fault) refl
refuses_more depth refuses kind.I64 bs f fault = rw (number_fails 18446744073709551616 bs f fault) refl
refuses_more depth refuses kind.Double bs f fault = rw (bytes_fails 8 bs f fault) refl
refuses_more depth refuses kind.Binary bs f fault = rw (binary_fails bs f fault) refl
refuses_more depth refuses kind.List bs f fault = rw (list_fails depth refuses bs f fault) refl
refuses_more depth refuses kind.Set bs f fault = rw (list_fails depth refuses bs f fault) refl
refuses_more depth refuses kind.Map bs f fault = rw (map_fails depth refuses bs f fault) refl
refuses_more depth refuses kind.Struct bs f (fs, fault) = rw (fields_fail fs (length bs) depth refuses [] bs f (omega arith) fault) refl

pub refuses : (depth : ℕ) → Refuses depth
refuses zero = refuses_zero
refuses (suc depth) = refuses_more depth (refuses depth)
