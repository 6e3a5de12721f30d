-- If reading a value fails, the bytes have the reported fault.
use Rattle.std.proofs.Common.{◌≡◌, inl, inr, ℕ, zero, suc, ◌<◌, ◌≤◌, ℤ, List, [], ◌∷◌, ◌++◌, length, refl, sym, ap, ◌∙◌, arith, length-append, append_assoc, Option, Some, None, Result, Ok, Err}
use Rattle.pme_base.specs.Steps.{◌>>=◌}
use Rattle.pme_base.specs.declared.refusal.ThriftFault.TheVariants.{End, Depth}
use Rattle.thrift_compact.specs.declared.kind.TKind.{TKind}
use Rattle.thrift_compact.specs.declared.kind.TKind.TheVariants as kind
use Rattle.thrift_compact.specs.Tree.{Tree, truth, int8, int16, int32, int64, double, binary, list, set, map, struct, no_trees, tree, no_pairs, pair, Fields, no_fields, field}
use Rattle.thrift_compact.specs.Reading.{Fault, Read, bytes_at, int8_at, int16_at, int32_at, int64_at, binary_at, truth_at, list_head, size_at, map_kinds, field_head, element, elements, entries, trees_at, pairs_from, pairs_at, after_head, fields, fields_at, too_deep, as_tree, nest, value}
use Rattle.thrift_compact.specs.Grammar.{IsSize, IsListHead, IsFieldHead, Spells, AllSpell, PairsSpell}
use Rattle.thrift_compact.specs.Faults.{IsElement, Later, ElementFault, ItemsFault, ListFault, PairFault, PairsFault, MapBodyFault, MapFault, FieldsFault, DepthFault, TruthFault, no_field_head, Faults}
use Rattle.thrift_compact.specs.Spelled.{AreBytes}
use Rattle.pme_base.proofs.Chain.{bind_refused}
use Rattle.thrift_compact.proofs.Steps.{one_refusal}
use Rattle.thrift_compact.proofs.Took.{Took}
use Rattle.thrift_compact.proofs.TookNumbers.{size_took}
use Rattle.thrift_compact.proofs.HeadsAgain.{head_long}
use Rattle.thrift_compact.proofs.TookHeads.{list_head_took, KindsOfMap, map_kinds_took, IsHead, field_head_took}
use Rattle.thrift_compact.proofs.Sound.{sound, element_took}
use Rattle.thrift_compact.proofs.FaultNumbers.{after_part, number_err, size_err, bytes_err, int8_err, binary_err, truth_err}
use Rattle.thrift_compact.proofs.FaultHeads.{list_head_err, map_kinds_err, field_head_err}

-- if reading a value with `depth` levels fails, the bytes have the reported fault
abbrev pub RefusedIsFaultyWithin : ℕ → Type 0
RefusedIsFaultyWithin depth = (k : TKind) (bs : List ℕ) (f : Fault) → AreBytes bs → value depth k bs ≡ Err f → Faults depth k bs f

truth_element : (bs : List ℕ) (f : Fault) → as_tree truth truth_at bs ≡ Err f → TruthFault bs f
truth_element bs f e = bind_refused _ (truth_at bs) (λ b. Ok (truth b.0, b.1)) f e (λ refused. truth_err bs f refused) (λ b read wrong. cc)

element_err : (depth : ℕ) → RefusedIsFaultyWithin depth → (k : TKind) (bs : List ℕ) (f : Fault) → AreBytes bs → element (value depth) k bs ≡ Err f → ElementFault (Faults depth) k bs f
element_err depth refused_is_faulty kind.True bs f each e = truth_element bs f e
element_err depth refused_is_faulty kind.False bs f each e = truth_element bs f e
element_err depth refused_is_faulty k bs f each e = refused_is_faulty k bs f each e

-- a fault after a part Q is a fault after R, if P and Q together are R and P comes first
one_more : (P Q R : List ℕ → Type 0) (Faulty : List ℕ → Fault → Type 0) (bs s : List ℕ) (f : Fault)
    → ((front others : List ℕ) → P front → Q others → R (front ++ others)) → Took P bs s → Later Q Faulty s f → Later R Faulty bs f
one_more P Q R Faulty bs s f join t (others, rest, is, parts, fault) =
    (t.front ++ others, rest, join t.front others t.is is, t.parts ∙ ap (λ more. t.front ++ more) parts ∙ sym (append_assoc t.front others rest), fault)

items_err : (n depth : ℕ) → RefusedIsFaultyWithin depth → (k : TKind) (bs : List ℕ) (f : Fault) → AreBytes bs → elements (element (value depth) k) n bs ≡ Err f → ItemsFault depth (Faults depth) k n bs f
items_err zero depth refused_is_faulty k bs f each e = cc
items_err (suc n) depth refused_is_faulty k bs f each e =
    bind_refused _ (element (value depth) k bs) (λ t. elements (element (value depth) k) n t.1 >>= λ ts. Ok (tree t.0 ts.0, ts.1)) f e
    (λ refused. (no_trees, omega arith, ([], bs, refl, refl, element_err depth refused_is_faulty k bs f each refused))) (λ t read more.
    let one : Took (IsElement depth k t.0) bs t.1 = element_took depth (sound depth) k bs t each read in
    bind_refused _ (elements (element (value depth) k) n t.1) (λ ts. Ok (tree t.0 ts.0, ts.1)) f more
    (λ refused.
    let (ts, below, later) = items_err n depth refused_is_faulty k t.1 f one.rest refused in (
      tree t.0 ts,
      omega (arith, below),
      one_more (IsElement depth k t.0) (AllSpell depth k ts) (AllSpell depth k (tree t.0 ts)) (ElementFault (Faults depth) k) bs t.1 f (λ front others p q. (front, others, p, q, refl)) one later,
    ))
    (λ ts read wrong. cc))

list_err : (depth : ℕ) → RefusedIsFaultyWithin depth → (bs : List ℕ) (f : Fault) → AreBytes bs → trees_at (value depth) bs ≡ Err f → ListFault depth (Faults depth) bs f
list_err depth refused_is_faulty bs f each e =
    bind_refused _ (list_head bs) (λ h. elements (element (value depth) h.0.0) h.0.1 h.1) f e
    (λ refused. inl (list_head_err bs f each refused)) (λ h read more.
    let head : Took (IsListHead h.0.0 h.0.1) bs h.1 = list_head_took bs h each read in
    inr (h.0.0, h.0.1, after_part (IsListHead h.0.0 h.0.1) (ItemsFault depth (Faults depth) h.0.0 h.0.1) bs h.1 f head (items_err h.0.1 depth refused_is_faulty h.0.0 h.1 f head.rest more)))

entries_err : (n depth : ℕ) → RefusedIsFaultyWithin depth → (key_kind value_kind : TKind) (bs : List ℕ) (f : Fault) → AreBytes bs
    → entries (element (value depth) key_kind) (element (value depth) value_kind) n bs ≡ Err f → PairsFault depth (Faults depth) n key_kind value_kind bs f
entries_err zero depth refused_is_faulty key_kind value_kind bs f each e = cc
entries_err (suc n) depth refused_is_faulty key_kind value_kind bs f each e =
    let others = λ (r : List ℕ). entries (element (value depth) key_kind) (element (value depth) value_kind) n r in
    bind_refused _ (element (value depth) key_kind bs) (λ k. element (value depth) value_kind k.1 >>= λ v. others v.1 >>= λ ps. Ok (pair k.0 v.0 ps.0, ps.1)) f e
    (λ refused. (no_pairs, omega arith, ([], bs, refl, refl, inl (element_err depth refused_is_faulty key_kind bs f each refused)))) (λ k key_read more.
    let key : Took (IsElement depth key_kind k.0) bs k.1 = element_took depth (sound depth) key_kind bs k each key_read in
    bind_refused _ (element (value depth) value_kind k.1) (λ v. others v.1 >>= λ ps. Ok (pair k.0 v.0 ps.0, ps.1)) f more
    (λ refused. (
      no_pairs,
      omega arith,
      (
        [],
        bs,
        refl,
        refl,
        inr (
          k.0,
          after_part (IsElement depth key_kind k.0) (ElementFault (Faults depth) value_kind) bs k.1 f key (element_err depth refused_is_faulty value_kind k.1 f key.rest refused),
        ),
      ),
    )) (λ v value_read later.
    let one : Took (IsElement depth value_kind v.0) k.1 v.1 = element_took depth (sound depth) value_kind k.1 v key.rest value_read in
    bind_refused _ (others v.1) (λ ps. Ok (pair k.0 v.0 ps.0, ps.1)) f later
    (λ refused.
    let (ps, below, rest) = entries_err n depth refused_is_faulty key_kind value_kind v.1 f one.rest refused in
    let Faulty = PairFault depth (Faults depth) key_kind value_kind in (
      pair k.0 v.0 ps,
      omega (arith, below),
      one_more (IsElement depth key_kind k.0) (λ more. (middle body : List ℕ) × IsElement depth value_kind v.0 middle × PairsSpell depth key_kind value_kind ps body × (more ≡ middle ++ body))
          (PairsSpell depth key_kind value_kind (pair k.0 v.0 ps)) Faulty bs k.1 f (λ front more p q. (front, q.0, q.1, p, q.2, q.3, ap (λ m. front ++ m) q.4)) key
          (one_more (IsElement depth value_kind v.0) (PairsSpell depth key_kind value_kind ps)
          (λ more. (middle body : List ℕ) × IsElement depth value_kind v.0 middle × PairsSpell depth key_kind value_kind ps body × (more ≡ middle ++ body)) Faulty k.1 v.1 f
          (λ middle body p q. (middle, body, p, q, refl)) one rest),
    ))
    (λ ps read wrong. cc)))

map_body_err : (n depth : ℕ) → RefusedIsFaultyWithin depth → (bs : List ℕ) (f : Fault) → AreBytes bs → pairs_from (value depth) n bs ≡ Err f → (0 < n) × MapBodyFault depth (Faults depth) n bs f
map_body_err zero depth refused_is_faulty bs f each e = cc
map_body_err (suc n) depth refused_is_faulty bs f each e = (
  omega arith,
  bind_refused _ (map_kinds bs) (λ k. entries (element (value depth) k.0.0) (element (value depth) k.0.1) (suc n) k.1) f e
      (λ refused. inl (map_kinds_err bs f refused)) (λ k read more.
      let kinds : Took (KindsOfMap k.0) bs k.1 = map_kinds_took bs k each read in
      inr (k.0.0, k.0.1, after_part (KindsOfMap k.0) (PairsFault depth (Faults depth) (suc n) k.0.0 k.0.1) bs k.1 f kinds (entries_err (suc n) depth refused_is_faulty k.0.0 k.0.1 k.1 f kinds.rest more))),
)

map_err : (depth : ℕ) → RefusedIsFaultyWithin depth → (bs : List ℕ) (f : Fault) → AreBytes bs → pairs_at (value depth) bs ≡ Err f → MapFault depth (Faults depth) bs f
map_err depth refused_is_faulty bs f each e =
    bind_refused _ (size_at bs) (λ n. pairs_from (value depth) n.0 n.1) f e
    (λ refused. inl (size_err bs f each refused)) (λ n read more.
    let size : Took (IsSize n.0) bs n.1 = size_took bs n each read in
    let (some, fault) = map_body_err n.0 depth refused_is_faulty n.1 f size.rest more in
    inr (n.0, some, after_part (IsSize n.0) (MapBodyFault depth (Faults depth) n.0) bs n.1 f size fault))

abbrev SomeFields : ℕ → List ℤ → List ℕ → Fault → Type 0
SomeFields depth ids bs f = (fs : Fields) × FieldsFault depth (Faults depth) ids fs bs f

abbrev FieldsTold : ℕ → ℕ → Type 0
FieldsTold depth n = (ids : List ℤ) (bs : List ℕ) (f : Fault) → AreBytes bs → length bs ≤ n → fields (value depth) n ids bs ≡ Err f → SomeFields depth ids bs f

after_head_err : (depth n : ℕ) → RefusedIsFaultyWithin depth → FieldsTold depth n → (ids : List ℤ) (o : Option (ℤ × TKind)) (bs s : List ℕ) (f : Fault) → Took (IsHead ids o) bs s
    → length bs ≤ suc n → after_head (value depth) (fields (value depth) n) ids o s ≡ Err f → SomeFields depth ids bs f
after_head_err depth n refused_is_faulty others ids None bs s f head enough e = cc
after_head_err depth n refused_is_faulty others ids (Some h) bs s f head enough e =
    bind_refused _ (value depth h.1 s) (λ t. fields (value depth) n (ids ++ h.0 ∷ []) t.1 >>= λ fs. Ok (field h.0 t.0 fs.0, fs.1)) f e
    (λ refused. (no_fields, inr (h.0, h.1, after_part (IsFieldHead ids h.0 h.1) (Faults depth h.1) bs s f head (refused_is_faulty h.1 s f head.rest refused)))) (λ t read more.
    let one : Took (Spells depth h.1 t.0) s t.1 = sound depth h.1 s t head.rest read in
    let shorter : length t.1 ≤ n = omega (arith, enough, ap length head.parts, ap length one.parts, length-append head.front s, length-append one.front t.1, head_long ids h.0 h.1 head.front head.is) in
    bind_refused _ (fields (value depth) n (ids ++ h.0 ∷ []) t.1) (λ fs. Ok (field h.0 t.0 fs.0, fs.1)) f more
    (λ refused.
    let (fs, fault) = others (ids ++ h.0 ∷ []) t.1 f one.rest shorter refused in
    let Rest = FieldsFault depth (Faults depth) (ids ++ h.0 ∷ []) fs in
    (field h.0 t.0 fs, (h.1, after_part (IsFieldHead ids h.0 h.1) (Later (Spells depth h.1 t.0) Rest) bs s f head (after_part (Spells depth h.1 t.0) Rest s t.1 f one fault))))
    (λ fs read wrong. cc))

no_byte_left : (bs : List ℕ) → length bs ≤ 0 → bs ≡ []
no_byte_left [] h = refl
no_byte_left (b ∷ bs) h = absurd (omega arith)

fields_err : (n depth : ℕ) → RefusedIsFaultyWithin depth → FieldsTold depth n
fields_err zero depth refused_is_faulty ids bs f each enough e = (no_fields, inl (no_field_head (no_byte_left bs enough, one_refusal _ (End, 0) f refl e)))
fields_err (suc n) depth refused_is_faulty ids bs f each enough e =
    bind_refused _ (field_head ids bs) (λ h. after_head (value depth) (fields (value depth) n) ids h.0 h.1) f e
    (λ refused. (no_fields, inl (field_head_err ids bs f each refused))) (λ h read more.
    after_head_err depth n refused_is_faulty (fields_err n depth refused_is_faulty) ids h.0 bs h.1 f (field_head_took ids bs h each read) enough more)

deep_err : {A : Type 0} (bs : List ℕ) (f : Fault) (r : Result (A × List ℕ) Fault) → too_deep bs ≡ r → r ≡ Err f → DepthFault bs f
deep_err [] f r is e = inl (refl, one_refusal r (End, 0) f (sym is) e)
deep_err (b ∷ bs) f r is e = inr (b, bs, tt, refl, one_refusal r (Depth, suc (length bs)) f (sym is) e)

part_err : {A : Type 0} (make : A → Tree) (part : Read A) (G : Type 0) (bs : List ℕ) (f : Fault) → (part bs ≡ Err f → G) → as_tree make part bs ≡ Err f → G
part_err make part G bs f fault e = bind_refused G (part bs) (λ a. Ok (make a.0, a.1)) f e fault (λ a read wrong. cc)

told_zero : RefusedIsFaultyWithin zero
told_zero kind.True bs f each e = cc
told_zero kind.False bs f each e = cc
told_zero kind.I8 bs f each e = part_err int8 int8_at _ bs f (λ r. int8_err bs f r) e
told_zero kind.I16 bs f each e = part_err int16 int16_at _ bs f (λ r. number_err 65536 bs f each r) e
told_zero kind.I32 bs f each e = part_err int32 int32_at _ bs f (λ r. number_err 4294967296 bs f each r) e
told_zero kind.I64 bs f each e = part_err int64 int64_at _ bs f (λ r. number_err 18446744073709551616 bs f each r) e
told_zero kind.Double bs f each e = part_err double (bytes_at 8) _ bs f (λ r. bytes_err 8 bs f r) e
told_zero kind.Binary bs f each e = part_err binary binary_at _ bs f (λ r. binary_err bs f each r) e
told_zero kind.List bs f each e = part_err list (nest zero).trees _ bs f (λ r. deep_err bs f ((nest zero).trees bs) refl r) e
told_zero kind.Set bs f each e = part_err set (nest zero).trees _ bs f (λ r. deep_err bs f ((nest zero).trees bs) refl r) e
told_zero kind.Map bs f each e = part_err map (nest zero).pairs _ bs f (λ r. deep_err bs f ((nest zero).pairs bs) refl r) e
told_zero kind.Struct bs f each e = part_err struct (nest zero).fields _ bs f (λ r. deep_err bs f ((nest zero).fields bs) refl r) e

told_more : (depth : ℕ) → RefusedIsFaultyWithin depth → RefusedIsFaultyWithin (suc depth)
told_more depth refused_is_faulty kind.True bs f each e = cc
told_more depth refused_is_faulty kind.False bs f each e = cc
told_more depth refused_is_faulty kind.I8 bs f each e = part_err int8 int8_at _ bs f (λ r. int8_err bs f r) e
told_more depth refused_is_faulty kind.I16 bs f each e = part_err int16 int16_at _ bs f (λ r. number_err 65536 bs f each r) e
told_more depth refused_is_faulty kind.I32 bs f each e = part_err int32 int32_at _ bs f (λ r. number_err 4294967296 bs f each r) e
told_more depth refused_is_faulty kind.I64 bs f each e = part_err int64 int64_at _ bs f (λ r. number_err 18446744073709551616 bs f each r) e
told_more depth refused_is_faulty kind.Double bs f each e = part_err double (bytes_at 8) _ bs f (λ r. bytes_err 8 bs f r) e
told_more depth refused_is_faulty kind.Binary bs f each e = part_err binary binary_at _ bs f (λ r. binary_err bs f each r) e
told_more depth refused_is_faulty kind.List bs f each e = part_err list (trees_at (value depth)) _ bs f (λ r. list_err depth refused_is_faulty bs f each r) e
told_more depth refused_is_faulty kind.Set bs f each e = part_err set (trees_at (value depth)) _ bs f (λ r. list_err depth refused_is_faulty bs f each r) e
told_more depth refused_is_faulty kind.Map bs f each e = part_err map (pairs_at (value depth)) _ bs f (λ r. map_err depth refused_is_faulty bs f each r) e
told_more depth refused_is_faulty kind.Struct bs f each e = part_err struct (fields_at (value depth)) _ bs f (λ r. fields_err (length bs) depth refused_is_faulty [] bs f each (omega arith) r) e

pub refused_is_faulty : (depth : ℕ) → RefusedIsFaultyWithin depth
refused_is_faulty zero = told_zero
refused_is_faulty (suc depth) = told_more depth (refused_is_faulty depth)
