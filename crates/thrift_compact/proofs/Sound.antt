-- A value that is read is spelled by the bytes that the read consumes.
use Rattle.std.proofs.Common.{◌≡◌, ℕ, zero, suc, ℤ, Bool, true, false, List, [], ◌∷◌, ◌++◌, length, refl, sym, ap, subst, Option, Some, None, Ok}
use Rattle.pme_base.specs.Steps.{◌>>=◌}
use Rattle.thrift_compact.specs.declared.kind.TKind.{TKind}
use Rattle.thrift_compact.specs.declared.kind.TKind.TheVariants as kind
use Rattle.thrift_compact.specs.Tree.{Tree, truth, int8, int16, int32, int64, double, binary, list, set, map, struct, Trees, no_trees, tree, Pairs, no_pairs, pair, Fields, no_fields, field, count, pair_count}
use Rattle.thrift_compact.specs.Reading.{Read, bytes_at, int8_at, int16_at, int32_at, int64_at, binary_at, truth_at, list_head, size_at, map_kinds, field_head, element, elements, entries, trees_at, pairs_from, pairs_at, after_head, fields, too_deep, as_tree, nest, value}
use Rattle.thrift_compact.specs.Grammar.{IsSize, IsNumber, IsTruthByte, IsListHead, IsHeadedList, IsMapBody, IsMap, IsFieldHead, Spells, AllSpell, PairsSpell, SpellsFields}
use Rattle.thrift_compact.specs.Faults.{IsElement}
use Rattle.thrift_compact.specs.Spelled.{AreBytes}
use Rattle.pme_base.proofs.Chain.{bind_ok}
use Rattle.thrift_compact.proofs.Steps.{after_ok}
use Rattle.thrift_compact.proofs.Took.{Took, took_ok, took_nothing, took_as, took_then, took_thrice}
use Rattle.thrift_compact.proofs.TookNumbers.{AreSo, bytes_took, IsSignedByte, int8_took, number_took, size_took, IsBinary, binary_took, truth_took}
use Rattle.thrift_compact.proofs.TookHeads.{list_head_took, KindsOfMap, map_kinds_took, IsHead, field_head_took}

-- a value that is read with `depth` levels is spelled by the bytes that the read consumes
abbrev pub Sound : ℕ → Type 0
Sound depth = (k : TKind) (bs : List ℕ) (x : Tree × List ℕ) → AreBytes bs → value depth k bs ≡ Ok x → Took (Spells depth k x.0) bs x.1

truth_element : (depth : ℕ) (k : TKind) (bs : List ℕ) (x : Tree × List ℕ) → ((b : Bool) (front : List ℕ) → IsTruthByte b front → IsElement depth k (truth b) front)
    → AreBytes bs → as_tree truth truth_at bs ≡ Ok x → Took (IsElement depth k x.0) bs x.1
truth_element depth k bs x is each e =
    let (b, read, same) = bind_ok (truth_at bs) (λ b. Ok (truth b.0, b.1)) x e in
    took_ok (IsElement depth k) bs (truth b.0, b.1) x same
    (took_as (IsTruthByte b.0) (IsElement depth k (truth b.0)) bs b.1 (λ front p. is b.0 front p) (truth_took bs b each read))

pub element_took : (depth : ℕ) → Sound depth → (k : TKind) (bs : List ℕ) (x : Tree × List ℕ) → AreBytes bs → element (value depth) k bs ≡ Ok x → Took (IsElement depth k x.0) bs x.1
element_took depth sound kind.True bs x each e = truth_element depth kind.True bs x (λ b front p. p) each e
element_took depth sound kind.False bs x each e = truth_element depth kind.False bs x (λ b front p. p) each e
element_took depth sound k bs x each e = sound k bs x each e

-- the bytes spell n elements
abbrev pub AreElements : ℕ → TKind → ℕ → Trees → List ℕ → Type 0
AreElements depth k n ts front = AllSpell depth k ts front × (count ts ≡ n)

pub elements_took : (n depth : ℕ) → Sound depth → (k : TKind) (bs : List ℕ) (x : Trees × List ℕ) → AreBytes bs → elements (element (value depth) k) n bs ≡ Ok x → Took (AreElements depth k n x.0) bs x.1
elements_took zero depth sound k bs x each e = took_ok (AreElements depth k zero) bs (no_trees, bs) x e (took_nothing (AreElements depth k zero no_trees) bs each (refl, refl))
elements_took (suc n) depth sound k bs x each e =
    let (t, read, more) = bind_ok (element (value depth) k bs) (λ t. elements (element (value depth) k) n t.1 >>= λ ts. Ok (tree t.0 ts.0, ts.1)) x e in
    let (ts, others_read, same) = bind_ok (elements (element (value depth) k) n t.1) (λ ts. Ok (tree t.0 ts.0, ts.1)) x more in
    let one = element_took depth sound k bs t each read in
    took_ok (AreElements depth k (suc n)) bs (tree t.0 ts.0, ts.1) x same
    (took_then (IsElement depth k t.0) (AreElements depth k n ts.0) (AreElements depth k (suc n) (tree t.0 ts.0)) bs t.1 ts.1
    (λ front others p q. ((front, others, p, q.0, refl), ap suc q.1)) one (elements_took n depth sound k t.1 ts one.rest others_read))

abbrev IsTrees : ℕ → Trees → List ℕ → Type 0
IsTrees depth ts front = IsHeadedList (λ e body. AllSpell depth e ts body) (count ts) front

trees_took : (depth : ℕ) → Sound depth → (bs : List ℕ) (x : Trees × List ℕ) → AreBytes bs → trees_at (value depth) bs ≡ Ok x → Took (IsTrees depth x.0) bs x.1
trees_took depth sound bs x each e =
    let (h, read, more) = bind_ok (list_head bs) (λ h. elements (element (value depth) h.0.0) h.0.1 h.1) x e in
    let head = list_head_took bs h each read in
    took_then (IsListHead h.0.0 h.0.1) (AreElements depth h.0.0 h.0.1 x.0) (IsTrees depth x.0) bs h.1 x.1
    (λ front body p q. (h.0.0, front, body, subst (λ (n : ℕ). IsListHead h.0.0 n front) (sym q.1) p, q.0, refl))
    head (elements_took h.0.1 depth sound h.0.0 h.1 x head.rest more)

-- the bytes spell n pairs
abbrev pub ArePairs : ℕ → TKind → TKind → ℕ → Pairs → List ℕ → Type 0
ArePairs depth key_kind value_kind n ps front = PairsSpell depth key_kind value_kind ps front × (pair_count ps ≡ n)

pub entries_took : (n depth : ℕ) → Sound depth → (key_kind value_kind : TKind) (bs : List ℕ) (x : Pairs × List ℕ) → AreBytes bs
    → entries (element (value depth) key_kind) (element (value depth) value_kind) n bs ≡ Ok x → Took (ArePairs depth key_kind value_kind n x.0) bs x.1
entries_took zero depth sound key_kind value_kind bs x each e =
    took_ok (ArePairs depth key_kind value_kind zero) bs (no_pairs, bs) x e (took_nothing (ArePairs depth key_kind value_kind zero no_pairs) bs each (refl, refl))
entries_took (suc n) depth sound key_kind value_kind bs x each e =
    let others = λ (r : List ℕ). entries (element (value depth) key_kind) (element (value depth) value_kind) n r in
    after_ok _ (element (value depth) key_kind bs) (λ k. element (value depth) value_kind k.1 >>= λ v. others v.1 >>= λ ps. Ok (pair k.0 v.0 ps.0, ps.1)) x e (λ k key_read more.
    after_ok _ (element (value depth) value_kind k.1) (λ v. others v.1 >>= λ ps. Ok (pair k.0 v.0 ps.0, ps.1)) x more (λ v value_read later.
    after_ok _ (others v.1) (λ ps. Ok (pair k.0 v.0 ps.0, ps.1)) x later (λ ps others_read same.
    let key : Took (IsElement depth key_kind k.0) bs k.1 = element_took depth sound key_kind bs k each key_read in
    let one : Took (IsElement depth value_kind v.0) k.1 v.1 = element_took depth sound value_kind k.1 v key.rest value_read in
    took_ok (ArePairs depth key_kind value_kind (suc n)) bs (pair k.0 v.0 ps.0, ps.1) x same
    (took_thrice (IsElement depth key_kind k.0) (IsElement depth value_kind v.0) (ArePairs depth key_kind value_kind n ps.0) (ArePairs depth key_kind value_kind (suc n) (pair k.0 v.0 ps.0)) bs k.1 v.1 ps.1
    (λ front middle body p q r. ((front, middle, body, p, q, r.0, refl), ap suc r.1)) key one (entries_took n depth sound key_kind value_kind v.1 ps one.rest others_read)))))

-- the bytes after the size of a map
abbrev IsBody : ℕ → Pairs → List ℕ → Type 0
IsBody depth ps front = IsMapBody (λ key value body. PairsSpell depth key value ps body) (pair_count ps) front

abbrev IsBodyOf : ℕ → ℕ → Pairs → List ℕ → Type 0
IsBodyOf n depth ps front = (pair_count ps ≡ n) × IsBody depth ps front

pairs_from_took : (n depth : ℕ) → Sound depth → (bs : List ℕ) (x : Pairs × List ℕ) → AreBytes bs → pairs_from (value depth) n bs ≡ Ok x → Took (IsBodyOf n depth x.0) bs x.1
pairs_from_took zero depth sound bs x each e = took_ok (IsBodyOf zero depth) bs (no_pairs, bs) x e (took_nothing (IsBodyOf zero depth no_pairs) bs each (refl, refl))
pairs_from_took (suc n) depth sound bs x each e =
    after_ok _ (map_kinds bs) (λ k. entries (element (value depth) k.0.0) (element (value depth) k.0.1) (suc n) k.1) x e (λ k read more.
    let kinds : Took (KindsOfMap k.0) bs k.1 = map_kinds_took bs k each read in
    took_then (KindsOfMap k.0) (ArePairs depth k.0.0 k.0.1 (suc n) x.0) (IsBodyOf (suc n) depth x.0) bs k.1 x.1
    (λ front body p q. (q.1, subst (λ (m : ℕ). IsMapBody (λ key value body. PairsSpell depth key value x.0 body) m (front ++ body)) (sym q.1) (k.0.0, k.0.1, body, q.0, ap (λ f. f ++ body) p)))
    kinds (entries_took (suc n) depth sound k.0.0 k.0.1 k.1 x kinds.rest more))

abbrev IsPairs : ℕ → Pairs → List ℕ → Type 0
IsPairs depth ps front = IsMap (λ key value body. PairsSpell depth key value ps body) (pair_count ps) front

pairs_took : (depth : ℕ) → Sound depth → (bs : List ℕ) (x : Pairs × List ℕ) → AreBytes bs → pairs_at (value depth) bs ≡ Ok x → Took (IsPairs depth x.0) bs x.1
pairs_took depth sound bs x each e =
    after_ok _ (size_at bs) (λ n. pairs_from (value depth) n.0 n.1) x e (λ n read more.
    let size : Took (IsSize n.0) bs n.1 = size_took bs n each read in
    took_then (IsSize n.0) (IsBodyOf n.0 depth x.0) (IsPairs depth x.0) bs n.1 x.1
    (λ front body p q. (front, body, subst (λ (m : ℕ). IsSize m front) (sym q.0) p, q.1, refl))
    size (pairs_from_took n.0 depth sound n.1 x size.rest more))

-- the rest of a struct's fields, read in at most n turns, is spelled by the bytes that the read consumes
abbrev FieldsSound : ℕ → ℕ → Type 0
FieldsSound depth n = (ids : List ℤ) (bs : List ℕ) (x : Fields × List ℕ) → AreBytes bs → fields (value depth) n ids bs ≡ Ok x → Took (SpellsFields depth ids x.0) bs x.1

after_head_took : (depth n : ℕ) → Sound depth → FieldsSound depth n → (ids : List ℤ) (o : Option (ℤ × TKind)) (bs s : List ℕ) (x : Fields × List ℕ) → Took (IsHead ids o) bs s
    → after_head (value depth) (fields (value depth) n) ids o s ≡ Ok x → Took (SpellsFields depth ids x.0) bs x.1
after_head_took depth n sound others ids None bs s x head e = took_ok (SpellsFields depth ids) bs (no_fields, s) x e head
after_head_took depth n sound others ids (Some h) bs s x head e =
    after_ok _ (value depth h.1 s) (λ t. fields (value depth) n (ids ++ h.0 ∷ []) t.1 >>= λ fs. Ok (field h.0 t.0 fs.0, fs.1)) x e (λ t read more.
    after_ok _ (fields (value depth) n (ids ++ h.0 ∷ []) t.1) (λ fs. Ok (field h.0 t.0 fs.0, fs.1)) x more (λ fs others_read same.
    let one : Took (Spells depth h.1 t.0) s t.1 = sound h.1 s t head.rest read in
    took_ok (SpellsFields depth ids) bs (field h.0 t.0 fs.0, fs.1) x same
    (took_thrice (IsFieldHead ids h.0 h.1) (Spells depth h.1 t.0) (SpellsFields depth (ids ++ h.0 ∷ []) fs.0) (SpellsFields depth ids (field h.0 t.0 fs.0)) bs s t.1 fs.1
    (λ front body more p q r. (h.1, front, body, more, p, q, r, refl)) head one (others (ids ++ h.0 ∷ []) t.1 fs one.rest others_read))))

fields_took : (n depth : ℕ) → Sound depth → FieldsSound depth n
fields_took zero depth sound ids bs x each e = cc
fields_took (suc n) depth sound ids bs x each e =
    after_ok _ (field_head ids bs) (λ h. after_head (value depth) (fields (value depth) n) ids h.0 h.1) x e (λ h read more.
    after_head_took depth n sound (fields_took n depth sound) ids h.0 bs h.1 x (field_head_took ids bs h each read) more)

-- a container is spelled, with one level fewer inside
abbrev Inside : {A : Type 0} → (ℕ → A → List ℕ → Type 0) → ℕ → A → List ℕ → Type 0
Inside P depth a front = (inner : ℕ) × (depth ≡ suc inner) × P inner a front

abbrev IsStruct : ℕ → Fields → List ℕ → Type 0
IsStruct depth fs front = SpellsFields depth [] fs front

record NestSound (depth : ℕ) : Type 0 where
  trees : (bs : List ℕ) (x : Trees × List ℕ) → AreBytes bs → (nest depth).trees bs ≡ Ok x → Took (Inside IsTrees depth x.0) bs x.1
  pairs : (bs : List ℕ) (x : Pairs × List ℕ) → AreBytes bs → (nest depth).pairs bs ≡ Ok x → Took (Inside IsPairs depth x.0) bs x.1
  fields : (bs : List ℕ) (x : Fields × List ℕ) → AreBytes bs → (nest depth).fields bs ≡ Ok x → Took (Inside IsStruct depth x.0) bs x.1

never : {A : Type 0} (bs : List ℕ) (x : A × List ℕ) → too_deep bs ≡ Ok x → ⊥
never [] x e = cc
never (b ∷ bs) x e = cc

no_nest : NestSound zero
no_nest = record {
  trees = λ bs x each e. absurd (never bs x e);
  pairs = λ bs x each e. absurd (never bs x e);
  fields = λ bs x each e. absurd (never bs x e);
}

inside : {A : Type 0} (P : ℕ → A → List ℕ → Type 0) (depth : ℕ) (a : A) (bs r : List ℕ) → Took (P depth a) bs r → Took (Inside P (suc depth) a) bs r
inside P depth a bs r t = took_as (P depth a) (Inside P (suc depth) a) bs r (λ front p. (depth, refl, p)) t

nest_sound : (depth : ℕ) → Sound depth → NestSound (suc depth)
nest_sound depth sound = record {
  trees = λ bs x each e. inside IsTrees depth x.0 bs x.1 (trees_took depth sound bs x each e);
  pairs = λ bs x each e. inside IsPairs depth x.0 bs x.1 (pairs_took depth sound bs x each e);
  fields = λ bs x each e. inside IsStruct depth x.0 bs x.1 (fields_took (length bs) depth sound [] bs x each e);
}

part_took : {A : Type 0} (make : A → Tree) (part : Read A) (P : A → List ℕ → Type 0) (depth : ℕ) (k : TKind) (bs : List ℕ) (x : Tree × List ℕ)
    → ((a : A) (front : List ℕ) → P a front → Spells depth k (make a) front) → ((y : A × List ℕ) → part bs ≡ Ok y → Took (P y.0) bs y.1)
    → as_tree make part bs ≡ Ok x → Took (Spells depth k x.0) bs x.1
part_took make part P depth k bs x is took e =
    after_ok _ (part bs) (λ a. Ok (make a.0, a.1)) x e (λ a read same.
    took_ok (Spells depth k) bs (make a.0, a.1) x same (took_as (P a.0) (Spells depth k (make a.0)) bs a.1 (is a.0) (took a read)))

value_took : (depth : ℕ) → NestSound depth → Sound depth
value_took depth inner kind.True bs x each e = took_ok (Spells depth kind.True) bs (truth true, bs) x e (took_nothing (Spells depth kind.True (truth true)) bs each (refl, refl))
value_took depth inner kind.False bs x each e = took_ok (Spells depth kind.False) bs (truth false, bs) x e (took_nothing (Spells depth kind.False (truth false)) bs each (refl, refl))
value_took depth inner kind.I8 bs x each e = part_took int8 int8_at IsSignedByte depth kind.I8 bs x (λ z front p. (refl, p.0, p.1, p.2, p.3)) (λ y read. int8_took bs y each read) e
value_took depth inner kind.I16 bs x each e = part_took int16 int16_at (IsNumber 65536) depth kind.I16 bs x (λ z front p. (refl, p)) (λ y read. number_took 65536 bs y each read) e
value_took depth inner kind.I32 bs x each e = part_took int32 int32_at (IsNumber 4294967296) depth kind.I32 bs x (λ z front p. (refl, p)) (λ y read. number_took 4294967296 bs y each read) e
value_took depth inner kind.I64 bs x each e = part_took int64 int64_at (IsNumber 18446744073709551616) depth kind.I64 bs x (λ z front p. (refl, p)) (λ y read. number_took 18446744073709551616 bs y each read) e
value_took depth inner kind.Double bs x each e = part_took double (bytes_at 8) (AreSo 8) depth kind.Double bs x (λ a front p. (refl, p.0, p.1)) (λ y read. bytes_took 8 bs y each read) e
value_took depth inner kind.Binary bs x each e = part_took binary binary_at IsBinary depth kind.Binary bs x (λ a front p. (refl, p.0, p.1, p.2)) (λ y read. binary_took bs y each read) e
value_took depth inner kind.List bs x each e = part_took list (nest depth).trees (Inside IsTrees depth) depth kind.List bs x (λ a front p. (refl, p.0, p.1, p.2)) (λ y read. inner.trees bs y each read) e
value_took depth inner kind.Set bs x each e = part_took set (nest depth).trees (Inside IsTrees depth) depth kind.Set bs x (λ a front p. (refl, p.0, p.1, p.2)) (λ y read. inner.trees bs y each read) e
value_took depth inner kind.Map bs x each e = part_took map (nest depth).pairs (Inside IsPairs depth) depth kind.Map bs x (λ a front p. (refl, p.0, p.1, p.2)) (λ y read. inner.pairs bs y each read) e
value_took depth inner kind.Struct bs x each e = part_took struct (nest depth).fields (Inside IsStruct depth) depth kind.Struct bs x (λ a front p. (refl, p.0, p.1, p.2)) (λ y read. inner.fields bs y each read) e

pub sound : (depth : ℕ) → Sound depth
sound zero = value_took zero no_nest
sound (suc depth) = value_took (suc depth) (nest_sound depth (sound depth))
