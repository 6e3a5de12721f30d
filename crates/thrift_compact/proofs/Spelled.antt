-- The spelling of a proper tree that fits its types follows the grammar, in whatever order its fields are.
use Rattle.std.proofs.Common.{◌≡◌, ℕ, suc, ◌+◌, ◌-◌, ◌*◌, ◌<◌, ℤ, pos, true, false, inr, List, [], ◌∷◌, ◌++◌, length, get_or, refl, sym, ◌∙◌, ap, subst, arith, append_assoc}
use Rattle.std.proofs.lemmas.List.{length-append}
use Rattle.std.proofs.lemmas.Option.{unwrap_or-slice_get}
use Rattle.thrift_compact.specs.declared.kind.TKind.{TKind}
use Rattle.thrift_compact.specs.Grammar.{IsHeadedList, IsMap, Within, Spells, AllSpell, PairsSpell, SpellsFields}
use Rattle.thrift_compact.specs.Kinds.{code}
use Rattle.thrift_compact.specs.Proper.{AllOfKind, PairsOfKinds, ids_of, AreNew, IsProper, AllProper, PairsProper, FieldsProper, FitsTypes, AllFit, PairsFit, FieldsFit}
use Rattle.thrift_compact.specs.Reading.{last}
use Rattle.thrift_compact.specs.Spelling.{varint_of, element_kind, items_kind, list_head_of, map_head_of, field_head_of, within, spelling, items_spelling, pairs_spelling, fields_spelling}
use Rattle.thrift_compact.specs.Tree.{Tree, truth, int8, int16, int32, int64, double, binary, list, set, map, struct, Trees, no_trees, tree, Pairs, no_pairs, pair, Fields, no_fields, field, count, pair_count, kind_of_tree}
use Rattle.thrift_compact.proofs.Numerals.{int8_is, int16_is, int32_is, int64_is, size_is, list_head_is, field_head_is}

-- the last id after one was appended
last_of : (ids : List ℤ) (id : ℤ) → get_or (ids ++ id ∷ []) (length ids) (pos 0) ≡ id
last_of [] id = refl
last_of (other ∷ ids) id = last_of ids id

pub last_is : (ids : List ℤ) (id : ℤ) → last (ids ++ id ∷ []) ≡ id
last_is ids id =
    let at : length (ids ++ id ∷ []) - 1 ≡ length ids = omega (arith, length-append ids (id ∷ [])) in
    unwrap_or-slice_get (ids ++ id ∷ []) (length (ids ++ id ∷ []) - 1) (pos 0) ∙ (ap (λ i. get_or (ids ++ id ∷ []) i (pos 0)) at ∙ last_of ids id)

-- the spelling of an element, a key or a value of a map
pub within_is : (depth : ℕ) (t : Tree) → Spells depth (kind_of_tree t) t (spelling t) → Within (element_kind t) t (within t (spelling t)) (Spells depth (element_kind t) t (within t (spelling t)))
within_is depth (truth true) spelled = refl
within_is depth (truth false) spelled = inr refl
within_is depth (int8 z) spelled = spelled
within_is depth (int16 z) spelled = spelled
within_is depth (int32 z) spelled = spelled
within_is depth (int64 z) spelled = spelled
within_is depth (double bytes) spelled = spelled
within_is depth (binary bytes) spelled = spelled
within_is depth (list ts) spelled = spelled
within_is depth (set ts) spelled = spelled
within_is depth (map ps) spelled = spelled
within_is depth (struct fs) spelled = spelled

within_kind : (depth : ℕ) (t : Tree) (k : TKind) → element_kind t ≡ k → Spells depth (kind_of_tree t) t (spelling t) → Within k t (within t (spelling t)) (Spells depth k t (within t (spelling t)))
within_kind depth t k same spelled = subst (λ k. Within k t (within t (spelling t)) (Spells depth k t (within t (spelling t)))) same (within_is depth t spelled)

-- the element kind in the head of a list is the kind of all its elements
items_kind_is : (k : TKind) (ts : Trees) → AllOfKind k ts → AllOfKind (items_kind ts) ts
items_kind_is k no_trees all = tt
items_kind_is k (tree t ts) all = (refl, subst (λ e. AllOfKind e ts) (sym all.0) all.1)

headed : (ts : Trees) (all : TKind → List ℕ → Type 0) → count ts < 2147483648 → all (items_kind ts) (items_spelling ts) → IsHeadedList all (count ts) (list_head_of (items_kind ts) (count ts) ++ items_spelling ts)
headed ts all small spelled = (items_kind ts, list_head_of (items_kind ts) (count ts), items_spelling ts, list_head_is (items_kind ts) (count ts) small, spelled, refl)

-- the head and the pairs of a map
mapped : (ps : Pairs) (all : TKind → TKind → List ℕ → Type 0) → pair_count ps < 2147483648 → ((key value : Tree) (others : Pairs) → ps ≡ pair key value others → all (element_kind key) (element_kind value) (pairs_spelling ps)) → IsMap all (pair_count ps) (map_head_of ps ++ pairs_spelling ps)
mapped no_pairs all small spelled = (varint_of 0, [], size_is 0 small, refl, refl)
mapped (pair key value ps) all small spelled =
    let n : ℕ = suc (pair_count ps) in
    let byte : ℕ = 16 * code (element_kind key) + code (element_kind value) in
    let body : List ℕ = pairs_spelling (pair key value ps) in (
      varint_of n,
      byte ∷ body,
      size_is n small,
      (element_kind key, element_kind value, body, spelled key value ps refl, refl),
      append_assoc (varint_of n) (byte ∷ []) body,
    )

-- the kinds in the head of a map are the kinds of all its keys and of all its values
map_pairs : (depth : ℕ) (key_kind value_kind : TKind) (ps : Pairs) (key value : Tree) (others : Pairs) → ps ≡ pair key value others → PairsOfKinds key_kind value_kind ps → PairsSpell depth key_kind value_kind ps (pairs_spelling ps) → PairsSpell depth (element_kind key) (element_kind value) ps (pairs_spelling ps)
map_pairs depth key_kind value_kind ps key value others at all spelled =
    let kinds : PairsOfKinds key_kind value_kind (pair key value others) = subst (PairsOfKinds key_kind value_kind) at all in
    subst (λ k. PairsSpell depth k (element_kind value) ps (pairs_spelling ps)) (sym kinds.0)
    (subst (λ k. PairsSpell depth key_kind k ps (pairs_spelling ps)) (sym kinds.1) spelled)

mutual
  pub spelled : (depth : ℕ) (t : Tree) → IsProper depth t → FitsTypes t → Spells depth (kind_of_tree t) t (spelling t)
  spelled depth (truth true) proper fits = (refl, refl)
  spelled depth (truth false) proper fits = (refl, refl)
  spelled depth (int8 z) proper fits = let is = int8_is z fits in (refl, _, is.0, is.1, refl)
  spelled depth (int16 z) proper fits = (refl, int16_is z fits)
  spelled depth (int32 z) proper fits = (refl, int32_is z fits)
  spelled depth (int64 z) proper fits = (refl, int64_is z fits)
  spelled depth (double bytes) proper fits = (refl, fits.0, refl)
  spelled depth (binary bytes) proper fits = (refl, varint_of (length bytes), size_is (length bytes) proper, refl)
  spelled depth (list ts) (inner, is, small, (k, all), proper) fits = (refl, inner, is, headed ts (λ e body. AllSpell inner e ts body) small (all_spelled inner (items_kind ts) ts (items_kind_is k ts all) proper fits))
  spelled depth (set ts) (inner, is, small, (k, all), proper) fits = (refl, inner, is, headed ts (λ e body. AllSpell inner e ts body) small (all_spelled inner (items_kind ts) ts (items_kind_is k ts all) proper fits))
  spelled depth (map ps) (inner, is, small, (key_kind, value_kind, all), proper) fits =
      (refl, inner, is, mapped ps (λ key value body. PairsSpell inner key value ps body) small (λ key value others at. map_pairs inner key_kind value_kind ps key value others at all (pairs_spelled inner key_kind value_kind ps all proper fits)))
  spelled depth (struct fs) (inner, is, new, proper) fits = (refl, inner, is, fields_spelled inner [] fs new proper fits)

  all_spelled : (depth : ℕ) (k : TKind) (ts : Trees) → AllOfKind k ts → AllProper depth ts → AllFit ts → AllSpell depth k ts (items_spelling ts)
  all_spelled depth k no_trees all proper fits = refl
  all_spelled depth k (tree t ts) all proper fits =
      (within t (spelling t), items_spelling ts, within_kind depth t k all.0 (spelled depth t proper.0 fits.0), all_spelled depth k ts all.1 proper.1 fits.1, refl)

  pairs_spelled : (depth : ℕ) (key_kind value_kind : TKind) (ps : Pairs) → PairsOfKinds key_kind value_kind ps → PairsProper depth ps → PairsFit ps → PairsSpell depth key_kind value_kind ps (pairs_spelling ps)
  pairs_spelled depth key_kind value_kind no_pairs all proper fits = refl
  pairs_spelled depth key_kind value_kind (pair key value ps) all proper fits = (
    within key (spelling key),
    within value (spelling value),
    pairs_spelling ps,
    within_kind depth key key_kind all.0 (spelled depth key proper.0 fits.0),
    within_kind depth value value_kind all.1 (spelled depth value proper.1 fits.1),
    pairs_spelled depth key_kind value_kind ps all.2 proper.2 fits.2,
    refl,
  )

  fields_spelled : (depth : ℕ) (ids : List ℤ) (fs : Fields) → AreNew ids (ids_of fs) → FieldsProper depth fs → FieldsFit fs → SpellsFields depth ids fs (fields_spelling (last ids) fs)
  fields_spelled depth ids no_fields new proper fits = refl
  fields_spelled depth ids (field id t fs) new proper fits = (
    kind_of_tree t,
    field_head_of (last ids) id (kind_of_tree t),
    spelling t,
    fields_spelling id fs,
    field_head_is ids id (kind_of_tree t) new.0 fits.0,
    spelled depth t proper.0 fits.1,
    subst (λ before. SpellsFields depth (ids ++ id ∷ []) fs (fields_spelling before fs)) (last_is ids id) (fields_spelled depth (ids ++ id ∷ []) fs new.1 proper.1 fits.2),
    refl,
  )
