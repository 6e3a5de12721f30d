-- A tree that bytes spell is proper and fits its types.
use Rattle.std.proofs.Common.{◌≡◌, ℕ, zero, suc, ◌-◌, ◌/◌, ◌%◌, ◌<◌, ◌≤◌, ◌==◌, ℤ, pos, negsuc, Bool, true, false, inl, inr, List, [], ◌∷◌, ◌++◌, slice_index, if◌then◌else◌, FitsSigned, w8, w16, w32, w64, refl, sym, ◌∙◌, ap, subst, arith}
use Rattle.std.proofs.lemmas.Bool.{cases_lt, lt-ltb, le-ltb}
use Rattle.thrift_compact.specs.declared.kind.TKind.{TKind}
use Rattle.thrift_compact.specs.declared.kind.TKind.TheVariants as kind
use Rattle.thrift_compact.specs.Grammar.{IsListHead, IsFieldHead, Within, Spells, AllSpell, PairsSpell, SpellsFields}
use Rattle.thrift_compact.specs.Proper.{AllOfKind, PairsOfKinds, ids_of, AreNew, IsSmall, IsProper, AllProper, PairsProper, FieldsProper, FitsTypes, AllFit, PairsFit, FieldsFit}
use Rattle.thrift_compact.specs.Spelled.{AreBytes}
use Rattle.thrift_compact.specs.Reading.{zigzag, signed_byte, small_id}
use Rattle.thrift_compact.specs.Spelling.{element_kind}
use Rattle.thrift_compact.specs.Tree.{Tree, truth, int8, int16, int32, int64, double, binary, list, set, map, struct, Trees, no_trees, tree, Pairs, no_pairs, pair, Fields, no_fields, field, count, kind_of_tree}
use Rattle.thrift_compact.proofs.KindOfRead.{spelled_kind}

-- the kind, with True for both kinds of booleans
abbrev one_kind : TKind → TKind
one_kind kind.False = kind.True
one_kind k = k

element_kind_is : (t : Tree) → element_kind t ≡ one_kind (kind_of_tree t)
element_kind_is (truth true) = refl
element_kind_is (truth false) = refl
element_kind_is (int8 z) = refl
element_kind_is (int16 z) = refl
element_kind_is (int32 z) = refl
element_kind_is (int64 z) = refl
element_kind_is (double bytes) = refl
element_kind_is (binary bytes) = refl
element_kind_is (list ts) = refl
element_kind_is (set ts) = refl
element_kind_is (map ps) = refl
element_kind_is (struct fs) = refl

-- an element, key or value of a map is a boolean where the kind is one of booleans, and else is spelled as in a field
data InPlace (depth : ℕ) (k : TKind) (t : Tree) (bs : List ℕ) : Type 0 where
  a_truth : (b : Bool) → t ≡ truth b → kind.True ≡ one_kind k → InPlace depth k t bs
  another : Spells depth k t bs → InPlace depth k t bs

true_place : (depth : ℕ) (t : Tree) (bs : List ℕ) → Within kind.True t bs (Spells depth kind.True t bs) → InPlace depth kind.True t bs
true_place depth (truth b) bs within = a_truth b refl refl
true_place depth t bs within = absurd within

false_place : (depth : ℕ) (t : Tree) (bs : List ℕ) → Within kind.False t bs (Spells depth kind.False t bs) → InPlace depth kind.False t bs
false_place depth (truth b) bs within = a_truth b refl refl
false_place depth t bs within = absurd within

in_place : (depth : ℕ) (k : TKind) (t : Tree) (bs : List ℕ) → Within k t bs (Spells depth k t bs) → InPlace depth k t bs
in_place depth kind.True t bs within = true_place depth t bs within
in_place depth kind.False t bs within = false_place depth t bs within
in_place depth k t bs within = another within

place_kind : (depth : ℕ) (k : TKind) (t : Tree) (bs : List ℕ) → InPlace depth k t bs → element_kind t ≡ one_kind k
place_kind depth k t bs (a_truth b is same) = ap element_kind is ∙ same
place_kind depth k t bs (another spells) = element_kind_is t ∙ ap one_kind (spelled_kind t depth k bs spells)

place_proper : (depth : ℕ) (k : TKind) (t : Tree) (bs : List ℕ) → InPlace depth k t bs → (Spells depth k t bs → IsProper depth t) → IsProper depth t
place_proper depth k t bs (a_truth b is same) other = subst (IsProper depth) (sym is) tt
place_proper depth k t bs (another spells) other = other spells

place_fits : (depth : ℕ) (k : TKind) (t : Tree) (bs : List ℕ) → InPlace depth k t bs → (Spells depth k t bs → FitsTypes t) → FitsTypes t
place_fits depth k t bs (a_truth b is same) other = subst FitsTypes (sym is) tt
place_fits depth k t bs (another spells) other = other spells

-- the elements of a list are of one kind, and so are keys and values
all_of_kind : (depth : ℕ) (k : TKind) (ts : Trees) (bs : List ℕ) → AllSpell depth k ts bs → AllOfKind (one_kind k) ts
all_of_kind depth k no_trees bs spells = tt
all_of_kind depth k (tree t ts) bs (front, others, within, rest, parts) =
    (place_kind depth k t front (in_place depth k t front within), all_of_kind depth k ts others rest)

pairs_of_kinds : (depth : ℕ) (key_kind value_kind : TKind) (ps : Pairs) (bs : List ℕ) → PairsSpell depth key_kind value_kind ps bs → PairsOfKinds (one_kind key_kind) (one_kind value_kind) ps
pairs_of_kinds depth key_kind value_kind no_pairs bs spells = tt
pairs_of_kinds depth key_kind value_kind (pair key value ps) bs (front, middle, others, first, second, rest, parts) = (
  place_kind depth key_kind key front (in_place depth key_kind key front first),
  place_kind depth value_kind value middle (in_place depth value_kind value middle second),
  pairs_of_kinds depth key_kind value_kind ps others rest,
)

-- the number of elements in the head of a list is within the limit
small_count : (k : TKind) (n : ℕ) (bs : List ℕ) → IsListHead k n bs → IsSmall n
small_count k n bs (inl short) = let below : n < 15 = short.0 in omega arith
small_count k n bs (inr (size, is, parts)) = is.below

new_ids : (depth : ℕ) (ids : List ℤ) (fs : Fields) (bs : List ℕ) → SpellsFields depth ids fs bs → AreNew ids (ids_of fs)
new_ids depth ids no_fields bs spells = tt
new_ids depth ids (field id t fs) bs (k, head, body, others, named, value, rest, parts) = (named.0, new_ids depth (ids ++ id ∷ []) fs others rest)

mutual
  pub proper_from : (t : Tree) (depth : ℕ) (k : TKind) (bs : List ℕ) → Spells depth k t bs → IsProper depth t
  proper_from (truth true) depth k bs spells = tt
  proper_from (truth false) depth k bs spells = tt
  proper_from (int8 z) depth k bs spells = tt
  proper_from (int16 z) depth k bs spells = tt
  proper_from (int32 z) depth k bs spells = tt
  proper_from (int64 z) depth k bs spells = tt
  proper_from (double bytes) depth k bs spells = tt
  proper_from (binary bytes) depth k bs (is, size, sized, parts) = sized.below
  proper_from (list ts) depth k bs (is, inner, deep, (e, head, body, named, all, parts)) =
      (inner, deep, small_count e (count ts) head named, (one_kind e, all_of_kind inner e ts body all), all_proper ts inner e body all)
  proper_from (set ts) depth k bs (is, inner, deep, (e, head, body, named, all, parts)) =
      (inner, deep, small_count e (count ts) head named, (one_kind e, all_of_kind inner e ts body all), all_proper ts inner e body all)
  proper_from (map no_pairs) depth k bs (is, inner, deep, (size, rest, sized, body, parts)) =
      (inner, deep, sized.below, (kind.True, kind.True, tt), tt)
  proper_from (map (pair key value ps)) depth k bs (is, inner, deep, (size, rest, sized, (key_kind, value_kind, body, all, named), parts)) = (
    inner,
    deep,
    sized.below,
    (one_kind key_kind, one_kind value_kind, pairs_of_kinds inner key_kind value_kind (pair key value ps) body all),
    pairs_proper (pair key value ps) inner key_kind value_kind body all,
  )
  proper_from (struct fs) depth k bs (is, inner, deep, spells) = (inner, deep, new_ids inner [] fs bs spells, fields_proper fs inner [] bs spells)

  all_proper : (ts : Trees) (depth : ℕ) (k : TKind) (bs : List ℕ) → AllSpell depth k ts bs → AllProper depth ts
  all_proper no_trees depth k bs spells = tt
  all_proper (tree t ts) depth k bs (front, others, within, rest, parts) =
      (place_proper depth k t front (in_place depth k t front within) (λ spells. proper_from t depth k front spells), all_proper ts depth k others rest)

  pairs_proper : (ps : Pairs) (depth : ℕ) (key_kind value_kind : TKind) (bs : List ℕ) → PairsSpell depth key_kind value_kind ps bs → PairsProper depth ps
  pairs_proper no_pairs depth key_kind value_kind bs spells = tt
  pairs_proper (pair key value ps) depth key_kind value_kind bs (front, middle, others, first, second, rest, parts) = (
    place_proper depth key_kind key front (in_place depth key_kind key front first) (λ spells. proper_from key depth key_kind front spells),
    place_proper depth value_kind value middle (in_place depth value_kind value middle second) (λ spells. proper_from value depth value_kind middle spells),
    pairs_proper ps depth key_kind value_kind others rest,
  )

  fields_proper : (fs : Fields) (depth : ℕ) (ids : List ℤ) (bs : List ℕ) → SpellsFields depth ids fs bs → FieldsProper depth fs
  fields_proper no_fields depth ids bs spells = tt
  fields_proper (field id t fs) depth ids bs (k, head, body, others, named, value, rest, parts) =
      (proper_from t depth k body value, fields_proper fs depth (ids ++ id ∷ []) others rest)

-- if all numbers in a list are bytes, so are those in a prefix and in a suffix
at_front : (x : ℕ) (a : List ℕ) (i : ℕ) → x < 256 → AreBytes a → slice_index (x ∷ a) i < 256
at_front x a zero first rest = first
at_front x a (suc i) first rest = rest i

bytes_front : (a b : List ℕ) → AreBytes (a ++ b) → AreBytes a
bytes_front [] b all = λ i. omega arith
bytes_front (x ∷ a) b all = λ i. at_front x a i (all 0) (bytes_front a b (λ j. all (suc j)))

bytes_back : (a b : List ℕ) → AreBytes (a ++ b) → AreBytes b
bytes_back [] b all = all
bytes_back (x ∷ a) b all = bytes_back a b (λ j. all (suc j))

-- integers that are read are in the ranges of their types
byte_fits : (b : ℕ) → b < 256 → FitsSigned w8 (signed_byte b)
byte_fits b below =
    elim (cases_lt b 128) [
      | inl low ↦ subst (λ t. FitsSigned w8 (if t then pos b else negsuc (255 - b))) (sym (lt-ltb b 128 low)) (record { sfits = low })
      | inr high ↦ subst (λ t. FitsSigned w8 (if t then pos b else negsuc (255 - b))) (sym (le-ltb b 128 high)) (record { sfits = omega arith })
    ]

int16_fits : (n : ℕ) → n < 65536 → FitsSigned w16 (zigzag n)
int16_fits n below = elim (n % 2 == 0) as (λ t. FitsSigned w16 (if t then pos (n / 2) else negsuc (n / 2))) [ true ↦ record { sfits = omega arith } | false ↦ record { sfits = omega arith } ]

int32_fits : (n : ℕ) → n < 4294967296 → FitsSigned w32 (zigzag n)
int32_fits n below = elim (n % 2 == 0) as (λ t. FitsSigned w32 (if t then pos (n / 2) else negsuc (n / 2))) [ true ↦ record { sfits = omega arith } | false ↦ record { sfits = omega arith } ]

int64_fits : (n : ℕ) → n < 18446744073709551616 → FitsSigned w64 (zigzag n)
int64_fits n below = elim (n % 2 == 0) as (λ t. FitsSigned w64 (if t then pos (n / 2) else negsuc (n / 2))) [ true ↦ record { sfits = omega arith } | false ↦ record { sfits = omega arith } ]

small_fits : (id : ℤ) → small_id id ≡ true → FitsSigned w16 id
small_fits (pos n) small = let below : n ≤ 32767 = grind arith in record { sfits = omega arith }
small_fits (negsuc n) small = let below : n ≤ 32767 = grind arith in record { sfits = omega arith }

id_fits : (ids : List ℤ) (id : ℤ) (k : TKind) (bs : List ℕ) → IsFieldHead ids id k bs → FitsSigned w16 id
id_fits ids id k bs (new, inl (delta, low, high, is, small, parts)) = small_fits id small
id_fits ids id k bs (new, inr (number, (n, below, is), parts)) = subst (FitsSigned w16) (sym is) (int16_fits n below.below)

mutual
  pub fits_from : (t : Tree) (depth : ℕ) (k : TKind) (bs : List ℕ) → AreBytes bs → Spells depth k t bs → FitsTypes t
  fits_from (truth true) depth k bs bytes spells = tt
  fits_from (truth false) depth k bs bytes spells = tt
  fits_from (int8 z) depth k bs bytes (is, b, below, value, parts) = subst (FitsSigned w8) (sym value) (byte_fits b below)
  fits_from (int16 z) depth k bs bytes (is, (n, below, value)) = subst (FitsSigned w16) (sym value) (int16_fits n below.below)
  fits_from (int32 z) depth k bs bytes (is, (n, below, value)) = subst (FitsSigned w32) (sym value) (int32_fits n below.below)
  fits_from (int64 z) depth k bs bytes (is, (n, below, value)) = subst (FitsSigned w64) (sym value) (int64_fits n below.below)
  fits_from (double eight) depth k bs bytes (is, length_is, parts) = (length_is, subst AreBytes parts bytes)
  fits_from (binary content) depth k bs bytes (is, size, sized, parts) = bytes_back size content (subst AreBytes parts bytes)
  fits_from (list ts) depth k bs bytes (is, inner, deep, (e, head, body, named, all, parts)) =
      all_fit ts inner e body (bytes_back head body (subst AreBytes parts bytes)) all
  fits_from (set ts) depth k bs bytes (is, inner, deep, (e, head, body, named, all, parts)) =
      all_fit ts inner e body (bytes_back head body (subst AreBytes parts bytes)) all
  fits_from (map no_pairs) depth k bs bytes spells = tt
  fits_from (map (pair key value ps)) depth k bs bytes (is, inner, deep, (size, rest, sized, (key_kind, value_kind, body, all, named), parts)) =
      let after : AreBytes rest = bytes_back size rest (subst AreBytes parts bytes) in
      pairs_fit (pair key value ps) inner key_kind value_kind body (bytes_back (_ ∷ []) body (subst AreBytes named after)) all
  fits_from (struct fs) depth k bs bytes (is, inner, deep, spells) = fields_fit fs inner [] bs bytes spells

  all_fit : (ts : Trees) (depth : ℕ) (k : TKind) (bs : List ℕ) → AreBytes bs → AllSpell depth k ts bs → AllFit ts
  all_fit no_trees depth k bs bytes spells = tt
  all_fit (tree t ts) depth k bs bytes (front, others, within, rest, parts) =
      let both : AreBytes (front ++ others) = subst AreBytes parts bytes in (
        place_fits depth k t front (in_place depth k t front within) (λ spells. fits_from t depth k front (bytes_front front others both) spells),
        all_fit ts depth k others (bytes_back front others both) rest,
      )

  pairs_fit : (ps : Pairs) (depth : ℕ) (key_kind value_kind : TKind) (bs : List ℕ) → AreBytes bs → PairsSpell depth key_kind value_kind ps bs → PairsFit ps
  pairs_fit no_pairs depth key_kind value_kind bs bytes spells = tt
  pairs_fit (pair key value ps) depth key_kind value_kind bs bytes (front, middle, others, first, second, rest, parts) =
      let all : AreBytes (front ++ (middle ++ others)) = subst AreBytes parts bytes in
      let after : AreBytes (middle ++ others) = bytes_back front (middle ++ others) all in (
        place_fits depth key_kind key front (in_place depth key_kind key front first) (λ spells. fits_from key depth key_kind front (bytes_front front (middle ++ others) all) spells),
        place_fits depth value_kind value middle (in_place depth value_kind value middle second) (λ spells. fits_from value depth value_kind middle (bytes_front middle others after) spells),
        pairs_fit ps depth key_kind value_kind others (bytes_back middle others after) rest,
      )

  fields_fit : (fs : Fields) (depth : ℕ) (ids : List ℤ) (bs : List ℕ) → AreBytes bs → SpellsFields depth ids fs bs → FieldsFit fs
  fields_fit no_fields depth ids bs bytes spells = tt
  fields_fit (field id t fs) depth ids bs bytes (k, head, body, others, named, value, rest, parts) =
      let after : AreBytes (body ++ others) = bytes_back head (body ++ others) (subst AreBytes parts bytes) in (
        id_fits ids id k head named,
        fits_from t depth k body (bytes_front body others after) value,
        fields_fit fs depth (ids ++ id ∷ []) others (bytes_back body others after) rest,
      )
