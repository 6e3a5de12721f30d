-- The grammar of the compact protocol: which bytes spell (encode) a tree, by cases on the tree. The bytes of a value are
-- the bytes of its parts, one after another. `depth` is the number of levels of structs, lists, sets and maps that may
-- still be opened.
use Rattle.std.specs.Prelude.{◌≡◌, ◌⊎◌, ℕ, zero, suc, ◌+◌, ◌*◌, ◌<◌, ◌≤◌, ℤ, pos, ◌+ℤ◌, Bool, true, false, List, [], ◌∷◌, ◌++◌, length}
use Rattle.thrift_compact.specs.declared.kind.TKind.{TKind}
use Rattle.thrift_compact.specs.declared.kind.TKind.TheVariants as kind
use Rattle.thrift_compact.specs.Kinds.{code}
use Rattle.thrift_compact.specs.Reading.{zigzag, signed_byte, small_id, is_among, last}
use Rattle.thrift_compact.specs.Tree.{Tree, truth, int8, int16, int32, int64, double, binary, list, set, map, struct, Trees, no_trees, tree, Pairs, no_pairs, pair, Fields, no_fields, field, count, pair_count}

-- a varint of a number: seven bits per byte, least significant first; longer varints than necessary are allowed
abbrev pub IsVarint : List ℕ → ℕ → Type 0
IsVarint [] n = ⊥
IsVarint (b ∷ []) n = (b < 128) × (n ≡ b)
IsVarint (b ∷ c ∷ bs) n =
    (128 ≤ b) × (b < 256) × (high : ℕ) × (n + 128 ≡ b + 128 * high) × IsVarint (c ∷ bs) high

-- a varint of at most ten bytes, of a number below the limit
pub record IsBelow (limit n : ℕ) (bs : List ℕ) : Type 0 where
  pub spelled : IsVarint bs n
  pub short : length bs ≤ 10
  pub below : n < limit

abbrev pub IsSize : ℕ → List ℕ → Type 0
IsSize n bs = IsBelow 2147483648 n bs

-- an integer as a zigzag varint below the limit
abbrev pub IsNumber : ℕ → ℤ → List ℕ → Type 0
IsNumber limit z bs = (n : ℕ) × IsBelow limit n bs × (z ≡ zigzag n)

-- a boolean in a list, a set or a map: 1 is true, 0 and 2 are false
abbrev pub IsTruthByte : Bool → List ℕ → Type 0
IsTruthByte true bs = bs ≡ 1 ∷ []
IsTruthByte false bs = (bs ≡ 0 ∷ []) ⊎ (bs ≡ 2 ∷ [])

-- the head of a list or a set of n elements of kind k
abbrev pub IsListHead : TKind → ℕ → List ℕ → Type 0
IsListHead k n bs =
    ((n < 15) × (bs ≡ (16 * n + code k) ∷ []))
    ⊎ ((size : List ℕ) × IsSize n size × (bs ≡ (240 + code k) ∷ size))

-- a list or a set of n elements; `all` is the relation that bytes spell its elements as values of a kind
abbrev pub IsHeadedList : (TKind → List ℕ → Type 0) → ℕ → List ℕ → Type 0
IsHeadedList all n bs = (k : TKind) × (head body : List ℕ) × IsListHead k n head × all k body × (bs ≡ head ++ body)

-- the bytes after the size n of a map: none if n is 0, else a byte with the kinds of keys and values, and the pairs; `all`
-- is the relation that bytes spell its pairs as keys and values of two kinds
abbrev pub IsMapBody : (TKind → TKind → List ℕ → Type 0) → ℕ → List ℕ → Type 0
IsMapBody all zero bs = bs ≡ []
IsMapBody all (suc n) bs =
    (key value : TKind) × (body : List ℕ) × all key value body × (bs ≡ (16 * code key + code value) ∷ body)

abbrev pub IsMap : (TKind → TKind → List ℕ → Type 0) → ℕ → List ℕ → Type 0
IsMap all n bs = (size rest : List ℕ) × IsSize n size × IsMapBody all n rest × (bs ≡ size ++ rest)

-- the bytes with the id and the kind of a field after the id `before`: one byte with the distance and the kind, or the kind
-- and the id as a zigzag varint
abbrev pub NamesField : ℤ → ℤ → TKind → List ℕ → Type 0
NamesField before id k bs =
    ((delta : ℕ) × (0 < delta) × (delta < 16) × (id ≡ before +ℤ pos delta) × (small_id id ≡ true)
    × (bs ≡ (16 * delta + code k) ∷ []))
    ⊎ ((number : List ℕ) × IsNumber 65536 id number × (bs ≡ code k ∷ number))

-- the head of a field after fields with the ids `ids`, none of which is its own
abbrev pub IsFieldHead : List ℤ → ℤ → TKind → List ℕ → Type 0
IsFieldHead ids id k bs = (is_among id ids ≡ false) × NamesField (last ids) id k bs

-- the bytes spell a value of kind k in a list, a set or a map. `other` says this for a value that isn't a boolean.
abbrev pub Within : TKind → Tree → List ℕ → Type 0 → Type 0
Within kind.True (truth t) bs other = IsTruthByte t bs
Within kind.True _ bs other = ⊥
Within kind.False (truth t) bs other = IsTruthByte t bs
Within kind.False _ bs other = ⊥
Within k t bs other = other

abbrev mutual
  pub Spells : ℕ → TKind → Tree → List ℕ → Type 0
  Spells depth k (truth true) bs = (k ≡ kind.True) × (bs ≡ [])
  Spells depth k (truth false) bs = (k ≡ kind.False) × (bs ≡ [])
  Spells depth k (int8 z) bs = (k ≡ kind.I8) × (b : ℕ) × (b < 256) × (z ≡ signed_byte b) × (bs ≡ b ∷ [])
  Spells depth k (int16 z) bs = (k ≡ kind.I16) × IsNumber 65536 z bs
  Spells depth k (int32 z) bs = (k ≡ kind.I32) × IsNumber 4294967296 z bs
  Spells depth k (int64 z) bs = (k ≡ kind.I64) × IsNumber 18446744073709551616 z bs
  Spells depth k (double bytes) bs = (k ≡ kind.Double) × (length bytes ≡ 8) × (bs ≡ bytes)
  Spells depth k (binary bytes) bs = (k ≡ kind.Binary) × (size : List ℕ) × IsSize (length bytes) size × (bs ≡ size ++ bytes)
  Spells depth k (list ts) bs = (k ≡ kind.List) × (inner : ℕ) × (depth ≡ suc inner) × IsHeadedList (λ e body. AllSpell inner e ts body) (count ts) bs
  Spells depth k (set ts) bs = (k ≡ kind.Set) × (inner : ℕ) × (depth ≡ suc inner) × IsHeadedList (λ e body. AllSpell inner e ts body) (count ts) bs
  Spells depth k (map ps) bs = (k ≡ kind.Map) × (inner : ℕ) × (depth ≡ suc inner) × IsMap (λ key value body. PairsSpell inner key value ps body) (pair_count ps) bs
  Spells depth k (struct fs) bs = (k ≡ kind.Struct) × (inner : ℕ) × (depth ≡ suc inner) × SpellsFields inner [] fs bs

  -- the elements of a list or a set
  pub AllSpell : ℕ → TKind → Trees → List ℕ → Type 0
  AllSpell depth k no_trees bs = bs ≡ []
  AllSpell depth k (tree t ts) bs =
      (front others : List ℕ) × Within k t front (Spells depth k t front) × AllSpell depth k ts others
      × (bs ≡ front ++ others)

  -- the pairs of a map
  pub PairsSpell : ℕ → TKind → TKind → Pairs → List ℕ → Type 0
  PairsSpell depth key_kind value_kind no_pairs bs = bs ≡ []
  PairsSpell depth key_kind value_kind (pair key value ps) bs =
      (front middle others : List ℕ) × Within key_kind key front (Spells depth key_kind key front)
      × Within value_kind value middle (Spells depth value_kind value middle)
      × PairsSpell depth key_kind value_kind ps others × (bs ≡ front ++ (middle ++ others))

  -- the fields after fields with the ids `ids`, and the stop byte
  pub SpellsFields : ℕ → List ℤ → Fields → List ℕ → Type 0
  SpellsFields depth ids no_fields bs = bs ≡ 0 ∷ []
  SpellsFields depth ids (field id t fs) bs =
      (k : TKind) × (head body others : List ℕ) × IsFieldHead ids id k head × Spells depth k t body
      × SpellsFields depth (ids ++ id ∷ []) fs others × (bs ≡ head ++ (body ++ others))
