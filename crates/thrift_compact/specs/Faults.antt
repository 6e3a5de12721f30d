-- The faults of bytes that don't begin with a spelling: some parts are spelled, and the part after them has a fault. The
-- place of a fault is given as the number of bytes from there to the end.
use Rattle.std.specs.Prelude.{◌≡◌, ◌⊎◌, ℕ, zero, suc, ◌+◌, ◌*◌, ◌/◌, ◌%◌, ◌<◌, ◌≤◌, ℤ, pos, ◌+ℤ◌, true, false, List, [], ◌∷◌, ◌++◌, length}
use Rattle.pme_base.specs.declared.refusal.ThriftFault.{ThriftFault}
use Rattle.pme_base.specs.declared.refusal.ThriftFault.TheVariants.{End, WrongType, Varint, Range, Repeated, Depth}
use Rattle.thrift_compact.specs.declared.kind.TKind.{TKind}
use Rattle.thrift_compact.specs.declared.kind.TKind.TheVariants as kind
use Rattle.thrift_compact.specs.Kinds.{code}
use Rattle.thrift_compact.specs.Reading.{Fault, small_id, is_among, last}
use Rattle.thrift_compact.specs.Tree.{Tree, Trees, Pairs, Fields, no_fields, field, count, pair_count}
use Rattle.thrift_compact.specs.Grammar.{IsBelow, IsSize, IsListHead, NamesField, IsFieldHead, Within, Spells, AllSpell, PairsSpell}

-- a relation between bytes and a fault that they have
abbrev pub Faultiness : Type 1
Faultiness = List ℕ → Fault → Type 0

-- there is no byte here
abbrev pub NoByte : Faultiness
NoByte bs f = (bs ≡ []) × (f ≡ (End, 0))

-- there are fewer than n bytes
abbrev pub TooFew : ℕ → Faultiness
TooFew n bs f = (length bs < n) × (f ≡ (End, 0))

-- the first byte is wrong, whatever follows
abbrev pub WrongByte : (ℕ → Type 0) → ThriftFault → Faultiness
WrongByte Wrong why bs f = (b : ℕ) × (rest : List ℕ) × Wrong b × (bs ≡ b ∷ rest) × (f ≡ (why, length bs))

-- the bytes begin with a part, and the bytes after it have the fault
abbrev pub Later : (List ℕ → Type 0) → Faultiness → Faultiness
Later Part Faulty bs f = (front rest : List ℕ) × Part front × (bs ≡ front ++ rest) × Faulty rest f

-- bytes that each have the continuation bit of a varint set
abbrev pub GoOn : List ℕ → Type 0
GoOn [] = Unit {0}
GoOn (b ∷ bs) = (128 ≤ b) × GoOn bs

-- a varint that is cut off, or that has more than ten bytes or more than 64 bits
abbrev pub VarintFault : Faultiness
VarintFault bs f =
    (GoOn bs × (length bs < 10) × (f ≡ (End, 0)))
    ⊎ ((nine rest : List ℕ) × (tenth : ℕ) × GoOn nine × (length nine ≡ 9) × (2 ≤ tenth)
    × (bs ≡ nine ++ tenth ∷ rest) × (f ≡ (Varint, length bs)))

-- the faults of a varint that must be below the limit
abbrev pub NumberFault : ℕ → Faultiness
NumberFault limit bs f =
    VarintFault bs f
    ⊎ ((n : ℕ) × (front rest : List ℕ) × IsBelow 18446744073709551616 n front × (limit ≤ n)
    × (bs ≡ front ++ rest) × (f ≡ (Range, length bs)))

abbrev pub SizeFault : Faultiness
SizeFault = NumberFault 2147483648

abbrev pub BinaryFault : Faultiness
BinaryFault bs f = SizeFault bs f ⊎ ((n : ℕ) × Later (IsSize n) (TooFew n) bs f)

-- a boolean in a list, a set or a map, which takes one byte
abbrev pub TruthFault : Faultiness
TruthFault bs f = NoByte bs f ⊎ WrongByte (λ b. 2 < b) WrongType bs f

-- no kind has this type code
abbrev pub IsNoKind : ℕ → Type 0
IsNoKind n = (n ≡ 0) ⊎ (12 < n)

-- a value of kind k in a list, a set or a map. `Faulty` has the faults of a field's value of a kind.
abbrev pub ElementFault : (TKind → Faultiness) → TKind → Faultiness
ElementFault Faulty kind.True bs f = TruthFault bs f
ElementFault Faulty kind.False bs f = TruthFault bs f
ElementFault Faulty k bs f = Faulty k bs f

-- the head of a list or a set
pub data ListHeadFault (bs : List ℕ) (f : Fault) : Type 0 where
  no_list_head : NoByte bs f → ListHeadFault bs f
  no_element_kind : WrongByte (λ b. IsNoKind (b % 16)) WrongType bs f → ListHeadFault bs f
  list_size_fault : (k : TKind) → Later (λ front. front ≡ (240 + code k) ∷ []) SizeFault bs f → ListHeadFault bs f

-- fewer than n elements are spelled, and the next one has a fault
abbrev pub ItemsFault : ℕ → (TKind → Faultiness) → TKind → ℕ → Faultiness
ItemsFault depth Faulty k n bs f =
    (ts : Trees) × (count ts < n) × Later (AllSpell depth k ts) (ElementFault Faulty k) bs f

abbrev pub ListFault : ℕ → (TKind → Faultiness) → Faultiness
ListFault depth Faulty bs f =
    ListHeadFault bs f ⊎ ((k : TKind) × (n : ℕ) × Later (IsListHead k n) (ItemsFault depth Faulty k n) bs f)

-- the byte with the kinds of a map's keys and values
abbrev pub MapKindsFault : Faultiness
MapKindsFault bs f = NoByte bs f ⊎ WrongByte (λ b. IsNoKind (b / 16) ⊎ IsNoKind (b % 16)) WrongType bs f

abbrev pub IsElement : ℕ → TKind → Tree → List ℕ → Type 0
IsElement depth k t front = Within k t front (Spells depth k t front)

-- the fault of a key, or of the value after it
abbrev pub PairFault : ℕ → (TKind → Faultiness) → TKind → TKind → Faultiness
PairFault depth Faulty key_kind value_kind bs f =
    ElementFault Faulty key_kind bs f
    ⊎ ((key : Tree) × Later (IsElement depth key_kind key) (ElementFault Faulty value_kind) bs f)

-- fewer than n pairs are spelled, and the next one has a fault
abbrev pub PairsFault : ℕ → (TKind → Faultiness) → ℕ → TKind → TKind → Faultiness
PairsFault depth Faulty n key_kind value_kind bs f =
    (ps : Pairs) × (pair_count ps < n)
    × Later (PairsSpell depth key_kind value_kind ps) (PairFault depth Faulty key_kind value_kind) bs f

-- the bytes after the size n of a map
abbrev pub MapBodyFault : ℕ → (TKind → Faultiness) → ℕ → Faultiness
MapBodyFault depth Faulty n bs f =
    MapKindsFault bs f
    ⊎ ((key value : TKind)
    × Later (λ front. front ≡ (16 * code key + code value) ∷ []) (PairsFault depth Faulty n key value) bs f)

abbrev pub MapFault : ℕ → (TKind → Faultiness) → Faultiness
MapFault depth Faulty bs f = SizeFault bs f ⊎ ((n : ℕ) × (0 < n) × Later (IsSize n) (MapBodyFault depth Faulty n) bs f)

-- the first byte of a field's head has a distance by which the id after the last of `ids` doesn't fit 16 bits
abbrev pub TooFar : List ℤ → ℕ → Type 0
TooFar ids b =
    (delta : ℕ) × (k : TKind) × (0 < delta) × (b ≡ 16 * delta + code k) × (small_id (last ids +ℤ pos delta) ≡ false)

-- the head of a field, after fields with the ids `ids`
pub data FieldHeadFault (ids : List ℤ) (bs : List ℕ) (f : Fault) : Type 0 where
  no_field_head : NoByte bs f → FieldHeadFault ids bs f
  no_field_kind : WrongByte (λ b. (0 < b) × IsNoKind (b % 16)) WrongType bs f → FieldHeadFault ids bs f
  id_fault : (k : TKind) → Later (λ front. front ≡ code k ∷ []) (NumberFault 65536) bs f → FieldHeadFault ids bs f
  id_too_far : WrongByte (TooFar ids) Range bs f → FieldHeadFault ids bs f
  id_again : (id : ℤ) (k : TKind) (front rest : List ℕ) → NamesField (last ids) id k front → is_among id ids ≡ true
      → bs ≡ front ++ rest → f ≡ (Repeated, length bs) → FieldHeadFault ids bs f

-- the fields fs are spelled, and the next field or the stop byte has a fault
abbrev pub FieldsFault : ℕ → (TKind → Faultiness) → List ℤ → Fields → Faultiness
FieldsFault depth Faulty ids no_fields bs f =
    FieldHeadFault ids bs f ⊎ ((id : ℤ) × (k : TKind) × Later (IsFieldHead ids id k) (Faulty k) bs f)
FieldsFault depth Faulty ids (field id t fs) bs f =
    (k : TKind)
    × Later (IsFieldHead ids id k) (Later (Spells depth k t) (FieldsFault depth Faulty (ids ++ id ∷ []) fs)) bs f

abbrev pub StructFault : ℕ → (TKind → Faultiness) → Faultiness
StructFault depth Faulty bs f = (fs : Fields) × FieldsFault depth Faulty [] fs bs f

-- a struct, list, set or map begins here, and no level is left for it
abbrev pub DepthFault : Faultiness
DepthFault bs f = NoByte bs f ⊎ WrongByte (λ b. Unit {0}) Depth bs f

-- the faults of a field's value of a kind, where `depth` levels of structs, lists, sets and maps may be opened
abbrev pub Faults : ℕ → TKind → Faultiness
Faults depth kind.True bs f = ⊥
Faults depth kind.False bs f = ⊥
Faults depth kind.I8 bs f = NoByte bs f
Faults depth kind.I16 bs f = NumberFault 65536 bs f
Faults depth kind.I32 bs f = NumberFault 4294967296 bs f
Faults depth kind.I64 bs f = NumberFault 18446744073709551616 bs f
Faults depth kind.Double bs f = TooFew 8 bs f
Faults depth kind.Binary bs f = BinaryFault bs f
Faults zero kind.List bs f = DepthFault bs f
Faults zero kind.Set bs f = DepthFault bs f
Faults zero kind.Map bs f = DepthFault bs f
Faults zero kind.Struct bs f = DepthFault bs f
Faults (suc depth) kind.List bs f = ListFault depth (Faults depth) bs f
Faults (suc depth) kind.Set bs f = ListFault depth (Faults depth) bs f
Faults (suc depth) kind.Map bs f = MapFault depth (Faults depth) bs f
Faults (suc depth) kind.Struct bs f = StructFault depth (Faults depth) bs f

-- the bytes don't begin with a struct: they have the fault `why` at the offset `at`
abbrev pub HasFault : List ℕ → ThriftFault → ℕ → Type 0
HasFault bytes why at = (left : ℕ) × (at + left ≡ length bytes) × Faults 32 kind.Struct bytes (why, left)
