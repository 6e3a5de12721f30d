-- Reading the compact protocol, as functions on the unread bytes. Each returns a value and the bytes after it, or a fault
-- with the number of bytes from its place to the end. The parts are read from left to right, so the fault with the least
-- offset is reported, and at one place the first test that fails decides.
use Rattle.std.specs.Prelude.{ℕ, zero, suc, ◌+◌, ◌-◌, ◌*◌, ◌/◌, ◌%◌, ℤ, pos, negsuc, ◌+ℤ◌, int_le, Bool, true, false, nat_lt, ◌==◌, ◌&&◌, ◌||◌, if◌then◌else◌, List, [], ◌∷◌, ◌++◌, length, take, drop, slice_get, unwrap_or, Option, Some, None, Result, Ok, Err}
use Rattle.pme_base.specs.declared.refusal.ThriftFault.{ThriftFault}
use Rattle.pme_base.specs.declared.refusal.ThriftFault.TheVariants.{End, WrongType, Varint, Range, Repeated, Depth}
use Rattle.pme_base.specs.Steps.{◌>>=◌}
use Rattle.thrift_compact.specs.declared.kind.TKind.{TKind}
use Rattle.thrift_compact.specs.declared.kind.TKind.TheVariants as kind
use Rattle.thrift_compact.specs.Kinds.{of_code}
use Rattle.thrift_compact.specs.Tree.{Tree, truth, int8, int16, int32, int64, double, binary, list, set, map, struct, Trees, no_trees, tree, Pairs, no_pairs, pair, Fields, no_fields, field}

-- a fault, and the number of bytes from its place to the end
abbrev pub Fault : Type 0
Fault = ThriftFault × ℕ

abbrev pub Read : Type 0 → Type 0
Read A = List ℕ → Result (A × List ℕ) Fault

-- one byte
abbrev pub byte_at : Read ℕ
byte_at [] = Err (End, 0)
byte_at (b ∷ bs) = Ok (b, bs)

-- n bytes
abbrev pub bytes_at : ℕ → Read (List ℕ)
bytes_at n bs = if nat_lt (length bs) n then Err (End, 0) else Ok (take n bs, drop n bs)

-- a varint: seven bits per byte, least significant first, with the high bit set if another byte follows. It has at most
-- ten bytes and 64 bits. `start` is the number of bytes from its first byte to the end, and `more` is how many bytes may
-- follow this one.
unfoldable pub varint_within : ℕ → ℕ → Read ℕ
varint_within start more [] = Err (End, 0)
varint_within start zero (b ∷ bs) = if nat_lt b 2 then Ok (b, bs) else Err (Varint, start)
varint_within start (suc more) (b ∷ bs) =
    if nat_lt b 128 then Ok (b, bs)
    else (varint_within start more bs >>= λ high. Ok (b - 128 + 128 * high.0, high.1))

abbrev pub varint_at : Read ℕ
varint_at bs = varint_within (length bs) 9 bs

-- the integer of a zigzag number: 0, 1, 2, 3 stand for 0, -1, 1, -2
abbrev pub zigzag : ℕ → ℤ
zigzag n = if n % 2 == 0 then pos (n / 2) else negsuc (n / 2)

-- an integer as a zigzag varint below the limit
abbrev pub number_at : ℕ → Read ℤ
number_at limit bs = do
  n ← varint_at bs
  if nat_lt n.0 limit then Ok (zigzag n.0, n.1) else Err (Range, length bs)

abbrev pub int16_at : Read ℤ
int16_at = number_at 65536

abbrev pub int32_at : Read ℤ
int32_at = number_at 4294967296

abbrev pub int64_at : Read ℤ
int64_at = number_at 18446744073709551616

-- a size or a length
abbrev pub size_at : Read ℕ
size_at bs = do
  n ← varint_at bs
  if nat_lt n.0 2147483648 then Ok n else Err (Range, length bs)

-- a byte in two's complement
abbrev pub signed_byte : ℕ → ℤ
signed_byte b = if nat_lt b 128 then pos b else negsuc (255 - b)

abbrev pub int8_at : Read ℤ
int8_at bs = do
  b ← byte_at bs
  Ok (signed_byte b.0, b.1)

abbrev pub binary_at : Read (List ℕ)
binary_at bs = do
  n ← size_at bs
  bytes_at n.0 n.1

-- the kind, or WrongType if there is none; `left` is the number of bytes from the type code's byte to the end
abbrev pub known_kind : ℕ → Option TKind → Result TKind Fault
known_kind left (Some k) = Ok k
known_kind left None = Err (WrongType, left)

-- a boolean in a list, a set or a map
abbrev pub truth_at : Read Bool
truth_at bs = do
  b ← byte_at bs
  if nat_lt b.0 3 then Ok (b.0 == 1, b.1) else Err (WrongType, length bs)

-- the number of elements of a list or a set whose first byte has the high half n
abbrev pub list_size : ℕ → Read ℕ
list_size n bs = if n == 15 then size_at bs else Ok (n, bs)

-- the head of a list or a set: the kind and the number of its elements
abbrev pub list_head : Read (TKind × ℕ)
list_head bs = do
  b ← byte_at bs
  k ← known_kind (length bs) (of_code (b.0 % 16))
  n ← list_size (b.0 / 16) b.1
  Ok ((k, n.0), n.1)

-- the kinds of the keys and values of a map that isn't empty
abbrev pub map_kinds : Read (TKind × TKind)
map_kinds bs = do
  b ← byte_at bs
  key ← known_kind (length bs) (of_code (b.0 / 16))
  value ← known_kind (length bs) (of_code (b.0 % 16))
  Ok ((key, value), b.1)

-- whether the id is from -32,768 to 32,767
abbrev pub small_id : ℤ → Bool
small_id id = int_le (negsuc 32767) id && int_le id (pos 32767)

abbrev pub same_id : ℤ → ℤ → Bool
same_id a b = int_le a b && int_le b a

abbrev pub is_among : ℤ → List ℤ → Bool
is_among id [] = false
is_among id (other ∷ ids) = same_id other id || is_among id ids

-- the id from which the next field's distance counts: the last field's, or 0
abbrev pub last : List ℤ → ℤ
last ids = unwrap_or (slice_get ids (length ids - 1)) (pos 0)

-- the id of a field: the id before plus the distance, or a zigzag varint where the distance is 0
abbrev pub id_at : ℤ → ℕ → ℕ → Read ℤ
id_at before left delta bs =
    if delta == 0 then int16_at bs
    else if small_id (before +ℤ pos delta) then Ok (before +ℤ pos delta, bs)
    else Err (Range, left)

abbrev pub new_id : ℕ → ℤ → List ℤ → Result ℤ Fault
new_id left id ids = if is_among id ids then Err (Repeated, left) else Ok id

-- the head of the next field after fields with the ids `ids`, or None at the stop byte
abbrev pub head_from : List ℤ → ℕ → ℕ → Read (Option (ℤ × TKind))
head_from ids left b bs =
    if b == 0 then Ok (None, bs)
    else (do
      k ← known_kind left (of_code (b % 16))
      id ← id_at (last ids) left (b / 16) bs
      new ← new_id left id.0 ids
      Ok (Some (new, k), id.1))

abbrev pub field_head : List ℤ → Read (Option (ℤ × TKind))
field_head ids bs = do
  b ← byte_at bs
  head_from ids (length bs) b.0 b.1

-- an element of a list or set, or a key or value of a map; a boolean takes one byte there
abbrev pub element : (TKind → Read Tree) → TKind → Read Tree
element value kind.True bs = do
  b ← truth_at bs
  Ok (truth b.0, b.1)
element value kind.False bs = do
  b ← truth_at bs
  Ok (truth b.0, b.1)
element value k bs = value k bs

abbrev pub elements : Read Tree → ℕ → Read Trees
elements one zero bs = Ok (no_trees, bs)
elements one (suc n) bs = do
  t ← one bs
  ts ← elements one n t.1
  Ok (tree t.0 ts.0, ts.1)

abbrev pub entries : Read Tree → Read Tree → ℕ → Read Pairs
entries key value zero bs = Ok (no_pairs, bs)
entries key value (suc n) bs = do
  k ← key bs
  v ← value k.1
  ps ← entries key value n v.1
  Ok (pair k.0 v.0 ps.0, ps.1)

abbrev pub trees_at : (TKind → Read Tree) → Read Trees
trees_at value bs = do
  h ← list_head bs
  elements (element value h.0.0) h.0.1 h.1

-- an empty map has no byte with kinds
abbrev pub pairs_from : (TKind → Read Tree) → ℕ → Read Pairs
pairs_from value zero bs = Ok (no_pairs, bs)
pairs_from value (suc n) bs = do
  k ← map_kinds bs
  entries (element value k.0.0) (element value k.0.1) (suc n) k.1

abbrev pub pairs_at : (TKind → Read Tree) → Read Pairs
pairs_at value bs = do
  n ← size_at bs
  pairs_from value n.0 n.1

-- the fields of a struct and its stop byte. A field takes at least one byte, so the number of bytes bounds the recursion.
abbrev pub after_head : (TKind → Read Tree) → (List ℤ → Read Fields) → List ℤ → Option (ℤ × TKind) → Read Fields
after_head value others ids None bs = Ok (no_fields, bs)
after_head value others ids (Some head) bs = do
  t ← value head.1 bs
  fs ← others (ids ++ head.0 ∷ []) t.1
  Ok (field head.0 t.0 fs.0, fs.1)

abbrev pub fields : (TKind → Read Tree) → ℕ → List ℤ → Read Fields
fields value zero ids bs = Err (End, 0)
fields value (suc n) ids bs = do
  h ← field_head ids bs
  after_head value (fields value n) ids h.0 h.1

abbrev pub fields_at : (TKind → Read Tree) → Read Fields
fields_at value bs = fields value (length bs) [] bs

-- the fault where 32 structs, lists, sets and maps are open and another one begins
abbrev pub too_deep : {A : Type 0} → Read A
too_deep [] = Err (End, 0)
too_deep (b ∷ bs) = Err (Depth, suc (length bs))

-- the readings of the containers: lists and sets, maps, and structs
pub record Nest : Type 0 where
  pub trees : Read Trees
  pub pairs : Read Pairs
  pub fields : Read Fields

abbrev pub as_tree : {A : Type 0} → (A → Tree) → Read A → Read Tree
as_tree make part bs = do
  x ← part bs
  Ok (make x.0, x.1)

-- a field's value of a kind; a boolean takes no byte there
abbrev pub value_with : Nest → TKind → Read Tree
value_with inner kind.True bs = Ok (truth true, bs)
value_with inner kind.False bs = Ok (truth false, bs)
value_with inner kind.I8 bs = as_tree int8 int8_at bs
value_with inner kind.I16 bs = as_tree int16 int16_at bs
value_with inner kind.I32 bs = as_tree int32 int32_at bs
value_with inner kind.I64 bs = as_tree int64 int64_at bs
value_with inner kind.Double bs = as_tree double (bytes_at 8) bs
value_with inner kind.Binary bs = as_tree binary binary_at bs
value_with inner kind.List bs = as_tree list inner.trees bs
value_with inner kind.Set bs = as_tree set inner.trees bs
value_with inner kind.Map bs = as_tree map inner.pairs bs
value_with inner kind.Struct bs = as_tree struct inner.fields bs

abbrev pub nest_in : (TKind → Read Tree) → Nest
nest_in value = record { trees = trees_at value; pairs = pairs_at value; fields = fields_at value }

-- the readings of the containers where `depth` levels of structs, lists, sets and maps may be opened
abbrev pub nest : ℕ → Nest
nest zero = record { trees = too_deep; pairs = too_deep; fields = too_deep }
nest (suc depth) = nest_in (value_with (nest depth))

abbrev pub value : ℕ → TKind → Read Tree
value depth = value_with (nest depth)

-- the outermost struct
abbrev pub whole_struct : Read Fields
whole_struct = (nest 32).fields
