-- The place of a fault is inside the bytes or at their end.
use Rattle.std.proofs.Common.{◌≡◌, ◌⊎◌, inl, inr, ℕ, zero, suc, ◌+◌, ◌*◌, ◌/◌, ◌%◌, ◌<◌, ◌≤◌, ℤ, List, [], ◌∷◌, ◌++◌, length, ap, arith, length-append}
use Rattle.pme_base.specs.declared.refusal.ThriftFault.{ThriftFault}
use Rattle.pme_base.specs.declared.refusal.ThriftFault.TheVariants.{End, WrongType, Varint, Range, Repeated, Depth}
use Rattle.thrift_compact.specs.declared.kind.TKind.{TKind}
use Rattle.thrift_compact.specs.declared.kind.TKind.TheVariants as kind
use Rattle.thrift_compact.specs.Kinds.{code}
use Rattle.thrift_compact.specs.Tree.{Fields, no_fields, field}
use Rattle.thrift_compact.specs.Reading.{Fault}
use Rattle.thrift_compact.specs.Grammar.{IsSize, IsListHead, IsFieldHead, Spells, AllSpell, PairsSpell}
use Rattle.thrift_compact.specs.Faults.{IsElement, Faultiness, NoByte, TooFew, WrongByte, Later, VarintFault, NumberFault, SizeFault, BinaryFault, TruthFault, IsNoKind, ElementFault, ListHeadFault, no_list_head, no_element_kind, list_size_fault, ItemsFault, ListFault, MapKindsFault, PairFault, PairsFault, MapBodyFault, MapFault, TooFar, FieldHeadFault, no_field_head, no_field_kind, id_fault, id_too_far, id_again, FieldsFault, DepthFault, Faults}

-- every fault of this sort has its place inside the bytes or at their end
abbrev Inside : Faultiness → Type 0
Inside Faulty = (bs : List ℕ) (f : Fault) → Faulty bs f → f.1 ≤ length bs

at : (why : ThriftFault) (left : ℕ) (f : Fault) → f ≡ (why, left) → f.1 ≡ left
at why left f is = ap (λ g. g.1) is

at_end : (bs : List ℕ) (f : Fault) → f ≡ (End, 0) → f.1 ≤ length bs
at_end bs f is = omega (arith, at End 0 f is)

here : (why : ThriftFault) (bs : List ℕ) (f : Fault) → f ≡ (why, length bs) → f.1 ≤ length bs
here why bs f is = omega (arith, at why (length bs) f is)

no_byte : Inside NoByte
no_byte bs f (none, is) = at_end bs f is

wrong_byte : (Wrong : ℕ → Type 0) (why : ThriftFault) → Inside (WrongByte Wrong why)
wrong_byte Wrong why bs f (b, rest, wrong, parts, is) = here why bs f is

later : (Part : List ℕ → Type 0) (Faulty : Faultiness) → Inside Faulty → Inside (Later Part Faulty)
later Part Faulty inside bs f (front, rest, part, parts, fault) = omega (arith, inside rest f fault, ap length parts, length-append front rest)

varint : Inside VarintFault
varint bs f (inl (on, few, is)) = at_end bs f is
varint bs f (inr (nine, rest, tenth, on, count, large, parts, is)) = here Varint bs f is

number : (limit : ℕ) → Inside (NumberFault limit)
number limit bs f (inl v) = varint bs f v
number limit bs f (inr (n, front, rest, whole, large, parts, is)) = here Range bs f is

too_few : (n : ℕ) → Inside (TooFew n)
too_few n bs f (few, is) = at_end bs f is

binary : Inside BinaryFault
binary bs f (inl size) = number 2147483648 bs f size
binary bs f (inr (n, more)) = later (IsSize n) (TooFew n) (too_few n) bs f more

truth : Inside TruthFault
truth bs f (inl none) = no_byte bs f none
truth bs f (inr wrong) = wrong_byte (λ b. 2 < b) WrongType bs f wrong

element : (Faulty : TKind → Faultiness) → ((k : TKind) → Inside (Faulty k)) → (k : TKind) → Inside (ElementFault Faulty k)
element Faulty inside kind.True bs f fault = truth bs f fault
element Faulty inside kind.False bs f fault = truth bs f fault
element Faulty inside k bs f fault = inside k bs f fault

list_head : Inside ListHeadFault
list_head bs f (no_list_head none) = no_byte bs f none
list_head bs f (no_element_kind wrong) = wrong_byte (λ b. IsNoKind (b % 16)) WrongType bs f wrong
list_head bs f (list_size_fault k more) = later (λ front. front ≡ (240 + code k) ∷ []) SizeFault (number 2147483648) bs f more

list : (depth : ℕ) (Faulty : TKind → Faultiness) → ((k : TKind) → Inside (Faulty k)) → Inside (ListFault depth Faulty)
list depth Faulty inside bs f (inl head) = list_head bs f head
list depth Faulty inside bs f (inr (k, n, more)) =
    later (IsListHead k n) (ItemsFault depth Faulty k n) (λ bs f items. later (AllSpell depth k items.0) (ElementFault Faulty k) (element Faulty inside k) bs f items.2) bs f more

pair : (depth : ℕ) (Faulty : TKind → Faultiness) → ((k : TKind) → Inside (Faulty k)) → (key_kind value_kind : TKind) → Inside (PairFault depth Faulty key_kind value_kind)
pair depth Faulty inside key_kind value_kind bs f (inl key) = element Faulty inside key_kind bs f key
pair depth Faulty inside key_kind value_kind bs f (inr (key, more)) =
    later (IsElement depth key_kind key) (ElementFault Faulty value_kind) (element Faulty inside value_kind) bs f more

map_kinds : Inside MapKindsFault
map_kinds bs f (inl none) = no_byte bs f none
map_kinds bs f (inr wrong) = wrong_byte (λ b. IsNoKind (b / 16) ⊎ IsNoKind (b % 16)) WrongType bs f wrong

map_body : (depth : ℕ) (Faulty : TKind → Faultiness) → ((k : TKind) → Inside (Faulty k)) → (n : ℕ) → Inside (MapBodyFault depth Faulty n)
map_body depth Faulty inside n bs f (inl kinds) = map_kinds bs f kinds
map_body depth Faulty inside n bs f (inr (key, one, more)) =
    later (λ front. front ≡ (16 * code key + code one) ∷ []) (PairsFault depth Faulty n key one)
    (λ bs f pairs. later (PairsSpell depth key one pairs.0) (PairFault depth Faulty key one) (pair depth Faulty inside key one) bs f pairs.2) bs f more

map : (depth : ℕ) (Faulty : TKind → Faultiness) → ((k : TKind) → Inside (Faulty k)) → Inside (MapFault depth Faulty)
map depth Faulty inside bs f (inl size) = number 2147483648 bs f size
map depth Faulty inside bs f (inr (n, some, more)) = later (IsSize n) (MapBodyFault depth Faulty n) (map_body depth Faulty inside n) bs f more

field_head : (ids : List ℤ) → Inside (FieldHeadFault ids)
field_head ids bs f (no_field_head none) = no_byte bs f none
field_head ids bs f (no_field_kind wrong) = wrong_byte (λ b. (0 < b) × IsNoKind (b % 16)) WrongType bs f wrong
field_head ids bs f (id_fault k more) = later (λ front. front ≡ code k ∷ []) (NumberFault 65536) (number 65536) bs f more
field_head ids bs f (id_too_far wrong) = wrong_byte (TooFar ids) Range bs f wrong
field_head ids bs f (id_again id k front rest names among parts is) = here Repeated bs f is

fields : (fs : Fields) (depth : ℕ) (Faulty : TKind → Faultiness) → ((k : TKind) → Inside (Faulty k)) → (ids : List ℤ) → Inside (FieldsFault depth Faulty ids fs)
fields no_fields depth Faulty inside ids bs f (inl head) = field_head ids bs f head
fields no_fields depth Faulty inside ids bs f (inr (id, k, more)) = later (IsFieldHead ids id k) (Faulty k) (inside k) bs f more
fields (field id t fs) depth Faulty inside ids bs f (k, more) =
    let Rest = FieldsFault depth Faulty (ids ++ id ∷ []) fs in
    later (IsFieldHead ids id k) (Later (Spells depth k t) Rest) (later (Spells depth k t) Rest (fields fs depth Faulty inside (ids ++ id ∷ []))) bs f more

depth_is_inside : Inside DepthFault
depth_is_inside bs f (inl none) = no_byte bs f none
depth_is_inside bs f (inr deep) = wrong_byte (λ b. Unit {0}) Depth bs f deep

pub place_inside : (depth : ℕ) (k : TKind) (bs : List ℕ) (f : Fault) → Faults depth k bs f → f.1 ≤ length bs
place_inside zero kind.True bs f fault = absurd fault
place_inside zero kind.False bs f fault = absurd fault
place_inside zero kind.I8 bs f fault = no_byte bs f fault
place_inside zero kind.I16 bs f fault = number 65536 bs f fault
place_inside zero kind.I32 bs f fault = number 4294967296 bs f fault
place_inside zero kind.I64 bs f fault = number 18446744073709551616 bs f fault
place_inside zero kind.Double bs f fault = too_few 8 bs f fault
place_inside zero kind.Binary bs f fault = binary bs f fault
place_inside zero k bs f fault = depth_is_inside bs f fault
place_inside (suc depth) kind.True bs f fault = absurd fault
place_inside (suc depth) kind.False bs f fault = absurd fault
place_inside (suc depth) kind.I8 bs f fault = no_byte bs f fault
place_inside (suc depth) kind.I16 bs f fault = number 65536 bs f fault
place_inside (suc depth) kind.I32 bs f fault = number 4294967296 bs f fault
place_inside (suc depth) kind.I64 bs f fault = number 18446744073709551616 bs f fault
place_inside (suc depth) kind.Double bs f fault = too_few 8 bs f fault
place_inside (suc depth) kind.Binary bs f fault = binary bs f fault
place_inside (suc depth) kind.List bs f fault = list depth (Faults depth) (place_inside depth) bs f fault
place_inside (suc depth) kind.Set bs f fault = list depth (Faults depth) (place_inside depth) bs f fault
place_inside (suc depth) kind.Map bs f fault = map depth (Faults depth) (place_inside depth) bs f fault
place_inside (suc depth) kind.Struct bs f (fs, fault) = fields fs depth (Faults depth) (place_inside depth) [] bs f fault
