-- How each call of the writer changes the state of the writer (a draft), and when the call may be made.
use Rattle.std.specs.Prelude.{◌≡◌, ℕ, zero, suc, ◌-◌, ◌<◌, ℤ, pos, ◌<ℤ◌, FitsSigned, List, [], ◌∷◌, ◌++◌, length, Some, None}
use Rattle.std.specs.Int.{w8, w16, w32, w64}
use Rattle.thrift_compact.specs.declared.kind.TKind.{TKind}
use Rattle.thrift_compact.specs.declared.kind.TKind.TheVariants as kind
use Rattle.thrift_compact.specs.declared.writer.Part.{Part}
use Rattle.thrift_compact.specs.declared.writer.Part.TheVariants as part
use Rattle.thrift_compact.specs.Calls as call
use Rattle.thrift_compact.specs.Proper.{IsSmall}
use Rattle.thrift_compact.specs.Spelling.{spelling, field_head_of, list_head_of}
use Rattle.thrift_compact.specs.Tree.{truth, binary, kind_of_tree, whole_tree}

-- the bytes written so far, the innermost open part, and the parts around it, innermost first
pub record Draft : Type 0 where
  pub out : List ℕ
  pub inner : Part
  pub outer : List Part

-- the draft at the beginning
abbrev pub new_draft : Draft
new_draft = record { out = []; inner = part.Start; outer = [] }

-- the draft after the outermost struct has ended
abbrev pub finished : List ℕ → Draft
finished out = record { out = out; inner = part.End; outer = [] }

-- the kind is one of the integer kinds, and the integer is in its range
abbrev pub IsWhole : TKind → ℤ → Type 0
IsWhole kind.I8 z = FitsSigned w8 z
IsWhole kind.I16 z = FitsSigned w16 z
IsWhole kind.I32 z = FitsSigned w32 z
IsWhole kind.I64 z = FitsSigned w64 z
IsWhole k z = ⊥

-- the id from which the next field's distance counts: the last field's, or 0
abbrev pub id_before : Part → ℤ
id_before (part.Struct (Some id)) = id
id_before p = pos 0

-- the kind of the items of a list
abbrev pub item_kind : Part → TKind
item_kind (part.List k n) = k
item_kind p = kind.I64

-- the element kind in the head of a list of n items: Struct for an empty list, and True for booleans
abbrev pub named_kind : TKind → ℕ → TKind
named_kind k zero = kind.Struct
named_kind kind.False (suc n) = kind.True
named_kind k (suc n) = k

-- a list with one item fewer still to be written; other parts are unchanged
abbrev pub one_less : Part → Part
one_less (part.List k n) = part.List k (n - 1)
one_less p = p

-- the parts around a struct that begins inside this part; a struct in a list is counted as written when it begins
abbrev pub around : Part → List Part → List Part
around part.Start outer = outer
around p outer = one_less p ∷ outer

-- the draft whose innermost part is the first that isn't a completed list
abbrev pub resumed : List ℕ → List Part → Draft
resumed out [] = finished out
resumed out (part.List k zero ∷ outer) = resumed out outer
resumed out (p ∷ outer) = record { out = out; inner = p; outer = outer }

-- the draft after a field of the innermost struct: its head, and the bytes of its value
abbrev pub with_field : ℤ → TKind → List ℕ → Draft → Draft
with_field id k value d =
    record { out = d.out ++ (field_head_of (id_before d.inner) id k ++ value); inner = part.Struct (Some id); outer = d.outer }

-- the draft after an item of the innermost list
abbrev pub with_item : List ℕ → Draft → Draft
with_item value d = resumed (d.out ++ value) (one_less d.inner ∷ d.outer)

-- the draft in a struct that has no fields yet, inside these parts
abbrev pub in_struct : List ℕ → List Part → Draft
in_struct out outer = record { out = out; inner = part.Struct None; outer = outer }

-- the draft in a list of n items of kind k, inside the innermost part
abbrev pub in_list : TKind → ℕ → Draft → Draft
in_list k n d = resumed d.out (part.List k n ∷ d.inner ∷ d.outer)

-- the draft after a call
abbrev pub after : call.Call → Draft → Draft
after call.struct_begin d = in_struct d.out (around d.inner d.outer)
after (call.whole id k z) d = with_field id k (spelling (whole_tree k z)) d
after (call.truth id t) d = with_field id (kind_of_tree (truth t)) [] d
after (call.binary id bytes) d = with_field id kind.Binary (spelling (binary bytes)) d
after (call.struct_field id) d =
    let head = with_field id kind.Struct [] d in in_struct head.out (head.inner ∷ head.outer)
after (call.list_field id k n) d = in_list k n (with_field id kind.List (list_head_of (named_kind k n) n) d)
after (call.item_whole z) d = with_item (spelling (whole_tree (item_kind d.inner) z)) d
after (call.item_binary bytes) d = with_item (spelling (binary bytes)) d
after call.struct_end d = resumed (d.out ++ 0 ∷ []) d.outer

-- the part is a struct whose last id, if it has one, is less than this one
abbrev pub Follows : ℤ → Part → Type 0
Follows id (part.Struct None) = Unit {0}
Follows id (part.Struct (Some last)) = last <ℤ id
Follows id p = ⊥

-- the part is a list of this kind with items still to be written
abbrev pub Awaits : TKind → Part → Type 0
Awaits k (part.List items n) = (items ≡ k) × (0 < n)
Awaits k p = ⊥

-- a struct may begin in the part: the outermost struct, or an item of a list of structs
abbrev pub MayBegin : Part → Type 0
MayBegin part.Start = Unit {0}
MayBegin p = Awaits kind.Struct p

abbrev pub IsStruct : Part → Type 0
IsStruct (part.Struct last) = Unit {0}
IsStruct p = ⊥

-- fewer than 32 structs and lists are open
abbrev pub HasRoom : Draft → Type 0
HasRoom d = length d.outer < 31

-- a call may be made
abbrev pub May : call.Call → Draft → Type 0
May call.struct_begin d = MayBegin d.inner × HasRoom d
May (call.whole id k z) d = Follows id d.inner × IsWhole k z
May (call.truth id t) d = Follows id d.inner
May (call.binary id bytes) d = Follows id d.inner × IsSmall (length bytes)
May (call.struct_field id) d = Follows id d.inner × HasRoom d
May (call.list_field id k n) d = Follows id d.inner × HasRoom d × IsSmall n
May (call.item_whole z) d = Awaits (item_kind d.inner) d.inner × IsWhole (item_kind d.inner) z
May (call.item_binary bytes) d = Awaits kind.Binary d.inner × IsSmall (length bytes)
May call.struct_end d = IsStruct d.inner
