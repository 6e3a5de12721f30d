-- A list of structs, written item by item.
use Rattle.std.proofs.Common.{◌≡◌, ℕ, zero, suc, ◌<◌, get_or, drop, map, ◌+◌, ◌-◌, ◌≤◌, ℤ, arith, List, [], ◌∷◌, ◌++◌, append_assoc, append-nil, length, refl, sym, ◌∙◌, ap, subst, Some}
use Rattle.std.proofs.Math.Seq.{drop-cons}
use Rattle.std.proofs.Math.Numerals.{add-one}
use Rattle.std.proofs.lemmas.List.{drop_all}
use Rattle.thrift_compact.specs.declared.kind.TKind.{TKind}
use Rattle.thrift_compact.specs.declared.kind.TKind.TheVariants as kind
use Rattle.thrift_compact.specs.declared.writer.Part.{Part}
use Rattle.thrift_compact.specs.declared.writer.Part.TheVariants as part
use Rattle.thrift_compact.specs.Calls as call
use Rattle.thrift_compact.specs.Spelling.{spelling, items_spelling, items_kind, field_head_of, list_head_of}
use Rattle.thrift_compact.specs.Tree.{struct, list, Fields, count}
use Rattle.thrift_compact.specs.Writing.{Draft, after, resumed, around, with_item, id_before, named_kind, Awaits}
use Rattle.thrift_compact.proofs.Written.{draft, past_value}
use Rattle.parquet_types.specs.declared.plan.WrittenGroup.{WrittenGroup}
use Rattle.parquet_writing.specs.Plans.{structs, row_group, row_groups}
use Rattle.parquet_writing.specs.Putting.{with_value, with_fields}
use Rattle.parquet_writing.proofs.PutFields.{item_written}

pub around_length : (p : Part) (outer : List Part) → length (around p outer) ≤ length outer + 1
around_length part.Start outer = omega arith
around_length part.End outer = omega arith
around_length (part.Struct last) outer = omega arith
around_length (part.List k n) outer = omega arith

item_by : (fs : Fields) (k : TKind) (out : List ℕ) (inner : Part) (outer : List Part) → Awaits k inner
    → after call.struct_end (with_fields fs (after call.struct_begin (draft out inner outer))) ≡ with_item (spelling (struct fs)) (draft out inner outer)
item_by fs k out part.Start outer awaits = absurd awaits
item_by fs k out part.End outer awaits = absurd awaits
item_by fs k out (part.Struct last) outer awaits = absurd awaits
item_by fs k out (part.List items n) outer awaits = item_written fs items n out outer

-- An item is begun, its fields are written, and it is ended.
pub item_put :
    (fs : Fields) (k : TKind) (d begun filled over : Draft)
    → Awaits k d.inner → begun ≡ after call.struct_begin d → filled ≡ with_fields fs begun → over ≡ after call.struct_end filled
    → over ≡ with_item (spelling (struct fs)) d
item_put fs k d begun filled over awaits first second third =
    third ∙ (ap (after call.struct_end) (second ∙ ap (with_fields fs) first) ∙ item_by fs k d.out d.inner d.outer awaits)

-- The structs `fss` of a list are still to be written, which then gives `target`; `room` is the depth of the list.
pub record StillToWrite (fss : List Fields) (target : Draft) (room : ℕ) (now : Draft) : Type 0 where
  pub out : List ℕ
  pub outer : List Part
  pub is : now ≡ resumed out (part.List kind.Struct (length fss) ∷ outer)
  pub later : resumed (out ++ items_spelling (structs fss)) outer ≡ target
  pub deep : length outer ≡ room

structs_kind : (fss : List Fields) → items_kind (structs fss) ≡ kind.Struct
structs_kind [] = refl
structs_kind (fs ∷ fss) = refl

struct_named : (n : ℕ) → named_kind kind.Struct n ≡ kind.Struct
struct_named zero = refl
struct_named (suc n) = refl

structs_count : (fss : List Fields) → count (structs fss) ≡ length fss
structs_count [] = refl
structs_count (fs ∷ fss) = ap suc (structs_count fss)

pub list_begun :
    (id : ℤ) (fss : List Fields) (d now : Draft) (n : ℕ)
    → n ≡ length fss → now ≡ after (call.list_field id kind.Struct n) d → StillToWrite fss (with_value id (list (structs fss)) d) (length d.outer + 1) now
list_begun id fss d now n counted begun =
    let head = field_head_of (id_before d.inner) id kind.List in
    let named = list_head_of (named_kind kind.Struct n) n in
    let same : named ≡ list_head_of (items_kind (structs fss)) (count (structs fss)) =
    ap (λ k. list_head_of k n) (struct_named n ∙ sym (structs_kind fss)) ∙ ap (list_head_of (items_kind (structs fss))) (counted ∙ sym (structs_count fss)) in
    record {
      out = d.out ++ (head ++ named);
      outer = part.Struct (Some id) ∷ d.outer;
      is = begun ∙ ap (λ m. resumed (d.out ++ (head ++ named)) (part.List kind.Struct m ∷ part.Struct (Some id) ∷ d.outer)) counted;
      later = ap (λ o. draft o (part.Struct (Some id)) d.outer) (past_value d.out head named (items_spelling (structs fss)) ∙ ap (λ h. d.out ++ (head ++ (h ++ items_spelling (structs fss)))) same);
      deep = omega arith;
    }

pub item_awaited : (fs : Fields) (fss : List Fields) (target : Draft) (room : ℕ) (now : Draft) → StillToWrite (fs ∷ fss) target room now → Awaits kind.Struct now.inner
item_awaited fs fss target room now behind = subst (λ d. Awaits kind.Struct d.inner) (sym behind.is) (refl, omega arith)

pub item_deep : (fs : Fields) (fss : List Fields) (target : Draft) (room : ℕ) (now : Draft) → StillToWrite (fs ∷ fss) target room now → length now.outer ≡ room
item_deep fs fss target room now behind = ap (λ d. length d.outer) behind.is ∙ behind.deep

one_fewer : (n : ℕ) → suc n - 1 ≡ n
one_fewer n = omega arith

pub item_behind :
    (fs : Fields) (fss : List Fields) (target : Draft) (room : ℕ) (now next : Draft)
    → StillToWrite (fs ∷ fss) target room now → next ≡ with_item (spelling (struct fs)) now → StillToWrite fss target room next
item_behind fs fss target room now next behind put =
    let n = length fss in
    record {
      out = behind.out ++ spelling (struct fs);
      outer = behind.outer;
      is = put ∙ (ap (with_item (spelling (struct fs))) behind.is ∙ ap (λ m. resumed (behind.out ++ spelling (struct fs)) (part.List kind.Struct m ∷ behind.outer)) (one_fewer n));
      later = ap (λ o. resumed o behind.outer) (append_assoc behind.out (spelling (struct fs)) (items_spelling (structs fss))) ∙ behind.later;
      deep = behind.deep;
    }

pub list_over : (target : Draft) (room : ℕ) (now : Draft) → StillToWrite [] target room now → now ≡ target
list_over target room now behind = behind.is ∙ (ap (λ o. resumed o behind.outer) (sym (append-nil behind.out)) ∙ behind.later)

-- The items from an index on are the item there and those after it.
pub drop_here : {A : Type 0} (xs : List A) (i : ℕ) (x : A) → i < length xs → x ≡ get_or xs i x → drop i xs ≡ x ∷ drop (i + 1) xs
drop_here xs i x within is =
    drop-cons xs i x within ∙ (ap (λ y. y ∷ drop (suc i) xs) (sym is) ∙ ap (λ n. x ∷ drop n xs) (sym (add-one i)))

pub mapped_here :
    {A : Type 0} (f : A → Fields) (xs : List A) (i : ℕ) (x : A) (target : Draft) (room : ℕ) (now : Draft)
    → i < length xs → x ≡ get_or xs i x → StillToWrite (map f (drop i xs)) target room now → StillToWrite (f x ∷ map f (drop (i + 1) xs)) target room now
mapped_here f xs i x target room now within is behind =
    subst (λ fss. StillToWrite fss target room now) (ap (map f) (drop_here xs i x within is)) behind

pub mapped_over :
    {A : Type 0} (f : A → Fields) (xs : List A) (i : ℕ) (target : Draft) (room : ℕ) (now : Draft)
    → length xs ≤ i → StillToWrite (map f (drop i xs)) target room now → now ≡ target
mapped_over f xs i target room now past behind =
    list_over target room now (subst (λ fss. StillToWrite fss target room now) (ap (map f) (drop_all i xs past)) behind)

-- Row groups from a position on, as for other lists.
pub grouped_here :
    (gs : List WrittenGroup) (i : ℕ) (g : WrittenGroup) (target : Draft) (room : ℕ) (now : Draft)
    → i < length gs → g ≡ get_or gs i g → StillToWrite (row_groups i (drop i gs)) target room now → StillToWrite (row_group i g ∷ row_groups (i + 1) (drop (i + 1) gs)) target room now
grouped_here gs i g target room now within is behind =
    subst (λ fss. StillToWrite fss target room now) (ap (row_groups i) (drop_here gs i g within is)) behind

pub grouped_over :
    (gs : List WrittenGroup) (i : ℕ) (target : Draft) (room : ℕ) (now : Draft)
    → length gs ≤ i → StillToWrite (row_groups i (drop i gs)) target room now → now ≡ target
grouped_over gs i target room now past behind =
    list_over target room now (subst (λ fss. StillToWrite fss target room now) (ap (row_groups i) (drop_all i gs past)) behind)

pub groups_length : (position : ℕ) (gs : List WrittenGroup) → length (row_groups position gs) ≡ length gs
groups_length position [] = refl
groups_length position (g ∷ gs) = ap suc (groups_length (position + 1) gs)
