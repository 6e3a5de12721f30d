-- The bytes of a struct's fields and stop byte, as they are written one after the other.
use Rattle.std.proofs.Common.{◌≡◌, ℕ, ℤ, pos, ◌+ℤ◌, ◌<ℤ◌, arith, Bool, true, false, List, [], ◌∷◌, ◌++◌, Option, Some, None, refl, ◌∙◌, ap}
use Rattle.thrift_compact.specs.declared.kind.TKind.{TKind}
use Rattle.thrift_compact.specs.declared.kind.TKind.TheVariants as kind
use Rattle.thrift_compact.specs.declared.writer.Part.{Part}
use Rattle.thrift_compact.specs.declared.writer.Part.TheVariants as part
use Rattle.thrift_compact.specs.Calls as call
use Rattle.thrift_compact.specs.Spelling.{spelling, fields_spelling, field_head_of}
use Rattle.thrift_compact.specs.Tree.{Tree, struct, Fields, no_fields, field, kind_of_tree}
use Rattle.thrift_compact.specs.Writing.{Draft, new_draft, finished, after, resumed, id_before, with_item, Follows, IsStruct}
use Rattle.std.proofs.lemmas.Int.{ints}
use Rattle.thrift_compact.proofs.Written.{draft, past_head, past_value}
use Rattle.parquet_writing.specs.Putting.{with_value, with_fields, IsUpTo}
use Rattle.parquet_writing.specs.Plans.{where_some, where_true}

-- The fields and the stop byte.
pub ended :
    (fs : Fields) (last : Option ℤ) (out : List ℕ) (outer : List Part)
    → after call.struct_end (with_fields fs (draft out (part.Struct last) outer)) ≡ resumed (out ++ fields_spelling (id_before (part.Struct last)) fs) outer
ended no_fields last out outer = refl
ended (field id t fs) last out outer =
    let head = field_head_of (id_before (part.Struct last)) id (kind_of_tree t) in
    ended fs (Some id) (out ++ (head ++ spelling t)) outer ∙ ap (λ o. resumed o outer) (past_value out head (spelling t) (fields_spelling id fs))

-- A struct as a field.
pub field_written : (id : ℤ) (fs : Fields) (d : Draft) → after call.struct_end (with_fields fs (after (call.struct_field id) d)) ≡ with_value id (struct fs) d
field_written id fs d =
    let head = field_head_of (id_before d.inner) id kind.Struct in
    ended fs None (d.out ++ (head ++ [])) (part.Struct (Some id) ∷ d.outer)
    ∙ ap (λ o. draft o (part.Struct (Some id)) d.outer) (past_head d.out head (fields_spelling (pos 0) fs))

-- A struct as an item of a list.
pub item_written :
    (fs : Fields) (k : TKind) (n : ℕ) (out : List ℕ) (outer : List Part)
    → after call.struct_end (with_fields fs (after call.struct_begin (draft out (part.List k n) outer))) ≡ with_item (spelling (struct fs)) (draft out (part.List k n) outer)
item_written fs k n out outer = ended fs None out _

-- A struct that is not inside another value.
pub struct_written : (fs : Fields) → after call.struct_end (with_fields fs (after call.struct_begin new_draft)) ≡ finished (spelling (struct fs))
struct_written fs = ended fs None [] []

-- A struct is begun, its fields are written, and it is ended.
pub field_put :
    (id : ℤ) (fs : Fields) (d begun filled over : Draft)
    → begun ≡ after (call.struct_field id) d → filled ≡ with_fields fs begun → over ≡ after call.struct_end filled → over ≡ with_value id (struct fs) d
field_put id fs d begun filled over first second third =
    third ∙ (ap (after call.struct_end) (second ∙ ap (with_fields fs) first) ∙ field_written id fs d)

pub struct_put :
    (fs : Fields) (start begun filled over : Draft)
    → start ≡ new_draft → begun ≡ after call.struct_begin start → filled ≡ with_fields fs begun → over ≡ after call.struct_end filled → over ≡ finished (spelling (struct fs))
struct_put fs start begun filled over new first second third =
    third ∙ (ap (after call.struct_end) (second ∙ ap (with_fields fs) (first ∙ ap (after call.struct_begin) new)) ∙ struct_written fs)

-- What may follow an id may follow a smaller one.
pub follows_later : (id next : ℤ) (inner : Part) → Follows id inner → id <ℤ next → Follows next inner
follows_later id next (part.Struct None) follows above = tt
follows_later id next (part.Struct (Some last)) follows above = omega (arith, ints, follows, above)
follows_later id next part.Start follows above = absurd follows
follows_later id next part.End follows above = absurd follows
follows_later id next (part.List k n) follows above = absurd follows

-- If fields may follow, a struct is open.
pub in_struct_still : (id : ℤ) (inner : Part) → IsUpTo id inner → IsStruct inner
in_struct_still id (part.Struct last) upto = tt
in_struct_still id part.Start upto = upto (id +ℤ pos 1) (omega (arith, ints))
in_struct_still id part.End upto = upto (id +ℤ pos 1) (omega (arith, ints))
in_struct_still id (part.List k n) upto = upto (id +ℤ pos 1) (omega (arith, ints))

-- An optional field before other fields.
pub some_first : {X : Type 0} (id : ℤ) (value : X → Tree) (o : Option X) (others : Fields) (d : Draft) → with_fields (where_some id value o others) d ≡ with_fields others (with_fields (where_some id value o no_fields) d)
some_first id value None others d = refl
some_first id value (Some x) others d = refl

pub true_first : (id : ℤ) (t : Tree) (flag : Bool) (others : Fields) (d : Draft) → with_fields (where_true id t flag others) d ≡ with_fields others (with_fields (where_true id t flag no_fields) d)
true_first id t false others d = refl
true_first id t true others d = refl
