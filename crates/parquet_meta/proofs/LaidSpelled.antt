-- The spelling of a tree with ascending ids, within the limits, is in the grammar and is read as that tree.
use Rattle.std.proofs.Common.{◌≡◌, ℕ, ◌-◌, ℤ, true, false, List, [], ◌∷◌, ◌++◌, length, length-append, Ok, refl, sym, ◌∙◌, ap, subst, arith}
use Rattle.pme_base.specs.declared.place.Place.{Place}
use Rattle.pme_base.specs.Steps.{◌>>=◌}
use Rattle.thrift_compact.specs.declared.kind.TKind.{TKind}
use Rattle.thrift_compact.specs.declared.kind.TKind.TheVariants as kind
use Rattle.thrift_compact.specs.Grammar.{Spells, AllSpell, SpellsFields, Within}
use Rattle.thrift_compact.specs.Proper.{ids_of, AreNew}
use Rattle.thrift_compact.specs.Reading.{last, whole_struct}
use Rattle.thrift_compact.specs.Spelling.{varint_of, element_kind, items_kind, list_head_of, field_head_of, within, spelling, items_spelling, fields_spelling, below_ids}
use Rattle.thrift_compact.specs.Tree.{Tree, truth, int8, int16, int32, int64, double, binary, list, set, map, struct, Trees, no_trees, tree, Fields, no_fields, field, count, kind_of_tree}
use Rattle.thrift_compact.proofs.Numerals.{int8_is, int16_is, int32_is, int64_is, size_is, list_head_is, field_head_is}
use Rattle.thrift_compact.proofs.Spelled.{last_is, within_is}
use Rattle.thrift_compact.proofs.WholeStruct.{whole_read}
use Rattle.parquet_fields.specs.Calls.{struct_at, at_place, read_at_place}
use Rattle.parquet_fields.specs.Fields.{Checked}
use Rattle.parquet_meta.specs.ReadBack.{NumbersFit, EachFits, FieldsFit, written}
use Rattle.parquet_writing.proofs.Laid.{IsLaid, AreLaid, AllLaid, distinct_ids, laid_canonical, id_fits}

within_kind : (room : ℕ) (t : Tree) (k : TKind) → element_kind t ≡ k → Spells room (kind_of_tree t) t (spelling t) → Within k t (within t (spelling t)) (Spells room k t (within t (spelling t)))
within_kind room t k same spelled = subst (λ k. Within k t (within t (spelling t)) (Spells room k t (within t (spelling t)))) same (within_is room t spelled)

mutual
  pub laid_spelled : (room : ℕ) (t : Tree) → IsLaid room t → NumbersFit t → Spells room (kind_of_tree t) t (spelling t)
  laid_spelled room (truth true) laid fits = (refl, refl)
  laid_spelled room (truth false) laid fits = (refl, refl)
  laid_spelled room (int8 z) laid fits = let is = int8_is z fits in (refl, _, is.0, is.1, refl)
  laid_spelled room (int16 z) laid fits = (refl, int16_is z fits)
  laid_spelled room (int32 z) laid fits = (refl, int32_is z fits)
  laid_spelled room (int64 z) laid fits = (refl, int64_is z fits)
  laid_spelled room (binary bytes) laid fits = (refl, varint_of (length bytes), size_is (length bytes) laid, refl)
  laid_spelled room (list ts) laid fits =
      (refl, laid.0, laid.1, (items_kind ts, list_head_of (items_kind ts) (count ts), items_spelling ts, list_head_is (items_kind ts) (count ts) laid.2, all_spelled laid.0 (items_kind ts) ts laid.3 fits, refl))
  laid_spelled room (struct fs) laid fits =
      (refl, laid.0, laid.1, fields_spelled laid.0 [] below_ids fs (distinct_ids laid.0 fs laid.2) laid.2 fits)
  laid_spelled room (double bytes) laid fits = absurd laid
  laid_spelled room (set ts) laid fits = absurd laid
  laid_spelled room (map ps) laid fits = absurd laid

  all_spelled : (room : ℕ) (k : TKind) (ts : Trees) → AllLaid room k ts → EachFits ts → AllSpell room k ts (items_spelling ts)
  all_spelled room k no_trees laid fits = refl
  all_spelled room k (tree t ts) laid fits =
      (within t (spelling t), items_spelling ts, within_kind room t k laid.0 (laid_spelled room t laid.1 fits.0), all_spelled room k ts laid.2 fits.1, refl)

  fields_spelled : (room : ℕ) (ids : List ℤ) (floor : ℤ) (fs : Fields) → AreNew ids (ids_of fs) → AreLaid room floor fs → FieldsFit fs → SpellsFields room ids fs (fields_spelling (last ids) fs)
  fields_spelled room ids floor no_fields new laid fits = refl
  fields_spelled room ids floor (field id t fs) new laid fits = (
    kind_of_tree t,
    field_head_of (last ids) id (kind_of_tree t),
    spelling t,
    fields_spelling id fs,
    field_head_is ids id (kind_of_tree t) new.0 (id_fits id laid.0),
    laid_spelled room t laid.2 fits.0,
    subst (λ before. SpellsFields room (ids ++ id ∷ []) fs (fields_spelling before fs)) (last_is ids id) (fields_spelled room (ids ++ id ∷ []) id fs new.1 laid.3 fits.1),
    refl,
  )

same_fields : (fs gs : Fields) → struct fs ≡ struct gs → fs ≡ gs
same_fields fs gs e = cc

pub read_again : (fs : Fields) (rest : List ℕ) → IsLaid 32 (struct fs) → NumbersFit (struct fs) → whole_struct (written fs ++ rest) ≡ Ok (fs, rest)
read_again fs rest laid fits =
    let spelled : Spells 32 kind.Struct (struct fs) (written fs) =
    subst (Spells 32 kind.Struct (struct fs)) (sym (laid_canonical 32 (struct fs) laid)) (laid_spelled 32 (struct fs) laid fits) in
    let read = whole_read (struct fs) (written fs) rest (written fs ++ rest) spelled refl in
    subst (λ gs. whole_struct (written fs ++ rest) ≡ Ok (gs, rest)) (sym (same_fields fs read.0 read.2)) read.1

-- If the fields of a struct are judged as a value, the struct's bytes are read as that value.
pub struct_again :
    {X : Type 0} (place : Place) (checked : Fields → Checked X) (fs : Fields) (x : X) (rest : List ℕ)
    → IsLaid 32 (struct fs) → NumbersFit (struct fs) → checked fs ≡ Ok x → struct_at place checked (written fs ++ rest) ≡ Ok (x, length (written fs))
struct_again place checked fs x rest laid fits is =
    let bytes : List ℕ = written fs ++ rest in
    let counted : length bytes - length rest ≡ length (written fs) = omega (arith, length-append (written fs) rest) in
    ap (λ read. read_at_place place (length bytes) read >>= λ r. (at_place place (checked r.0) >>= λ y. Ok (y, r.1))) (read_again fs rest laid fits)
    ∙ (ap (λ c. at_place place c >>= λ y. Ok (y, length bytes - length rest)) is ∙ ap (λ n. Ok (x, n)) counted)
