-- Trees with ascending field ids, within the limits on size and depth: what the writer makes of them is their
-- canonical spelling.
use Rattle.std.proofs.Common.{◌≡◌, ℕ, suc, ℤ, pos, int_lt, Bool, true, ◌&&◌, FitsSigned, w16, [], length, refl, ◌∙◌, ap, subst, arith}
use Rattle.std.proofs.lemmas.Int.{ints}
use Rattle.thrift_compact.specs.declared.kind.TKind.{TKind}
use Rattle.thrift_compact.specs.Ordered.{ascend}
use Rattle.thrift_compact.specs.Proper.{AllOfKind, AreDistinct, ids_of, IsSmall, IsProper, AllProper, FieldsProper}
use Rattle.thrift_compact.specs.Spelling.{element_kind, items_kind, ordered, ordered_items, ordered_parts, below_ids, spelling, canonical}
use Rattle.thrift_compact.specs.Tree.{Tree, truth, int8, int16, int32, int64, double, binary, list, set, map, struct, Trees, no_trees, tree, Fields, no_fields, field, count}
use Rattle.thrift_compact.specs.View.{fields_of}
use Rattle.thrift_compact.proofs.Arranged.{ascending_new}
use Rattle.thrift_compact.proofs.Selection.{ascending_stays}

-- A field id has 16 bits.
abbrev pub is_id : ℤ → Bool
is_id id = int_lt below_ids id && int_lt id (pos 32768)

abbrev mutual
  pub IsLaid : ℕ → Tree → Type 0
  IsLaid room (truth t) = Unit {0}
  IsLaid room (int8 z) = Unit {0}
  IsLaid room (int16 z) = Unit {0}
  IsLaid room (int32 z) = Unit {0}
  IsLaid room (int64 z) = Unit {0}
  IsLaid room (binary bytes) = IsSmall (length bytes)
  IsLaid room (list ts) = (within : ℕ) × (room ≡ suc within) × IsSmall (count ts) × AllLaid within (items_kind ts) ts
  IsLaid room (struct fs) = (within : ℕ) × (room ≡ suc within) × AreLaid within below_ids fs
  IsLaid room (double bytes) = ⊥
  IsLaid room (set ts) = ⊥
  IsLaid room (map ps) = ⊥

  -- Fields that follow the id `last`.
  pub AreLaid : ℕ → ℤ → Fields → Type 0
  AreLaid room last no_fields = Unit {0}
  AreLaid room last (field id t fs) = (is_id id ≡ true) × (int_lt last id ≡ true) × IsLaid room t × AreLaid room id fs

  -- Items of one type.
  pub AllLaid : ℕ → TKind → Trees → Type 0
  AllLaid room k no_trees = Unit {0}
  AllLaid room k (tree t ts) = (element_kind t ≡ k) × IsLaid room t × AllLaid room k ts

laid_ascend : (room : ℕ) (last : ℤ) (fs : Fields) → AreLaid room last fs → ascend last (ordered_parts fs) ≡ true
laid_ascend room last no_fields laid = refl
laid_ascend room last (field id t fs) laid = ap (λ b. b && ascend id (ordered_parts fs)) laid.1 ∙ laid_ascend room id fs laid.3

mutual
  pub stays : (room : ℕ) (t : Tree) → IsLaid room t → ordered t ≡ t
  stays room (truth t) laid = refl
  stays room (int8 z) laid = refl
  stays room (int16 z) laid = refl
  stays room (int32 z) laid = refl
  stays room (int64 z) laid = refl
  stays room (binary bytes) laid = refl
  stays room (struct fs) laid =
      ap (λ ps. struct (fields_of ps)) (ascending_stays below_ids (ordered_parts fs) (laid_ascend laid.0 below_ids fs laid.2)) ∙ ap struct (fields_stay laid.0 below_ids fs laid.2)
  stays room (list ts) laid = ap list (items_stay laid.0 (items_kind ts) ts laid.3)
  stays room (double bytes) laid = absurd laid
  stays room (set ts) laid = absurd laid
  stays room (map ps) laid = absurd laid

  fields_stay : (room : ℕ) (last : ℤ) (fs : Fields) → AreLaid room last fs → fields_of (ordered_parts fs) ≡ fs
  fields_stay room last no_fields laid = refl
  fields_stay room last (field id t fs) laid =
      ap (λ u. field id u (fields_of (ordered_parts fs))) (stays room t laid.2) ∙ ap (field id t) (fields_stay room id fs laid.3)

  items_stay : (room : ℕ) (k : TKind) (ts : Trees) → AllLaid room k ts → ordered_items ts ≡ ts
  items_stay room k no_trees laid = refl
  items_stay room k (tree t ts) laid =
      ap (λ u. tree u (ordered_items ts)) (stays room t laid.1) ∙ ap (tree t) (items_stay room k ts laid.2)

pub laid_canonical : (room : ℕ) (t : Tree) → IsLaid room t → canonical t ≡ spelling t
laid_canonical room t laid = ap spelling (stays room t laid)

-- Such a tree is proper.
of_kind : (room : ℕ) (k : TKind) (ts : Trees) → AllLaid room k ts → AllOfKind k ts
of_kind room k no_trees laid = tt
of_kind room k (tree t ts) laid = (laid.0, of_kind room k ts laid.2)

pub distinct_ids : (room : ℕ) (fs : Fields) → AreLaid room below_ids fs → AreDistinct (ids_of fs)
distinct_ids room fs laid =
    subst (λ gs. AreDistinct (ids_of gs)) (fields_stay room below_ids fs laid) (ascending_new below_ids [] (ordered_parts fs) tt (laid_ascend room below_ids fs laid))

mutual
  pub laid_proper : (room : ℕ) (t : Tree) → IsLaid room t → IsProper room t
  laid_proper room (truth t) laid = tt
  laid_proper room (int8 z) laid = tt
  laid_proper room (int16 z) laid = tt
  laid_proper room (int32 z) laid = tt
  laid_proper room (int64 z) laid = tt
  laid_proper room (binary bytes) laid = laid
  laid_proper room (struct fs) laid = (laid.0, laid.1, distinct_ids laid.0 fs laid.2, fields_proper laid.0 below_ids fs laid.2)
  laid_proper room (list ts) laid =
      (laid.0, laid.1, laid.2, (items_kind ts, of_kind laid.0 (items_kind ts) ts laid.3), items_proper laid.0 (items_kind ts) ts laid.3)
  laid_proper room (double bytes) laid = absurd laid
  laid_proper room (set ts) laid = absurd laid
  laid_proper room (map ps) laid = absurd laid

  fields_proper : (room : ℕ) (last : ℤ) (fs : Fields) → AreLaid room last fs → FieldsProper room fs
  fields_proper room last no_fields laid = tt
  fields_proper room last (field id t fs) laid = (laid_proper room t laid.2, fields_proper room id fs laid.3)

  items_proper : (room : ℕ) (k : TKind) (ts : Trees) → AllLaid room k ts → AllProper room ts
  items_proper room k no_trees laid = tt
  items_proper room k (tree t ts) laid = (laid_proper room t laid.1, items_proper room k ts laid.2)

pub id_fits : (id : ℤ) → is_id id ≡ true → FitsSigned w16 id
id_fits id is = grind (arith, ints, is)
