-- A place can be read back from its suffix.
use Rattle.std.proofs.Common.{◌≡◌, ℕ, ◌+◌, ◌^◌, ◌<◌, List, [], ◌∷◌, ◌++◌, length, take, drop, slice_index, sym, ap, ◌∙◌}
use Rattle.std.specs.Prelude.{slice_index_or}
use Rattle.std.specs.Int.{w16, to_le_bytes, from_le_bytes}
use Rattle.std.proofs.lemmas.Nat.{from_le_bytes-to_le_bytes_2}
use Rattle.std.proofs.lemmas.List.{append_cancel_left, length-append}
use Rattle.std.proofs.Math.Seq.{take-append_seam}
use Rattle.pme_base.specs.Places.{place_of}
use Rattle.pme_base.specs.declared.place.Place.{Place}
use Rattle.pme_base.specs.declared.place.PlaceKind.{PlaceKind}
use Rattle.pme_base.specs.declared.place.PlaceKind.TheVariants.{File, Loose, Footer, ColumnMetaData, DataPage, DictionaryPage, DataPageHeader, DictionaryPageHeader, ColumnIndex, OffsetIndex}
use Rattle.module_aad.specs.Aad.{type_byte, ordinals, suffix, aad, HasOrdinals, IsModulePlace}

-- the kinds of modules in the order of their type bytes
abbrev kinds : List PlaceKind
kinds = Footer ∷ ColumnMetaData ∷ DataPage ∷ DictionaryPage ∷ DataPageHeader ∷ DictionaryPageHeader ∷ ColumnIndex ∷ OffsetIndex ∷ []

-- the place that is read from a suffix; a missing ordinal is 0
abbrev place_of_suffix : List ℕ → Place
place_of_suffix bytes =
    place_of (slice_index_or kinds (slice_index bytes 0) File) (from_le_bytes w16 (drop 1 bytes)) (from_le_bytes w16 (drop 3 bytes)) (from_le_bytes w16 (drop 5 bytes))

same_place : (kind : PlaceKind) {r r' c c' p p' : ℕ} → r ≡ r' → c ≡ c' → p ≡ p' → place_of kind r c p ≡ place_of kind r' c' p'
same_place kind e f g = cc

back : (n : ℕ) → n < 2 ^ 16 → from_le_bytes w16 (to_le_bytes w16 n) ≡ n
back n small = from_le_bytes-to_le_bytes_2 n small

of_column : (kind : PlaceKind) (r c p : ℕ) → (r < 2 ^ 16) × (c < 2 ^ 16) × (p ≡ 0) → place_of kind (from_le_bytes w16 (to_le_bytes w16 r)) (from_le_bytes w16 (to_le_bytes w16 c)) 0 ≡ place_of kind r c p
of_column kind r c p h = same_place kind (back r h.0) (back c h.1) (sym h.2)

of_page : (kind : PlaceKind) (r c p : ℕ) → (r < 2 ^ 16) × (c < 2 ^ 16) × (p < 2 ^ 16) → place_of kind (from_le_bytes w16 (to_le_bytes w16 r)) (from_le_bytes w16 (to_le_bytes w16 c)) (from_le_bytes w16 (to_le_bytes w16 p)) ≡ place_of kind r c p
of_page kind r c p h = same_place kind (back r h.0) (back c h.1) (back p h.2)

ordinals_read_back : (kind : PlaceKind) (r c p : ℕ) → HasOrdinals kind r c p → place_of_suffix (type_byte kind ∷ ordinals kind r c p) ≡ place_of kind r c p
ordinals_read_back File r c p h = absurd h
ordinals_read_back Loose r c p h = absurd h
ordinals_read_back Footer r c p h = same_place Footer (sym h.0) (sym h.1) (sym h.2)
ordinals_read_back ColumnMetaData r c p h = of_column ColumnMetaData r c p h
ordinals_read_back DataPage r c p h = of_page DataPage r c p h
ordinals_read_back DictionaryPage r c p h = of_column DictionaryPage r c p h
ordinals_read_back DataPageHeader r c p h = of_page DataPageHeader r c p h
ordinals_read_back DictionaryPageHeader r c p h = of_column DictionaryPageHeader r c p h
ordinals_read_back ColumnIndex r c p h = of_column ColumnIndex r c p h
ordinals_read_back OffsetIndex r c p h = of_column OffsetIndex r c p h

read_back : (p : Place) → IsModulePlace p → place_of_suffix (suffix p) ≡ p
read_back p h = ordinals_read_back p.kind p.row_group p.column p.page h

pub distinct_places : (file : List ℕ) (p q : Place) → IsModulePlace p → IsModulePlace q → aad file p ≡ aad file q → p ≡ q
distinct_places file p q hp hq same =
    sym (read_back p hp) ∙ ap place_of_suffix (append_cancel_left file (suffix p) (suffix q) same) ∙ read_back q hq

-- equal lists whose first parts have equal lengths have equal parts
front : (a b s t : List ℕ) → length a ≡ length b → a ++ s ≡ b ++ t → a ≡ b
front a b s t long same =
    sym (take-append_seam a s) ∙ ap (take (length a)) same ∙ ap (λ n. take n (b ++ t)) long ∙ take-append_seam b t

pub distinct_files : (prefix u v : List ℕ) (p q : Place) → length u ≡ length v → aad (prefix ++ u) p ≡ aad (prefix ++ v) q → u ≡ v
distinct_files prefix u v p q long same =
    append_cancel_left prefix u v (front (prefix ++ u) (prefix ++ v) (suffix p) (suffix q) (joined prefix u v long) same)
  where
    joined : (x a b : List ℕ) → length a ≡ length b → length (x ++ a) ≡ length (x ++ b)
    joined x a b e = simp length-append (ap (λ n. length x + n) e)
