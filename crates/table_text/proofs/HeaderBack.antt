-- The heading of a column is read back as its name and type.
use Rattle.std.proofs.Common.{◌≡◌, ◌==◌, ℕ, ◌+◌, ◌-◌, ◌≤◌, Bool, true, false, Option, List, [], ◌∷◌, ◌++◌, take, drop, length, get_or, Some, None, refl, sym, ap, arith, ◌∙◌, append_assoc, append-nil}
use Rattle.std.proofs.lemmas.Bool.{le-leb, ne_eqb}
use Rattle.std.proofs.lemmas.Fmt.{decimal_is_IsNumeral}
use Rattle.std.proofs.lemmas.List.{drop-drop, drop_at, get_or_at, length-append, take_at}
use Rattle.std.proofs.lemmas.Str.Parse.{digit_from_value}
use Rattle.std.specs.Prelude.{if◌then◌else◌, codes}
use Rattle.std.specs.Fmt.{decimal}
use Rattle.std.specs.Str.{bytes_eq}
use Rattle.std.specs.Str.Parse.{AllDigits}
use Rattle.parquet_types.specs.declared.column.ColumnKind.{ColumnKind}
use Rattle.parquet_types.specs.declared.column.ColumnKind.TheVariants.{Boolean, Int32, Int64, Int96, Float, Double, ByteArray, Fixed}
use Rattle.parquet_types.specs.declared.column.ColumnSpec.{ColumnSpec}
use Rattle.table_text.specs.declared.column_type.ColumnType.{ColumnType}
use Rattle.table_text.specs.Headers.{last_colon_step, heading_read, is_name, last_colon}
use Rattle.plain_pages.specs.ColumnSpecs.{HasWord}
use Rattle.table_text.specs.ReadingBack.{IsNameable, type_of}
use Rattle.table_text.specs.Texts.{heading_text, kind_text}
use Rattle.table_text.specs.Types.{column_type, fixed_read, size_read, type_named, type_read}
use Rattle.table_text.proofs.CellBack.{plain_decimal}

last_byte : (xs : List ℕ) (c : ℕ) → get_or (xs ++ c ∷ []) (length (xs ++ c ∷ []) - 1) 0 ≡ c
last_byte xs c = get_or_at xs c [] 0 (length (xs ++ c ∷ []) - 1) (omega (arith, length-append xs (c ∷ [])))

front : (xs : List ℕ) (c : ℕ) → take (length (xs ++ c ∷ []) - 1) (xs ++ c ∷ []) ≡ xs
front xs c = take_at xs (c ∷ []) (length (xs ++ c ∷ []) - 1) (omega (arith, length-append xs (c ∷ [])))

-- ---- colons
behind_none : (colon : Bool) (place : Option ℕ) → last_colon_step colon place ≡ None → (colon ≡ false) × (place ≡ None)
behind_none colon (Some p) e = cc e
behind_none true None e = cc e
behind_none false None e = (refl, refl)

no_colons : (xs ys : List ℕ) → last_colon xs ≡ None → last_colon ys ≡ None → last_colon (xs ++ ys) ≡ None
no_colons [] ys a b = b
no_colons (x ∷ xs) ys a b =
    let parts = behind_none (x == 58) (last_colon xs) a in
    rw (parts.0, no_colons xs ys parts.1 b) refl

digits_colon : (ds : List ℕ) → AllDigits 10 ds → last_colon ds ≡ None
digits_colon [] d = refl
digits_colon (c ∷ cs) d = rw (ne_eqb c 58 (λ z. omega (arith, digit_from_value c d.0, z)), digits_colon cs d.1) refl

colon_at : (name word : List ℕ) → last_colon word ≡ None → last_colon (name ++ 58 ∷ word) ≡ Some (length name)
colon_at [] word none = rw none refl
colon_at (x ∷ xs) word none = rw (colon_at xs word none) (ap Some (omega arith))

past_colon : (name word : List ℕ) → drop (length name + 1) (name ++ 58 ∷ word) ≡ word
past_colon name word = sym (drop-drop 1 (length name) (name ++ 58 ∷ word)) ∙ ap (λ (t : List ℕ). drop 1 t) (drop_at name (58 ∷ word) (length name) refl)

-- ---- types
type_plain : (word : List ℕ) (type : Option ColumnType) → (get_or word (length word - 1) 0 == 63) ≡ false → type_named false word ≡ type → type_read word ≡ type
unfolding type_read
type_plain word type other named = rw other named

type_optional : (word : List ℕ) (type : Option ColumnType) → type_named true word ≡ type → type_read (word ++ 63 ∷ []) ≡ type
unfolding type_read
type_optional word type named = rw (last_byte word 63, front word 63) named

size_back : (n : ℕ) → 1 ≤ n → n ≤ 65536 → size_read (decimal n) ≡ Some n
unfolding size_read
size_back n least most =
    rw (plain_decimal n (omega arith), (decimal_is_IsNumeral n (omega arith)).1, le-leb 1 n least, le-leb n 65536 most) refl

fixed_in : (word : List ℕ) (size : ℕ) → bytes_eq (take 6 (word ++ 41 ∷ [])) (codes "fixed(") ≡ true → size_read (drop 6 word) ≡ Some size → fixed_read (word ++ 41 ∷ []) ≡ Some size
unfolding fixed_read
fixed_in word size begins size_is = rw (begins, last_byte word 41, front word 41) size_is

fixed_named : (optional : Bool) (n : ℕ) → 1 ≤ n → n ≤ 65536 → type_named optional (kind_text (Fixed n) false) ≡ Some (column_type optional false (Fixed n))
unfolding type_named
fixed_named optional n least most = rw (fixed_in (codes "fixed(" ++ decimal n) n refl (size_back n least most)) refl

word_of : ColumnKind → Bool → Bool → List ℕ
word_of kind text optional = kind_text kind text ++ (if optional then codes "?" else [])

fixed_back : (n : ℕ) (optional : Bool) → 1 ≤ n → n ≤ 65536 → type_read (word_of (Fixed n) false optional) ≡ Some (column_type optional false (Fixed n))
unfolding word_of
fixed_back n true least most = type_optional (kind_text (Fixed n) false) (Some (column_type true false (Fixed n))) (fixed_named true n least most)
fixed_back n false least most =
    let other : (get_or (kind_text (Fixed n) false) (length (kind_text (Fixed n) false) - 1) 0 == 63) ≡ false = rw (last_byte (codes "fixed(" ++ decimal n) 41) refl in
    rw (append-nil (kind_text (Fixed n) false)) (type_plain (kind_text (Fixed n) false) (Some (column_type false false (Fixed n))) other (fixed_named false n least most))

type_back : (kind : ColumnKind) (text optional : Bool) → HasWord kind text → type_read (word_of kind text optional) ≡ Some (column_type optional text kind)
unfolding word_of type_read type_named
type_back Boolean text true h = rw h refl
type_back Boolean text false h = rw h refl
type_back Int32 text true h = rw h refl
type_back Int32 text false h = rw h refl
type_back Int64 text true h = rw h refl
type_back Int64 text false h = rw h refl
type_back Int96 text true h = rw h refl
type_back Int96 text false h = rw h refl
type_back Float text true h = rw h refl
type_back Float text false h = rw h refl
type_back Double text true h = rw h refl
type_back Double text false h = rw h refl
type_back ByteArray true true h = refl
type_back ByteArray true false h = refl
type_back ByteArray false true h = refl
type_back ByteArray false false h = refl
type_back (Fixed n) text optional h = rw h.0 (fixed_back n optional h.1 h.2)

fixed_colon : (n : ℕ) → n ≤ 65536 → last_colon (kind_text (Fixed n) false) ≡ None
fixed_colon n most =
    let digits = (decimal_is_IsNumeral n (omega arith)).0.1 in
    no_colons (codes "fixed(" ++ decimal n) (codes ")") (no_colons (codes "fixed(") (decimal n) refl (digits_colon (decimal n) digits)) refl

kind_colon : (kind : ColumnKind) (text : Bool) → HasWord kind text → last_colon (kind_text kind text) ≡ None
kind_colon Boolean text h = refl
kind_colon Int32 text h = refl
kind_colon Int64 text h = refl
kind_colon Int96 text h = refl
kind_colon Float text h = refl
kind_colon Double text h = refl
kind_colon ByteArray true h = refl
kind_colon ByteArray false h = refl
kind_colon (Fixed n) text h = fixed_colon n h.2

mark_colon : (optional : Bool) → last_colon (if optional then codes "?" else []) ≡ None
mark_colon true = refl
mark_colon false = refl

-- ---- headings
split_back : (name word : List ℕ) (type : ColumnType) → is_name name ≡ true → last_colon word ≡ None → type_read word ≡ Some type
    → heading_read (name ++ 58 ∷ word) ≡ Some (name, type)
unfolding heading_read
split_back name word type named none read =
    rw (colon_at name word none, take_at name (58 ∷ word) (length name) refl, past_colon name word, read, named) refl

heading_parts : (spec : ColumnSpec) → heading_text spec ≡ spec.name ++ 58 ∷ word_of spec.kind spec.text spec.optional
unfolding word_of
heading_parts spec =
    append_assoc (spec.name ++ 58 ∷ []) (kind_text spec.kind spec.text) (if spec.optional then codes "?" else [])
    ∙ append_assoc spec.name (58 ∷ []) (kind_text spec.kind spec.text ++ (if spec.optional then codes "?" else []))

word_colon : (kind : ColumnKind) (text optional : Bool) → HasWord kind text → last_colon (word_of kind text optional) ≡ None
unfolding word_of
word_colon kind text optional h = no_colons (kind_text kind text) (if optional then codes "?" else []) (kind_colon kind text h) (mark_colon optional)

pub heading_back : (spec : ColumnSpec) → IsNameable spec → heading_read (heading_text spec) ≡ Some (spec.name, type_of spec)
heading_back spec h =
    rw (heading_parts spec)
    (split_back spec.name (word_of spec.kind spec.text spec.optional) (type_of spec) h.name (word_colon spec.kind spec.text spec.optional h.word) (type_back spec.kind spec.text spec.optional h.word))
