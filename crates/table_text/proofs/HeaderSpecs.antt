-- The columns of a valid header are columns of a table: their descriptions are valid and their names are different.
use Rattle.std.proofs.Common.{◌≡◌, ◌≢◌, ◌==◌, ℕ, ◌+◌, ◌-◌, ◌≤◌, nat_le, Bool, true, false, ◌&&◌, ◌||◌, not, Option, Some, None, Ok, Err, List, [], ◌∷◌, take, drop, length, slice_index, refl, sym, ap, ◌∙◌, subst, arith}
use Rattle.std.specs.Prelude.{if◌then◌else◌, codes}
use Rattle.std.specs.Cmp.Lexicographic.{slice_cmp, nat_list_cmp_total}
use Rattle.std.specs.FinSet.{contains, contains-insert, insert}
use Rattle.std.specs.List.{AllByRecursion}
use Rattle.std.specs.Option.{ok_or, option_map}
use Rattle.std.specs.Ordering.{eq_by_cmp, is_eq, nat_cmp}
use Rattle.std.specs.Cmp.{tied_itself}
use Rattle.std.specs.Str.{bytes_eq, is_utf8}
use Rattle.std.specs.Str.Parse.{digits_value}
use Rattle.std.proofs.lemmas.Bool.{and_parts, leb-true}
use Rattle.std.proofs.lemmas.List.{length-take}
use Rattle.std.proofs.lemmas.Option.{option_and_then_some}
use Rattle.parquet_types.specs.declared.column.ColumnKind.TheVariants.{Boolean, Int32, Int64, Int96, Float, Double, ByteArray, Fixed}
use Rattle.plain_pages.specs.ColumnSpecs.{HasWord, IsColumnSpec}
use Rattle.plain_pages.specs.Columns.{AreNamed, AreOfLength, Column, IsNewName}
use Rattle.pme_base.specs.Steps.{◌>>=◌}
use Rattle.table_text.specs.declared.column_type.ColumnType.{ColumnType}
use Rattle.table_text.specs.Headers.{Heading, Names, columns_read, empty_column, heading, heading_at, heading_read, is_name, last_colon, new_heading, spec_of, when_new}
use Rattle.table_text.specs.Numbers.{is_plain}
use Rattle.table_text.specs.Records.{AreShort}
use Rattle.table_text.specs.Types.{column_type, fixed_read, size_read, type_named, type_read, when_size}

either : {A P : Type 0} (b : Bool) (x y z : A) → (b ≡ true → x ≡ z → P) → (b ≡ false → y ≡ z → P) → (if b then x else y) ≡ z → P
either true x y z here there e = here refl e
either false x y z here there e = there refl e

if_some : {A P : Type 0} (b : Bool) (o : Option A) (x : A) → (b ≡ true → o ≡ Some x → P) → (if b then o else None) ≡ Some x → P
if_some true o x found e = found refl e
if_some false o x found e = cc e

-- ---- types
abbrev IsSize : ℕ → Type 0
IsSize size = (1 ≤ size) × (size ≤ 65536)

size_found : (size found : ℕ) → when_size size ≡ Some found → IsSize found
size_found size found e =
    if_some (nat_le 1 size && nat_le size 65536) (Some size) found (λ inside is.
    let parts = and_parts (nat_le 1 size) (nat_le size 65536) inside in
    let same : size ≡ found = cc is in
    subst IsSize same (leb-true 1 size parts.0, leb-true size 65536 parts.1)) e

size_within : (digits : List ℕ) (found : ℕ) → size_read digits ≡ Some found → IsSize found
unfolding size_read
size_within digits found e = if_some (is_plain digits) (when_size (digits_value 10 digits)) found (λ _ read. size_found (digits_value 10 digits) found read) e

fixed_within : (word : List ℕ) (found : ℕ) → fixed_read word ≡ Some found → IsSize found
unfolding fixed_read
fixed_within word found e =
    if_some (bytes_eq (take 6 word) (codes "fixed(") && (slice_index word (length word - 1) == 41)) (size_read (drop 6 (take (length word - 1) word))) found
    (λ _ read. size_within (drop 6 (take (length word - 1) word)) found read) e

abbrev IsWorded : ColumnType → Type 0
IsWorded type = HasWord type.kind type.text

fixed_worded : (optional : Bool) (size : Option ℕ) (type : ColumnType) → ((found : ℕ) → size ≡ Some found → IsSize found)
    → option_map (λ found. column_type optional false (Fixed found)) size ≡ Some type → IsWorded type
fixed_worded optional None type within e = cc e
fixed_worded optional (Some found) type within e =
    let same : column_type optional false (Fixed found) ≡ type = cc e in
    let inside = within found refl in
    subst IsWorded same (refl, inside.0, inside.1)

word_if : (b : Bool) (first : ColumnType) (rest : Option ColumnType) (type : ColumnType) → IsWorded first → (rest ≡ Some type → IsWorded type)
    → (if b then Some first else rest) ≡ Some type → IsWorded type
word_if true first rest type worded others e = let same : first ≡ type = cc e in subst IsWorded same worded
word_if false first rest type worded others e = others e

type_worded : (optional : Bool) (word : List ℕ) (type : ColumnType) → type_named optional word ≡ Some type → IsWorded type
unfolding type_named
type_worded optional word type e =
    word_if (bytes_eq word (codes "bool")) (column_type optional false Boolean) _ type refl
    (word_if (bytes_eq word (codes "int32")) (column_type optional false Int32) _ type refl
    (word_if (bytes_eq word (codes "int64")) (column_type optional false Int64) _ type refl
    (word_if (bytes_eq word (codes "int96")) (column_type optional false Int96) _ type refl
    (word_if (bytes_eq word (codes "float")) (column_type optional false Float) _ type refl
    (word_if (bytes_eq word (codes "double")) (column_type optional false Double) _ type refl
    (word_if (bytes_eq word (codes "bytes")) (column_type optional false ByteArray) _ type tt
    (word_if (bytes_eq word (codes "text")) (column_type optional true ByteArray) _ type tt
    (fixed_worded optional (fixed_read word) type (fixed_within word))))))))) e

read_worded : (word : List ℕ) (type : ColumnType) → type_read word ≡ Some type → IsWorded type
unfolding type_read
read_worded word type e =
    either (slice_index word (length word - 1) == 63) (type_named true (take (length word - 1) word)) (type_named false word) (Some type)
    (λ _ is. type_worded true (take (length word - 1) word) type is) (λ _ is. type_worded false word type is) e

-- ---- headings
named : (name : List ℕ) (type : ColumnType) → length name ≤ 268435456 → is_name name ≡ true → IsWorded type → IsColumnSpec (spec_of name type)
unfolding is_name
named name type short is word =
    let parts = and_parts (not (length name == 0)) (is_utf8 name) is in
    record { name = record { not_empty = grind (arith, parts.0); utf8 = parts.1; short = short }; word = word }

heading_named : (name : List ℕ) (type : Option ColumnType) (head : Heading) → length name ≤ 268435456 → ((t : ColumnType) → type ≡ Some t → IsWorded t)
    → heading name type ≡ Some head → IsColumnSpec (spec_of head.0 head.1)
heading_named name None head short word e = cc e
heading_named name (Some type) head short word e =
    if_some (is_name name) (Some (name, type)) head (λ is found.
    let same : (name, type) ≡ head = cc found in
    subst (λ (h : Heading). IsColumnSpec (spec_of h.0 h.1)) same (named name type short is (word type refl))) e

head_at : (field : List ℕ) (colon : Option ℕ) (head : Heading) → length field ≤ 268435456 → heading_at field colon ≡ Some head → IsColumnSpec (spec_of head.0 head.1)
head_at field None head short e = cc e
head_at field (Some colon) head short e =
    heading_named (take colon field) (type_read (drop (colon + 1) field)) head (omega (arith, length-take colon field)) (read_worded (drop (colon + 1) field)) e

pub head_named : (field : List ℕ) (head : Heading) → length field ≤ 268435456 → heading_read field ≡ Some head → IsColumnSpec (spec_of head.0 head.1)
unfolding heading_read
head_named field head short e = head_at field (last_colon field) head short e

record NewHead (earlier : Names) (field : List ℕ) (head : Heading) : Type 0 where
  read : heading_read field ≡ Some head
  fresh : contains earlier head.0 ≡ false

new_head : (earlier : Names) (field : List ℕ) (head : Heading) → new_heading earlier field ≡ Some head → NewHead earlier field head
new_head earlier field head e =
    option_and_then_some (when_new earlier) (heading_read field) head e (λ found read.
    either (contains earlier found.0) None (Some found) (Some head) (λ _ none. cc none) (λ fresh is.
    let same : found ≡ head = cc is in
    record { read = read ∙ ap Some same; fresh = ap (λ (h : Heading). contains earlier h.0) (sym same) ∙ fresh }))

-- ---- columns
-- columns with names that no earlier column has
abbrev AreFresh : Names → List Column → Type 0
AreFresh earlier columns = AllByRecursion (λ (column : Column). contains earlier column.spec.name ≡ false) columns

neither : (a b : Bool) → (a || b) ≡ false → (a ≡ false) × (b ≡ false)
neither true b e = cc e
neither false b e = (refl, e)

another : (earlier : Names) (name other : List ℕ) → contains (insert earlier name) other ≡ false → (other ≢ name) × (contains earlier other ≡ false)
another earlier name other e =
    let parts = neither (eq_by_cmp (slice_cmp nat_cmp) other name) (contains earlier other) (sym (contains-insert nat_list_cmp_total earlier name other) ∙ e) in
    let apart : other ≢ name = λ same.
    let tied : eq_by_cmp (slice_cmp nat_cmp) other other ≡ true = ap is_eq (tied_itself nat_list_cmp_total other) in
    let untied : eq_by_cmp (slice_cmp nat_cmp) other other ≡ false = ap (λ (n : List ℕ). eq_by_cmp (slice_cmp nat_cmp) other n) same ∙ parts.0 in
    cc (sym tied ∙ untied)
    in (apart, parts.1)

others : (earlier : Names) (name : List ℕ) (columns : List Column) → AreFresh (insert earlier name) columns → IsNewName name columns × AreFresh earlier columns
others earlier name [] h = (tt, tt)
others earlier name (column ∷ columns) h =
    let first = another earlier name column.spec.name h.0 in
    let rest = others earlier name columns h.1 in
    ((first.0, rest.0), (first.1, rest.1))

-- the columns of a valid header
pub record AreHeaded (earlier : Names) (columns : List Column) : Type 0 where
  pub empty : AreOfLength 0 columns
  pub named : AreNamed columns
  pub fresh : AreFresh earlier columns

headed : (earlier : Names) (field : List ℕ) (head : Heading) (columns : List Column) → length field ≤ 268435456 → NewHead earlier field head
    → AreHeaded (insert earlier head.0) columns → AreHeaded earlier (empty_column head.0 head.1 ∷ columns)
headed earlier field head columns short new rest =
    let apart = others earlier head.0 columns rest.fresh in
    record { empty = (refl, rest.empty); named = (head_named field head short new.read, apart.0, rest.named); fresh = (new.fresh, apart.1) }

pub header_columns : (fields : List (List ℕ)) (place : ℕ) (earlier : Names) (more : List Column) → AreShort fields → columns_read place earlier fields ≡ Ok more → AreHeaded earlier more
header_columns [] place earlier more short e = let same : [] ≡ more = cc e in subst (AreHeaded earlier) same (record { empty = tt; named = tt; fresh = tt })
header_columns (field ∷ fields) place earlier more short e =
    elim (new_heading earlier field) as (λ o. new_heading earlier field ≡ o → (ok_or o place >>= (λ head. columns_read (place + 1) (insert earlier head.0) fields >>= (λ columns. Ok (empty_column head.0 head.1 ∷ columns)))) ≡ Ok more → AreHeaded earlier more) [
      | None ↦ λ _ bad. cc bad
      | Some head ↦ λ new found. elim (columns_read (place + 1) (insert earlier head.0) fields) as (λ r. columns_read (place + 1) (insert earlier head.0) fields ≡ r → (r >>= (λ columns. Ok (empty_column head.0 head.1 ∷ columns))) ≡ Ok more → AreHeaded earlier more) [
        | Ok rest ↦ λ is whole.
            let same : empty_column head.0 head.1 ∷ rest ≡ more = cc whole in
            subst (AreHeaded earlier) same
            (headed earlier field head rest short.0 (new_head earlier field head new) (header_columns fields (place + 1) (insert earlier head.0) rest short.1 is))
        | Err b ↦ λ is whole. cc whole
      ] refl found
    ] refl e
