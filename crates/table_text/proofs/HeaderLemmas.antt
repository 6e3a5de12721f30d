-- Lemmas about the loops over a header.
use Rattle.std.proofs.Common.{Result, Ok, add-one, append_assoc, sym, Err, ◌≡◌, ◌==◌, ℕ, zero, suc, ◌+◌, ◌<◌, ◌≤◌, Bool, true, false, cond, Option, Some, None, List, [], ◌∷◌, ◌++◌, take, drop, length, get_or, refl, ap, ◌∙◌, arith, inl, inr}
use Rattle.std.specs.Prelude.{IfSome, if◌then◌else◌}
use Rattle.std.proofs.lemmas.Bool.{cases_Bool}
use Rattle.std.proofs.lemmas.List.{take_more, length-take-le}
use Rattle.std.specs.FinSet.{insert}
use Rattle.std.specs.Option.{option_map}
use Rattle.csv.specs.Records.{field_at}
use Rattle.pme_base.specs.Steps.{◌>>=◌}
use Rattle.plain_pages.specs.Columns.{Column}
use Rattle.table_text.specs.Headers.{Names, last_colon_step, columns_read, empty_column, last_colon, new_heading, with_heading}

colon_push : (xs : List ℕ) (b : ℕ) → last_colon (xs ++ b ∷ []) ≡ cond (b == 58) (Some (length xs)) (last_colon xs)
colon_push [] b = elim (cases_Bool (b == 58)) [ inl yes58 ↦ rw yes58 refl | inr no58 ↦ rw no58 refl ]
colon_push (x ∷ xs) b = elim (cases_Bool (b == 58)) [
  | inl here ↦ rw (colon_push xs b, here) (ap Some (omega arith))
  | inr other ↦ rw (colon_push xs b, other) refl
]

pub colon_step : (field : List ℕ) (i byte : ℕ) (last new : Option ℕ) → i < length field → byte ≡ get_or field i 0 → last ≡ last_colon (take i field)
    → new ≡ (if byte == 58 then Some i else last) → new ≡ last_colon (take (i + 1) field)
colon_step field i byte last new inside is so next =
    let size = length-take-le i field (omega arith) in
    next ∙ rw (so, is, take_more field i 0 inside, colon_push (take i field) (get_or field i 0), size) refl

pub no_field : (fields : List (List ℕ)) (i : ℕ) → field_at fields i ≡ None → length fields ≤ i
unfolding field_at
no_field [] i e = omega arith
no_field (f ∷ fields) zero e = cc e
no_field (f ∷ fields) (suc i) e = let more = no_field fields i e in omega arith

pub field_found : (fields : List (List ℕ)) (i : ℕ) (field : List ℕ) → field_at fields i ≡ Some field → drop i fields ≡ field ∷ drop (suc i) fields
unfolding field_at
field_found [] i field e = cc e
field_found (f ∷ fields) zero field e = let same : f ≡ field = cc e in ap (λ (t : List ℕ). t ∷ fields) same
field_found (f ∷ fields) (suc i) field e = field_found fields i field e

behind_inside : (colon : Bool) (place : Option ℕ) (n : ℕ) → IfSome place (λ p. p < n) → IfSome (last_colon_step colon place) (λ p. p < suc n)
behind_inside colon (Some p) n h = omega arith
behind_inside true None n h = omega arith
behind_inside false None n h = tt

colon_found : (field : List ℕ) → IfSome (last_colon field) (λ p. p < length field)
colon_found [] = tt
colon_found (b ∷ rest) = behind_inside (b == 58) (last_colon rest) (length rest) (colon_found rest)

pub colon_inside : (field : List ℕ) (place : Option ℕ) → place ≡ last_colon field → IfSome place (λ p. p < length field)
colon_inside field place is = rw is (colon_found field)

-- columns in front of the columns of the remaining fields
abbrev pub onto : List Column → Result (List Column) ℕ → Result (List Column) ℕ
onto done (Ok columns) = Ok (done ++ columns)
onto done (Err field) = Err field

onto_more : (done : List Column) (new : Column) (rest : Result (List Column) ℕ) → onto done (rest >>= λ columns. Ok (new ∷ columns)) ≡ onto (done ++ new ∷ []) rest
onto_more done new (Ok columns) = ap Ok (sym (append_assoc done (new ∷ []) columns))
onto_more done new (Err field) = refl

-- one step of the loop over the fields of a header
pub column_step : (place : ℕ) (columns more : List Column) (earlier later : Names) (fields : List (List ℕ)) (field : List ℕ) → field_at fields place ≡ Some field
    → option_map (with_heading columns earlier) (new_heading earlier field) ≡ Some (more, later)
    → onto columns (columns_read place earlier (drop place fields)) ≡ onto more (columns_read (place + 1) later (drop (place + 1) fields))
column_step place columns more earlier later fields field found added =
    let next : drop place fields ≡ field ∷ drop (place + 1) fields = field_found fields place field found ∙ ap (λ (n : ℕ). field ∷ drop n fields) (sym (add-one place)) in
    elim (new_heading earlier field) as (λ o. new_heading earlier field ≡ o → option_map (with_heading columns earlier) o ≡ Some (more, later)
    → onto columns (columns_read place earlier (drop place fields)) ≡ onto more (columns_read (place + 1) later (drop (place + 1) fields))) [
      | None ↦ λ is none. cc none
      | Some head ↦ λ is some.
          let same : with_heading columns earlier head ≡ (more, later) = cc some in
          let first : columns ++ empty_column head.0 head.1 ∷ [] ≡ more = ap (λ (p : List Column × Names). p.0) same in
          let second : insert earlier head.0 ≡ later = ap (λ (p : List Column × Names). p.1) same in
          rw (next, is, ← first, ← second) (onto_more columns (empty_column head.0 head.1) (columns_read (place + 1) (insert earlier head.0) (drop (place + 1) fields)))
    ] refl added

pub column_bad : (place : ℕ) (columns : List Column) (earlier : Names) (fields : List (List ℕ)) (field : List ℕ) → field_at fields place ≡ Some field
    → new_heading earlier field ≡ None → onto columns (columns_read place earlier (drop place fields)) ≡ Err place
column_bad place columns earlier fields field found bad = rw (field_found fields place field found, bad) refl
