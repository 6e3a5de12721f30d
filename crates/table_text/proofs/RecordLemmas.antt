-- Lemmas about reading the records of a text one by one.
use Rattle.std.proofs.Common.{Bor, add-one, ◌≡◌, ℕ, zero, suc, ◌+◌, ◌<◌, ◌≤◌, true, false, Some, None, List, [], ◌∷◌, ◌++◌, length, refl, sym, ap, ◌∙◌, arith, inl, inr}
use Rattle.std.proofs.lemmas.Bool.{cases_Bool}
use Rattle.std.proofs.lemmas.List.{length-append}
use Rattle.std.specs.List.{AllByRecursion}
use Rattle.csv.specs.Machine.{Read, next_record, step, is_end, ends_at_end, fields_after, field_after}
use Rattle.csv.specs.Reading.{ExplainsRead, Reached, ReadRecord, Ready, default_config, is_bom, is_flexible, records_from, records_next, strip_bom}
use Rattle.csv.specs.declared.error.ErrorKind.{ErrorKind}
use Rattle.csv.specs.declared.error.ErrorKind.TheVariants as error
use Rattle.csv.specs.declared.parser.Action.{Action}
use Rattle.csv.specs.declared.parser.Action.TheVariants as act
use Rattle.csv.specs.declared.parser.State.{State}
use Rattle.csv.specs.declared.parser.State.TheVariants as st
use Rattle.csv.proofs.ReadFacts.{rows-more, rows-end}
use Rattle.table_text.specs.Records.{AreShort, IsOutside, IsReading, SliceReader, left_of, records_left, table_limit, to_come}

some_same : (x y : Read) → Some x ≡ Some y → x ≡ y
some_same x y e = cc e

-- the record that ends at the end of the text
at_end : (s : State) (fields : List (List ℕ)) (field : List ℕ) (p : Read) → next_record default_config s fields field [] ≡ Some p
    → (p.0 ≡ fields ++ field ∷ []) × (p.1 ≡ st.StartRecord) × (p.2 ≡ [])
unfolding next_record
at_end s fields field p e = elim (cases_Bool (ends_at_end s)) [
  | inl end ↦
      let same = sym (some_same (fields ++ field ∷ [], st.StartRecord, []) p (rw end at e)) in
      (ap (λ (q : Read). q.0) same, ap (λ (q : Read). q.1) same, ap (λ (q : Read). q.2) same)
  | inr on ↦ cc (rw on at e)
]

-- the record and the rest of the text at a byte that ends a record
at_byte : (s : State) (fields : List (List ℕ)) (field : List ℕ) (c : ℕ) (rest : List ℕ) (p : Read) → is_end (step default_config s c).1 ≡ true
    → next_record default_config s fields field (c ∷ rest) ≡ Some p → (p.0 ≡ fields_after (step default_config s c).1 fields field) × (p.2 ≡ rest)
unfolding next_record
at_byte s fields field c rest p end e =
    let same = sym (some_same (fields_after (step default_config s c).1 fields field, (step default_config s c).0, rest) p (rw end at e)) in
    (ap (λ (q : Read). q.0) same, ap (λ (q : Read). q.2) same)

-- a byte that doesn't end a record
past_byte : (s : State) (fields : List (List ℕ)) (field : List ℕ) (c : ℕ) (rest : List ℕ) → is_end (step default_config s c).1 ≡ false
    → next_record default_config s fields field (c ∷ rest)
    ≡ next_record default_config (step default_config s c).0 (fields_after (step default_config s c).1 fields field) (field_after (step default_config s c).1 c field) rest
unfolding next_record
past_byte s fields field c rest on = rw on refl

-- the rest of the text after a record is shorter than the text
shorter : (rest : List ℕ) (c : ℕ) (s : State) (fields : List (List ℕ)) (field : List ℕ) (p : Read)
    → next_record default_config s fields field (c ∷ rest) ≡ Some p → length p.2 ≤ length rest
shorter [] c s fields field p e = elim (cases_Bool (is_end (step default_config s c).1)) [
  | inl end ↦ rw ((at_byte s fields field c [] p end e).1) (omega arith)
  | inr on ↦ rw ((at_end _ _ _ p (sym (past_byte s fields field c [] on) ∙ e)).2) (omega arith)
]
shorter (d ∷ rest) c s fields field p e = elim (cases_Bool (is_end (step default_config s c).1)) [
  | inl end ↦ rw ((at_byte s fields field c (d ∷ rest) p end e).1) (omega arith)
  | inr on ↦
      let less = shorter rest d _ _ _ p (sym (past_byte s fields field c (d ∷ rest) on) ∙ e) in
      omega arith
]

-- a bound above the number of bytes gives the same records
none_left : (n : ℕ) → records_from default_config n st.StartRecord [] ≡ []
unfolding records_from next_record
none_left zero = refl
none_left (suc n) = refl

enough : (n m : ℕ) (s : State) (xs : List ℕ) → length xs < n → length xs < m → records_from default_config n s xs ≡ records_from default_config m s xs
unfolding records_from
enough zero m s xs a b = absurd (omega arith)
enough (suc n) zero s xs a b = absurd (omega arith)
enough (suc n) (suc m) s [] a b =
    elim (next_record default_config s [] [] []) as (λ o. next_record default_config s [] [] [] ≡ o → records_next (records_from default_config n) o ≡ records_next (records_from default_config m) o) [
      | None ↦ λ e. refl
      | Some p ↦ λ e. let end = at_end s [] [] p e in rw (end.1, end.2, none_left n, none_left m) refl
    ] refl
enough (suc n) (suc m) s (c ∷ rest) a b =
    elim (next_record default_config s [] [] (c ∷ rest)) as (λ o. next_record default_config s [] [] (c ∷ rest) ≡ o → records_next (records_from default_config n) o ≡ records_next (records_from default_config m) o) [
      | None ↦ λ e. refl
      | Some p ↦ λ e.
          let less = shorter rest c s [] [] p e in
          ap (λ (t : List (List (List ℕ))). p.0 ∷ t) (enough n m p.1 p.2 (omega arith) (omega arith))
    ] refl

-- the records of a text are its next record and the records of the rest
pub next_left : (s : State) (xs : List ℕ) (p : Read) → next_record default_config s [] [] xs ≡ Some p
    → records_left s (Some xs) ≡ p.0 ∷ records_left p.1 (Some p.2)
unfolding records_left records_from
next_left s [] p e =
    let end = at_end s [] [] p e in
    rw (e, end.1, end.2) (ap (λ (t : List (List (List ℕ))). p.0 ∷ t) (sym (none_left 1)))
next_left s (c ∷ rest) p e =
    let less = shorter rest c s [] [] p e in
    let same = enough (length (c ∷ rest)) (length p.2 + 1) p.1 p.2 (omega arith) (omega arith) in
    rw (add-one, e) (ap (λ (t : List (List (List ℕ))). p.0 ∷ t) same)

pub end_left : (s : State) (xs : List ℕ) → next_record default_config s [] [] xs ≡ None → records_left s (Some xs) ≡ []
unfolding records_left records_from
end_left s xs e = rw (add-one, e) refl

-- a field is at most as long as the text
abbrev AreAtMost : ℕ → List (List ℕ) → Type 0
AreAtMost n fields = AllByRecursion (λ (field : List ℕ). length field ≤ n) fields

one_more : (n : ℕ) (fields : List (List ℕ)) (field : List ℕ) → AreAtMost n fields → length field ≤ n → AreAtMost n (fields ++ field ∷ [])
one_more n [] field h small = (small, tt)
one_more n (f ∷ fields) field h small = (h.0, one_more n fields field h.1 small)

after_small : (a : Action) (n : ℕ) (c : ℕ) (fields : List (List ℕ)) (field : List ℕ) (k : ℕ) → AreAtMost n fields → length field + suc k ≤ n
    → AreAtMost n (fields_after a fields field) × (length (field_after a c field) + k ≤ n)
after_small act.Skip n c fields field k h small = (h, omega arith)
after_small act.Copy n c fields field k h small = (h, simp length-append (omega arith))
after_small act.EndField n c fields field k h small = (one_more n fields field h (omega arith), omega arith)
after_small act.EndRecord n c fields field k h small = (one_more n fields field h (omega arith), omega arith)

at_most : (xs : List ℕ) (n : ℕ) (s : State) (fields : List (List ℕ)) (field : List ℕ) (p : Read) → next_record default_config s fields field xs ≡ Some p
    → AreAtMost n fields → length field + length xs ≤ n → AreAtMost n p.0
at_most [] n s fields field p e h small = rw ((at_end s fields field p e).0) (one_more n fields field h (omega arith))
at_most (c ∷ rest) n s fields field p e h small =
    let after = after_small (step default_config s c).1 n c fields field (length rest) h small in
    elim (cases_Bool (is_end (step default_config s c).1)) [
      | inl end ↦ rw ((at_byte s fields field c rest p end e).0) after.0
      | inr on ↦ at_most rest n _ _ _ p (sym (past_byte s fields field c rest on) ∙ e) after.0 after.1
    ]

-- the effect of a read that found a record
pub record Took (old new : SliceReader) (fields : List (List ℕ)) : Type 0 where
  pub next : to_come old ≡ fields ∷ to_come new
  pub reading : IsReading new
  pub short : AreShort fields

less_left : (s : State) (xs : List ℕ) (p : Read) → next_record default_config s [] [] xs ≡ Some p → length p.2 ≤ length xs
less_left s [] p e = rw ((at_end s [] [] p e).2) (omega arith)
less_left s (c ∷ rest) p e = let less = shorter rest c s [] [] p e in omega arith

took_at : (old new : SliceReader) (fields : List (List ℕ)) (p : Read) (left rest : List ℕ) → left_of old ≡ Some left → length left ≤ table_limit
    → next_record default_config old.state [] [] left ≡ Some p → fields ≡ p.0 → p.1 ≡ new.state → p.2 ≡ rest → left_of new ≡ Some rest
    → (to_come old ≡ fields ∷ to_come new) × (length rest ≤ table_limit) × AreShort fields
took_at old new fields p left rest known small at fields_are state_is rest_is known_rest =
    let whole = ap (records_left old.state) known in
    let next = next_left old.state left p at in
    let same : p.0 ∷ records_left p.1 (Some p.2) ≡ fields ∷ to_come new = rw (fields_are, state_is, rest_is, known_rest) refl in
    let less = less_left old.state left p at in
    (whole ∙ next ∙ same, rw (← rest_is) (omega arith), rw fields_are (at_most left table_limit old.state [] [] p at tt (omega arith)))

pub took : (old new : SliceReader) (fields : List (List ℕ)) → IsReading old → Ready new → is_flexible new ≡ is_flexible old → ReadRecord (λ s. Some s.now) old new true fields → Took old new fields
unfolding Reached
took old new fields h ready lengths r =
    let m = rows-more (λ (s : Bor (List ℕ)). Some s.now) old new fields default_config old.state h.left h.left [] h.config h.left_is (refl, refl) r in
    let t = took_at old new fields m.2.0 h.left m.0 h.left_is h.small m.2.1 m.2.2 m.2.3.0 m.2.3.1 m.1 in
    record {
      next = t.0;
      reading = record { ready = ready; trim = r.3 ∙ h.trim; config = r.2 ∙ h.config; flexible = lengths ∙ h.flexible; left = m.0; left_is = m.1; small = t.1 };
      short = t.2;
    }

pub ended : (old new : SliceReader) (fields : List (List ℕ)) → IsReading old → ReadRecord (λ s. Some s.now) old new false fields → to_come old ≡ []
ended old new fields h r = rw h.left_is (end_left old.state h.left (rows-end (λ (s : Bor (List ℕ)). Some s.now) old new fields default_config h.left h.config h.left_is r))

-- the possible errors of a read from a slice
pub outside : (old new : SliceReader) (kind : ErrorKind) → IsReading old → ExplainsRead (λ s. Some s.now) old new false kind → IsOutside kind
outside old new (error.Io e) h why = tt
outside old new error.OutOfMemory h why = tt
outside old new (error.UnequalLengths pos expected len) h why = cc (sym h.flexible ∙ why.0)
outside old new (error.Utf8 pos err) h why = cc why.0
outside old new (error.Serialize text) h why = absurd why
outside old new (error.Deserialize pos err) h why = absurd why

pub stripped : (text : List ℕ) → length text ≤ table_limit → length (strip_bom text) ≤ table_limit
unfolding strip_bom
stripped [] h = h
stripped (a ∷ []) h = h
stripped (a ∷ b ∷ []) h = h
stripped (a ∷ b ∷ c ∷ rest) h = elim (cases_Bool (is_bom a b c)) [ inl bom ↦ rw bom (omega arith) | inr none ↦ rw none h ]
