-- An entry determines its owner and its nonce.
use Rattle.std.proofs.Common.{◌≡◌, ◌↔◌, ◌⊎◌, inl, inr, ℕ, Bool, true, false, ◌||◌, List, ◌∷◌, ◌++◌, length, take, drop, slice_index, refl, sym, ap, ◌∙◌, arith}
use Rattle.std.specs.declared.cmp.Ordering.TheVariants.{Less, Equal, Greater}
use Rattle.std.specs.Ordering.{nat_cmp, is_eq, eq_by_cmp}
use Rattle.std.specs.Cmp.{tied_itself}
use Rattle.std.specs.Cmp.Lexicographic.{slice_cmp, nat_list_cmp_total}
use Rattle.std.specs.FinSet.{contains, empty, contains-insert, contains-empty, nat_cmp-IsAntisymmetric, slice_cmp-IsAntisymmetric}
use Rattle.std.proofs.lemmas.List.{length-append}
use Rattle.std.proofs.Math.Seq.{take-append_seam, drop-append_seam}
use Rattle.key_rights.specs.declared.nonces.NonceOwner.{NonceOwner}
use Rattle.key_rights.specs.declared.nonces.NonceOwner.TheVariants.{Key, Master}
use Rattle.key_rights.specs.Nonces.{Taken, entry, is_taken, with_taken}

-- equal lists whose last parts have equal lengths have equal parts
split : (a b m n : List ℕ) → length m ≡ length n → a ++ m ≡ b ++ n → (a ≡ b) × (m ≡ n)
split a b m n long same =
    let fronts : length a ≡ length b = omega (arith, long, ap length same, length-append a m, length-append b n) in (
      sym (take-append_seam a m) ∙ ap (take (length a)) same ∙ ap (λ k. take k (b ++ n)) fronts ∙ take-append_seam b n,
      sym (drop-append_seam a m) ∙ ap (drop (length a)) same ∙ ap (λ k. drop k (b ++ n)) fronts ∙ drop-append_seam b n,
    )

distinct_numbers : (x y : ℕ) → x ≡ y → x ≡ 0 → y ≡ 1 → ⊥
distinct_numbers x y same zero_x one_y = omega arith

other_kinds : (a b : List ℕ) → 0 ∷ a ≡ 1 ∷ b → ⊥
other_kinds a b same = distinct_numbers (slice_index (0 ∷ a) 0) (slice_index (1 ∷ b) 0) (ap (λ (l : List ℕ). slice_index l 0) same) refl refl

pub distinct_entries : (o p : NonceOwner) (m n : List ℕ) → length m ≡ 12 → length n ≡ 12 → entry o m ≡ entry p n → (o ≡ p) × (m ≡ n)
distinct_entries (Key a) (Key b) m n long_m long_n same =
    let parts = split (0 ∷ a) (0 ∷ b) m n (long_m ∙ sym long_n) same in (cc parts.0, parts.1)
distinct_entries (Master a) (Master b) m n long_m long_n same =
    let parts = split (1 ∷ a) (1 ∷ b) m n (long_m ∙ sym long_n) same in (cc parts.0, parts.1)
distinct_entries (Key a) (Master b) m n long_m long_n same = absurd (other_kinds (a ++ m) (b ++ n) same)
distinct_entries (Master a) (Key b) m n long_m long_n same = absurd (other_kinds (b ++ n) (a ++ m) (sym same))

pub none_taken : (owner : NonceOwner) (nonce : List ℕ) → contains (empty {R = slice_cmp nat_cmp}) (entry owner nonce) ≡ false
none_taken owner nonce = contains-empty (slice_cmp nat_cmp) (entry owner nonce)

-- membership of an entry after another one has been inserted
is_either : (x y : List ℕ) (rest : Bool) → (eq_by_cmp (slice_cmp nat_cmp) x y || rest) ≡ true → (x ≡ y) ⊎ (rest ≡ true)
is_either x y rest =
    elim (slice_cmp nat_cmp x y) as (λ o. slice_cmp nat_cmp x y ≡ o → (is_eq o || rest) ≡ true → (x ≡ y) ⊎ (rest ≡ true)) [
      | Less ↦ λ _ h. inr h
      | Equal ↦ λ tie _. inl (slice_cmp-IsAntisymmetric nat_cmp-IsAntisymmetric x y tie)
      | Greater ↦ λ _ h. inr h
    ] refl

same_or : (x y : List ℕ) (rest : Bool) → x ≡ y → (eq_by_cmp (slice_cmp nat_cmp) x y || rest) ≡ true
same_or x y rest same =
    ap (λ z. eq_by_cmp (slice_cmp nat_cmp) x z || rest) (sym same) ∙ ap (λ o. is_eq o || rest) (tied_itself nat_list_cmp_total x)

or_true : (a : Bool) → (a || true) ≡ true
or_true true = refl
or_true false = refl

pub one_taken : (taken : Taken) (o p : NonceOwner) (m n : List ℕ) → length m ≡ 12 → length n ≡ 12
    → (is_taken (with_taken taken o m) p n ≡ true) ↔ (((o ≡ p) × (m ≡ n)) ⊎ (is_taken taken p n ≡ true))
one_taken taken o p m n long_m long_n = (there, back)
  where
    asks : is_taken (with_taken taken o m) p n ≡ (eq_by_cmp (slice_cmp nat_cmp) (entry p n) (entry o m) || is_taken taken p n)
    asks = contains-insert nat_list_cmp_total taken (entry o m) (entry p n)

    there : is_taken (with_taken taken o m) p n ≡ true → ((o ≡ p) × (m ≡ n)) ⊎ (is_taken taken p n ≡ true)
    there h =
        elim (is_either (entry p n) (entry o m) (is_taken taken p n) (sym asks ∙ h)) [
          | inl same ↦ inl (distinct_entries o p m n long_m long_n (sym same))
          | inr before ↦ inr before
        ]

    back : ((o ≡ p) × (m ≡ n)) ⊎ (is_taken taken p n ≡ true) → is_taken (with_taken taken o m) p n ≡ true
    back (inl same) = asks ∙ same_or (entry p n) (entry o m) _ (ap (λ w. entry w n) (sym same.0) ∙ ap (entry o) (sym same.1))
    back (inr before) = asks ∙ ap (λ b. eq_by_cmp (slice_cmp nat_cmp) (entry p n) (entry o m) || b) before ∙ or_true _
