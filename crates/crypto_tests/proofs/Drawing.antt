-- What the drawing maker makes, from the results of its draws.
use Rattle.std.proofs.Common.{◌≡◌, ℕ, zero, suc, ◌<◌, ◌≤◌, nat_le, true, false, Bool, List, [], ◌∷◌, ◌++◌, take, drop, length, Option, Some, None, option_map, IfSome, Ok, refl, sym, ◌∙◌, ap, subst, arith, take-append-drop}
use Rattle.std.specs.List.{All}
use Rattle.pme_base.specs.Outside.{IsDrawn}
use Rattle.key_rights.specs.declared.nonces.NonceOwner.{NonceOwner}
use Rattle.key_rights.specs.declared.nonces.NonceOwner.TheVariants.{Master}
use Rattle.key_rights.specs.Making.{Request, IsPart, TakesDrawn, behaviour_of, draws_of, onto}
use Rattle.key_rights.specs.Nonces.{Taken, is_taken, with_taken}
use Rattle.crypto_tests.specs.Drawing.{drawing_step}

-- bytes that were drawn after the first `n` are a part of the bytes that were to come
part_of : (come mid : Option (List ℕ)) (n : ℕ) (nonce : List ℕ) → mid ≡ option_map (drop n) come → IfSome mid (λ bytes. IsDrawn bytes nonce) → IfSome come (λ bytes. IsPart nonce bytes)
part_of None mid n nonce e h = tt
part_of (Some bytes) None n nonce e h = absurd cc
part_of (Some bytes) (Some rest) n nonce e h =
    let same : rest ≡ drop n bytes = cc in
    record {
      before = take n bytes;
      after = drop (length nonce) rest;
      parts = sym (ap (λ r. take n bytes ++ r) (ap (λ f. f ++ drop (length nonce) rest) h.next ∙ take-append-drop (length nonce) rest ∙ same) ∙ take-append-drop n bytes);
    }

single : {X : Type 0} (P : X → Type 0) (x : X) → P x → All P (x ∷ [])
single P x h zero d below = h
single P x h (suc k) d below = absurd (no_less k below)
  where
    no_less : (k : ℕ) → suc k < 1 → ⊥
    no_less k below = grind arith

-- a nonce that was drawn after `n` other bytes was taken, and no other one
pub took : (before after : Taken) (come mid : Option (List ℕ)) (n : ℕ) (owner : NonceOwner) (nonce : List ℕ) → after ≡ with_taken before owner nonce
    → mid ≡ option_map (drop n) come → IfSome mid (λ bytes. IsDrawn bytes nonce) → TakesDrawn before after come
took before after come mid n owner nonce taken e h = record {
  uses = (owner, nonce) ∷ [];
  taken = taken;
  drawn = one come (part_of come mid n nonce e h);
}
  where
    one : (come : Option (List ℕ)) → IfSome come (λ bytes. IsPart nonce bytes) → IfSome come (λ bytes. All (λ (used : NonceOwner × List ℕ). IsPart used.1 bytes) ((owner, nonce) ∷ []))
    one None h = tt
    one (Some bytes) h = single (λ used. IsPart used.1 bytes) (owner, nonce) h

enough : (n : ℕ) (bytes drawn : List ℕ) → length drawn ≡ n → IsDrawn bytes drawn → nat_le n (length bytes) ≡ true
enough n bytes drawn size h = let least : length drawn ≤ length bytes = h.enough in grind arith

first_of : (n : ℕ) (bytes drawn : List ℕ) → length drawn ≡ n → IsDrawn bytes drawn → drawn ≡ take n bytes
first_of n bytes drawn size h = subst (λ m. drawn ≡ take m bytes) size h.next

step_is : (footer : Bool) (id bytes : List ℕ) (taken : Taken) → nat_le 1 (length id) ≡ true → nat_le 16 (length bytes) ≡ true → nat_le 12 (length (drop 16 bytes)) ≡ true
    → is_taken taken (Master id) (take 12 (drop 16 bytes)) ≡ false
    → drawing_step tt (record { footer = footer; id = id }) (record { rest = bytes; taken = taken })
    ≡ Ok (record { key = take 16 bytes; metadata = take 12 (drop 16 bytes) }, tt, record { rest = drop 12 (drop 16 bytes); taken = with_taken taken (Master id) (take 12 (drop 16 bytes)) })
step_is footer id bytes taken named key nonce fresh = rw (named, key, nonce, fresh) refl

-- a key and a nonce were drawn, and the nonce was taken
pub made_ok : (footer : Bool) (id : List ℕ) (come mid left : Option (List ℕ)) (taken after : Taken) (key nonce : List ℕ) → nat_le 1 (length id) ≡ true
    → mid ≡ option_map (drop (length key)) come → left ≡ option_map (drop (length nonce)) mid
    → IfSome come (λ bytes. IsDrawn bytes key) → IfSome mid (λ bytes. IsDrawn bytes nonce) → length key ≡ 16 → length nonce ≡ 12
    → is_taken taken (Master id) nonce ≡ false → after ≡ with_taken taken (Master id) nonce → (requests : List Request)
    → option_map (behaviour_of drawing_step (λ _. None) tt (record { footer = footer; id = id } ∷ requests)) (draws_of come taken)
    ≡ option_map (λ draws. onto (record { key = key; metadata = nonce }) (behaviour_of drawing_step (λ _. None) tt requests draws)) (draws_of left after)
made_ok footer id None mid left taken after key nonce named m l dk dn sk sn fresh t requests =
    let none : left ≡ None = rw (l, m) refl in
    rw none refl
made_ok footer id (Some bytes) mid left taken after key nonce named m l dk dn sk sn fresh t requests =
    let middle : mid ≡ Some (drop 16 bytes) = rw (m, sk) refl in
    let rest : left ≡ Some (drop 12 (drop 16 bytes)) = rw (l, middle, sn) refl in
    let drawn : IsDrawn (drop 16 bytes) nonce = subst (λ (o : Option (List ℕ)). IfSome o (λ b. IsDrawn b nonce)) middle dn in
    let first : key ≡ take 16 bytes = first_of 16 bytes key sk dk in
    let second : nonce ≡ take 12 (drop 16 bytes) = first_of 12 (drop 16 bytes) nonce sn drawn in
    let step = step_is footer id bytes taken named (enough 16 bytes key sk dk) (enough 12 (drop 16 bytes) nonce sn drawn) (subst (λ n. is_taken taken (Master id) n ≡ false) second fresh) in
    rw (rest, t, step, second, first) refl
