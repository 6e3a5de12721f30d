-- Lemmas that split a module into its parts and join them again.
use Rattle.std.proofs.Common.{◌≡◌, ℕ, ◌+◌, ◌-◌, ◌≤◌, List, ◌++◌, length, take, drop, refl, sym, ap, ◌∙◌, arith, length-append}
use Rattle.std.proofs.lemmas.List.{take-append-drop, drop-drop, take_at, drop_at}
use Rattle.crypto_module.specs.Modules.{nonce_of, cipher_of, stored_of}

pub cut : (m : List ℕ) → 32 ≤ length m → m ≡ take 4 m ++ (nonce_of m ++ (cipher_of m ++ stored_of m))
cut m h =
    let place : 16 + (length m - 32) ≡ length m - 16 = omega arith in
    let last : drop (length m - 32) (drop 16 m) ≡ stored_of m = drop-drop (length m - 32) 16 m ∙ ap (λ k. drop k m) place in
    let behind : drop 16 m ≡ cipher_of m ++ stored_of m = sym (take-append-drop (length m - 32) (drop 16 m)) ∙ ap (λ t. cipher_of m ++ t) last in
    let middle : drop 4 m ≡ nonce_of m ++ drop 16 m = sym (take-append-drop 12 (drop 4 m)) ∙ ap (λ t. nonce_of m ++ t) (drop-drop 12 4 m) in
    sym (take-append-drop 4 m) ∙ ap (λ t. take 4 m ++ t) (middle ∙ ap (λ t. nonce_of m ++ t) behind)

pub record HasParts (m head nonce cipher tag : List ℕ) : Type 0 where
  pub long : length m ≡ 32 + length cipher
  pub head_is : take 4 m ≡ head
  pub nonce_is : nonce_of m ≡ nonce
  pub cipher_is : cipher_of m ≡ cipher
  pub stored_is : stored_of m ≡ tag

pub joined : (m head nonce cipher tag : List ℕ) → m ≡ head ++ (nonce ++ (cipher ++ tag)) → length head ≡ 4 → length nonce ≡ 12 → length tag ≡ 16
    → HasParts m head nonce cipher tag
joined m head nonce cipher tag e four twelve sixteen =
    let long : length m ≡ 32 + length cipher =
    omega (arith, ap length e, length-append head (nonce ++ (cipher ++ tag)), length-append nonce (cipher ++ tag), length-append cipher tag) in
    let after_head : drop 4 m ≡ nonce ++ (cipher ++ tag) = ap (drop 4) e ∙ drop_at head _ 4 four in
    let after_nonce : drop 16 m ≡ cipher ++ tag = sym (drop-drop 12 4 m) ∙ ap (drop 12) after_head ∙ drop_at nonce _ 12 twelve in
    let text : length cipher ≡ length m - 32 = omega arith in
    let last : length m - 16 ≡ 16 + length cipher = omega arith in
    record {
      long = long;
      head_is = ap (take 4) e ∙ take_at head _ 4 four;
      nonce_is = ap (take 12) after_head ∙ take_at nonce _ 12 twelve;
      cipher_is = ap (take (length m - 32)) after_nonce ∙ take_at cipher tag _ text;
      stored_is = ap (λ k. drop k m) last ∙ sym (drop-drop (length cipher) 16 m) ∙ ap (drop (length cipher)) after_nonce ∙ drop_at cipher tag _ refl;
    }
