-- The text of a key is 32, 48 or 64 hex digits.
use Rattle.std.proofs.Common.{◌≡◌, ◌↔◌, ◌⊎◌, inl, inr, ℕ, ◌*◌, ◌%◌, ◌==◌, ◌||◌, Bool, true, false, List, length, Option, Some, None, IsSome, is_some, option_and_then, if◌then◌else◌, refl, ap, arith}
use Rattle.std.proofs.lemmas.Bool.Decides.{nat_tests}
use Rattle.std.specs.List.{AllPass}
use Rattle.json_text.specs.Hex.{is_hex_digit}
use Rattle.json_text.specs.Codings.{bytes_of_hex}
use Rattle.json_text.proofs.Codes.{hex_digits, hex_twice}
use Rattle.key_rights.specs.KeysFile.{as_key, key_of_text}

is_length : (n : ℕ) → (n == 16 || (n == 24 || n == 32)) ≡ true → (n ≡ 16) ⊎ ((n ≡ 24) ⊎ (n ≡ 32))
is_length n is = grind (arith, nat_tests)

length_is : (n : ℕ) → (n ≡ 16) ⊎ ((n ≡ 24) ⊎ (n ≡ 32)) → (n == 16 || (n == 24 || n == 32)) ≡ true
length_is n (inl is) = rw is refl
length_is n (inr (inl is)) = rw is refl
length_is n (inr (inr is)) = rw is refl

chosen : {T : Type 0} (test : Bool) (x : T) → IsSome (if test then Some x else None) → test ≡ true
chosen true x some = refl
chosen false x some = some

with_digits : (n m : ℕ) → m ≡ 2 * n → (n ≡ 16) ⊎ ((n ≡ 24) ⊎ (n ≡ 32)) → (m ≡ 32) ⊎ ((m ≡ 48) ⊎ (m ≡ 64))
with_digits n m twice (inl is) = inl (omega arith)
with_digits n m twice (inr (inl is)) = inr (inl (omega arith))
with_digits n m twice (inr (inr is)) = inr (inr (omega arith))

half_of : (n m : ℕ) → m ≡ 2 * n → (m ≡ 32) ⊎ ((m ≡ 48) ⊎ (m ≡ 64)) → (n ≡ 16) ⊎ ((n ≡ 24) ⊎ (n ≡ 32))
half_of n m twice (inl is) = inl (omega arith)
half_of n m twice (inr (inl is)) = inr (inl (omega arith))
half_of n m twice (inr (inr is)) = inr (inr (omega arith))

is_even : (m : ℕ) → (m ≡ 32) ⊎ ((m ≡ 48) ⊎ (m ≡ 64)) → m % 2 ≡ 0
is_even m (inl is) = rw is refl
is_even m (inr (inl is)) = rw is refl
is_even m (inr (inr is)) = rw is refl

some_key : (bytes : Option (List ℕ)) → IsSome (option_and_then as_key bytes) → (b : List ℕ) × (bytes ≡ Some b) × ((length b ≡ 16) ⊎ ((length b ≡ 24) ⊎ (length b ≡ 32)))
some_key (Some b) some = (b, refl, is_length (length b) (chosen _ b some))
some_key None some = cc some

some_of : {T : Type 0} (o : Option T) → IsSome o → (x : T) × (o ≡ Some x)
some_of (Some x) some = (x, refl)
some_of None some = cc some

is_key_of : (bytes : List ℕ) → (length bytes ≡ 16) ⊎ ((length bytes ≡ 24) ⊎ (length bytes ≡ 32)) → IsSome (as_key bytes)
is_key_of bytes long = rw (length_is (length bytes) long) refl

pub key_texts_are_hex : (text : List ℕ) → IsSome (key_of_text text) ↔ (((length text ≡ 32) ⊎ ((length text ≡ 48) ⊎ (length text ≡ 64))) × AllPass is_hex_digit text)
unfolding key_of_text
key_texts_are_hex text = (
  λ some.
      let key = some_key (bytes_of_hex text) some in
      let digits = (hex_digits text).0 (ap is_some key.1) in
      (with_digits (length key.0) (length text) (hex_twice text key.0 key.1).0 key.2, digits.1),
  λ digits.
      let found = some_of (bytes_of_hex text) ((hex_digits text).1 (is_even (length text) digits.0, digits.1)) in
      let long = half_of (length found.0) (length text) (hex_twice text found.0 found.1).0 digits.0 in
      rw found.1 (is_key_of found.0 long),
)
