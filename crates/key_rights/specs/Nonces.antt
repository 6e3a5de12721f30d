-- Sets of used nonces, each with its owner.
use Rattle.std.specs.Prelude.{◌≡◌, ℕ, Bool, true, false, List, ◌∷◌, ◌++◌, length, ◌↔◌, ◌⊎◌}
use Rattle.std.specs.Ordering.{nat_cmp}
use Rattle.std.specs.Cmp.Lexicographic.{slice_cmp}
use Rattle.std.specs.FinSet as set
use Rattle.key_rights.specs.declared.nonces.NonceOwner.{NonceOwner}
use Rattle.key_rights.specs.declared.nonces.NonceOwner.TheVariants.{Key, Master}

-- a set of entries, ordered by their bytes
abbrev pub Taken : Type 0
Taken = set.FinSet (slice_cmp nat_cmp)

-- the entry for a nonce and its owner: a byte for the kind of owner, the bytes of the owner, and the nonce
abbrev pub entry : NonceOwner → List ℕ → List ℕ
entry (Key bytes) nonce = (0 ∷ bytes) ++ nonce
entry (Master id) nonce = (1 ∷ id) ++ nonce

-- whether the owner has used the nonce
abbrev pub is_taken : Taken → NonceOwner → List ℕ → Bool
is_taken taken owner nonce = set.contains taken (entry owner nonce)

-- the set after the owner has used the nonce
abbrev pub with_taken : Taken → NonceOwner → List ℕ → Taken
with_taken taken owner nonce = set.insert taken (entry owner nonce)

-- different pairs of an owner and a nonce have different entries
abbrev pub DistinctEntries : Type 0
DistinctEntries = (o p : NonceOwner) (m n : List ℕ) → length m ≡ 12 → length n ≡ 12 → entry o m ≡ entry p n → (o ≡ p) × (m ≡ n)

-- the empty set holds no pair
abbrev pub NoneTaken : Type 0
NoneTaken = (owner : NonceOwner) (nonce : List ℕ) → is_taken set.empty owner nonce ≡ false

-- taking a nonce adds that pair and no other one
abbrev pub OneTaken : Type 0
OneTaken = (taken : Taken) (o p : NonceOwner) (m n : List ℕ) → length m ≡ 12 → length n ≡ 12
    → (is_taken (with_taken taken o m) p n ≡ true) ↔ (((o ≡ p) × (m ≡ n)) ⊎ (is_taken taken p n ≡ true))
