-- Which texts are policies, by the members of the object, whatever their order.
use Rattle.std.specs.Prelude.{◌≡◌, ◌⊎◌, ℕ, true, false, List, [], Some, None, IsSome, Ok, Err}
use Rattle.std.specs.Ordering.{nat_cmp}
use Rattle.std.specs.declared.cmp.Ordering.TheVariants.{Less}
use Rattle.std.specs.Cmp.Lexicographic.{slice_cmp}
use Rattle.json_text.specs.Data.{Data}
use Rattle.json_text.specs.Find.{get, as_object}
use Rattle.json_text.specs.Json.{json_of, object_of}
use Rattle.key_material.specs.declared.policy.Policy.{Policy}
use Rattle.key_material.specs.Names as name
use Rattle.key_material.specs.PolicyText.{is_good, is_uniform, footer_id, settings, policy_of_text}

-- every name is known and has a valid value
abbrev pub AllGood : Data → Type 0
AllGood d = (n : List ℕ) (value : Data) → get n d ≡ Some value → is_good (is_uniform d) n value ≡ true

-- the name is bad, and no name before it in byte order is
pub record IsFirstBad (d : Data) (n : List ℕ) : Type 0 where
  pub value : Data
  pub stands : get n d ≡ Some value
  pub bad : is_good (is_uniform d) n value ≡ false
  pub first : (m : List ℕ) (other : Data) → slice_cmp nat_cmp m n ≡ Less → get m d ≡ Some other → is_good (is_uniform d) m other ≡ true

-- no name gives the footer key
abbrev pub HasNoKey : Data → Type 0
HasNoKey d = (get name.uniform_key d ≡ None) × (get name.footer_key d ≡ None)

-- the object is refused for that name
abbrev pub IsRefusedBy : Data → List ℕ → Type 0
IsRefusedBy d n = IsFirstBad d n ⊎ (AllGood d × HasNoKey d × (n ≡ name.footer_key))

-- an accepted text is an object whose names are all good, and one of them gives the footer key
abbrev pub AcceptedAreGood : Type 0
AcceptedAreGood = (bytes : List ℕ) (policy : Policy) → policy_of_text bytes ≡ Ok policy
    → (d : Data) × (json_of bytes ≡ Some d) × IsSome (as_object d) × AllGood d × ((id : List ℕ) × (footer_id d ≡ Some id) × (policy ≡ settings d id))

-- a refused text isn't an object, or is an object that is refused for that name
abbrev pub RefusedAreBad : Type 0
RefusedAreBad = (bytes : List ℕ) (n : List ℕ) → policy_of_text bytes ≡ Err n
    → ((object_of bytes ≡ None) × (n ≡ [])) ⊎ ((d : Data) × (json_of bytes ≡ Some d) × IsSome (as_object d) × IsRefusedBy d n)
