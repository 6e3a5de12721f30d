-- Definitions for objects with arbitrary names: one result for each member, or the first name whose member is invalid.
use Rattle.std.specs.Prelude.{ℕ, List, [], ◌∷◌, ◌++◌, Bool, is_some, if◌then◌else◌, Option, Some, None, Result, Ok, Err}
use Rattle.serde_json.specs.Data.{Data, Members, no_members, member}
use Rattle.serde_json.specs.Find.{as_str}

-- an item in front of a list, if the list was read
abbrev pub in_front : {A E : Type 0} → A → Result (List A) E → Result (List A) E
in_front x (Ok xs) = Ok (x ∷ xs)
in_front x (Err name) = Err name

-- a list in front of another list, if that was read
abbrev pub onto : {A E : Type 0} → List A → Result (List A) E → Result (List A) E
onto xs (Ok ys) = Ok (xs ++ ys)
onto xs (Err name) = Err name

-- the result for a member in front of the other results, or the member's name if it is invalid
abbrev pub member_read : {A : Type 0} → List ℕ → Option A → Result (List A) (List ℕ) → Result (List A) (List ℕ)
member_read name (Some x) rest = in_front x rest
member_read name None rest = Err name

-- the result of f for each member, or the first name for which f gives None
abbrev pub each_member : {A : Type 0} → (List ℕ → Data → Option A) → Members → Result (List A) (List ℕ)
each_member f no_members = Ok []
each_member f (member name d ms) = member_read name (f name d) (each_member f ms)

-- the results for the members of an object, or the empty name if there is no object
abbrev pub each_in_object : {A : Type 0} → (List ℕ → Data → Option A) → Option Members → Result (List A) (List ℕ)
each_in_object f None = Err []
each_in_object f (Some ms) = each_member f ms

-- the first name whose member doesn't pass the test
abbrev pub first_bad : (List ℕ → Data → Bool) → Members → Option (List ℕ)
first_bad is_good no_members = None
first_bad is_good (member name d ms) = if is_good name d then first_bad is_good ms else Some name

-- the member is a text
abbrev pub is_text : List ℕ → Data → Bool
is_text name d = is_some (as_str d)
