-- The places that a PlaceLayout represents: evenly spaced, or listed one by one.
use Rattle.std.specs.Prelude.{ℕ, zero, suc, ◌+◌, ◌*◌, ◌^◌, ◌<◌, nat_le, if◌then◌else◌, List, [], ◌∷◌}
use Rattle.plain_pages.specs.declared.places.PlaceLayout.{PlaceLayout}
use Rattle.plain_pages.specs.declared.places.PlaceLayout.TheVariants.{Even, Listed, Wide}

-- n places from `first` on, each `step` after the previous one
abbrev pub even : ℕ → ℕ → ℕ → List ℕ
even first step zero = []
even first step (suc n) = first ∷ even (first + step) step n

-- the places that a layout represents
abbrev pub places_in : PlaceLayout → List ℕ
places_in (Even first step count) = even first step count
places_in (Listed places) = places.items
places_in (Wide places) = places.items

-- the place after the last evenly spaced one fits in 64 bits
abbrev pub AreSmall : PlaceLayout → Type 0
AreSmall (Even first step count) = first + step * count < 2 ^ 64
AreSmall (Listed places) = Unit {0}
AreSmall (Wide places) = Unit {0}

-- the places of up to n values of `size` each, one after another from `place` on, which end at or before `end`
abbrev pub stepped : ℕ → ℕ → ℕ → ℕ → List ℕ
stepped size end zero place = []
stepped size end (suc n) place = if nat_le (place + size) end then place ∷ stepped size end n (place + size) else []
