-- The conditions under which the frame of a module gives a size.
use Rattle.std.proofs.Common.{◌≡◌, ℕ, ◌+◌, ◌-◌, ◌≤◌, Bool, true, List, length, take, arith, Ok}
use Rattle.std.proofs.lemmas.Bool.{le-ltb}
use Rattle.std.proofs.lemmas.Bool.Decides.{nat_tests}
use Rattle.std.specs.Int.{w32, from_le_bytes}
use Rattle.pme_base.specs.declared.place.Place.{Place}
use Rattle.crypto_module.specs.Frames.{gcm_size, ctr_size}

pub record IsSized (limit : ℕ) (fill : Bool) (bytes : List ℕ) (size : ℕ) : Type 0 where
  pub least : 32 ≤ size
  pub limited : size ≤ limit + 32
  pub inside : size ≤ length bytes
  pub fills : fill ≡ true → size ≡ length bytes
  pub counted : from_le_bytes w32 (take 4 bytes) ≡ size - 4

pub sized_is : (place : Place) (at limit : ℕ) (fill : Bool) (bytes : List ℕ) (size : ℕ) → gcm_size place at limit fill bytes ≡ Ok size → IsSized limit fill bytes size
sized_is place at limit fill bytes size e = grind (arith, nat_tests)

pub sized_from : (place : Place) (at limit : ℕ) (fill : Bool) (bytes : List ℕ) (size : ℕ) → IsSized limit fill bytes size → gcm_size place at limit fill bytes ≡ Ok size
sized_from place at limit fill bytes size h = grind (arith, nat_tests, le-ltb)

pub record IsCtrSized (limit : ℕ) (bytes : List ℕ) (size : ℕ) : Type 0 where
  pub least : 16 ≤ size
  pub limited : size ≤ limit + 16
  pub inside : size ≤ length bytes
  pub counted : from_le_bytes w32 (take 4 bytes) ≡ size - 4

pub ctr_sized_is : (place : Place) (at limit : ℕ) (bytes : List ℕ) (size : ℕ) → ctr_size place at limit bytes ≡ Ok size → IsCtrSized limit bytes size
ctr_sized_is place at limit bytes size e = grind (arith, nat_tests)

pub ctr_sized_from : (place : Place) (at limit : ℕ) (bytes : List ℕ) (size : ℕ) → IsCtrSized limit bytes size → ctr_size place at limit bytes ≡ Ok size
ctr_sized_from place at limit bytes size h = grind (arith, nat_tests, le-ltb)
