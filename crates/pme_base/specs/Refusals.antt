-- Building refusals in definitions; and the causes that come from outside.
use Rattle.std.specs.Prelude.{ℕ, Bool, true, false}
use Rattle.pme_base.specs.declared.place.Place.{Place}
use Rattle.pme_base.specs.declared.place.PlaceKind.TheVariants as kind_of
use Rattle.pme_base.specs.declared.refusal.Cause.{Cause}
use Rattle.pme_base.specs.declared.refusal.Cause.TheVariants.{OutOfMemory, ReadFault, WriteFault, RandomFault, ServiceFault}
use Rattle.pme_base.specs.declared.refusal.Detail.{Detail}
use Rattle.pme_base.specs.declared.refusal.Detail.TheVariants.{Nothing, Pair}
use Rattle.pme_base.specs.declared.refusal.Refusal.{Refusal}
use Rattle.pme_base.specs.Places.{place_of}

abbrev pub refusal_at : Cause → Place → ℕ → Detail → Refusal
refusal_at cause place at detail = record { cause = cause; place = place; at = at; detail = detail }

-- a refusal with two numbers
abbrev pub pair_refusal : Cause → Place → ℕ → ℕ → ℕ → Refusal
pair_refusal cause place at first second = refusal_at cause place at (Pair first second)

-- a refusal without a place, an offset or values
abbrev pub plain_refusal : Cause → Refusal
plain_refusal cause = refusal_at cause (place_of kind_of.File 0 0 0) 0 Nothing

-- a fault outside: a read, a write, a draw of random bytes or a call of a key service failed
abbrev pub is_fault : Cause → Bool
is_fault ReadFault = true
is_fault WriteFault = true
is_fault RandomFault = true
is_fault ServiceFault = true
is_fault _ = false

-- a cause that may end a call at any step, whatever its inputs: a fault outside, or a failed allocation
abbrev pub is_free : Cause → Bool
is_free OutOfMemory = true
is_free ReadFault = true
is_free WriteFault = true
is_free RandomFault = true
is_free ServiceFault = true
is_free _ = false
