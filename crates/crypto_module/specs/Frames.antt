-- The frame of a module: a length field of 4 bytes, little-endian, and the bytes that it counts. The functions here give the
-- size of a whole module from its first bytes and the number of bytes after them, or the error.
use Rattle.std.specs.Prelude.{ℕ, ◌+◌, ◌-◌, ◌^◌, Bool, true, false, nat_lt, ◌&&◌, if◌then◌else◌, min, List, length, take, Result, Ok, Err}
use Rattle.std.specs.Int.{w32, from_le_bytes}
use Rattle.pme_base.specs.declared.place.Place.{Place}
use Rattle.pme_base.specs.declared.refusal.Cause.{Cause}
use Rattle.pme_base.specs.declared.refusal.Cause.TheVariants.{Truncated, BadLength, BadTag, TooLarge}
use Rattle.pme_base.specs.declared.refusal.Refusal.{Refusal}
use Rattle.pme_base.specs.Refusals.{pair_refusal}
use Rattle.pme_base.specs.Steps.{◌>>=◌}
use Rattle.crypto_module.specs.declared.frame.ModuleKind.{ModuleKind}
use Rattle.crypto_module.specs.declared.frame.ModuleKind.TheVariants.{Gcm, Ctr}

-- the bytes that the length field counts in addition to the ciphertext: the nonce, and in GCM the tag
abbrev pub overhead : ModuleKind → ℕ
overhead Gcm = 28
overhead Ctr = 12

-- the size of a module whose length field is n, where `room` bytes follow the field
abbrev pub counted_size : ModuleKind → Place → ℕ → ℕ → ℕ → ℕ → Result ℕ Refusal
counted_size kind place at limit n room =
    if nat_lt n (overhead kind) then Err (pair_refusal BadLength place at n room)
    else if nat_lt limit (n - overhead kind) then Err (pair_refusal TooLarge place at (n - overhead kind) limit)
    else if nat_lt room n then Err (pair_refusal Truncated place at (4 + n) (min (4 + room) (2 ^ 64 - 1)))
    else Ok (4 + n)

-- the size of a module from its first bytes, of which only the four of the length field are used
abbrev pub frame_size : ModuleKind → Place → ℕ → ℕ → List ℕ → ℕ → Result ℕ Refusal
frame_size kind place at limit head room =
    if nat_lt (length head) 4 then Err (pair_refusal Truncated place at 4 (length head))
    else counted_size kind place at limit (from_le_bytes w32 (take 4 head)) room

-- checks that a module of this size takes up all the room, if `fill` requires it
abbrev pub check_fill : Bool → Place → ℕ → ℕ → ℕ → Result ℕ Refusal
check_fill fill place at room size =
    if fill && nat_lt (size - 4) room then Err (pair_refusal BadLength place at (size - 4) room) else Ok size

-- the size of a module, which must take up all the room if `fill` requires it
abbrev pub checked_frame_size : Bool → ModuleKind → Place → ℕ → ℕ → List ℕ → ℕ → Result ℕ Refusal
checked_frame_size fill kind place at limit head room = frame_size kind place at limit head room >>= check_fill fill place at room

-- the size of the GCM module at the front of these bytes
abbrev pub gcm_size : Place → ℕ → ℕ → Bool → List ℕ → Result ℕ Refusal
gcm_size place at limit fill bytes = checked_frame_size fill Gcm place at limit (take 4 bytes) (length bytes - 4)

-- the size of the CTR module at the front of these bytes
abbrev pub ctr_size : Place → ℕ → ℕ → List ℕ → Result ℕ Refusal
ctr_size place at limit bytes = frame_size Ctr place at limit (take 4 bytes) (length bytes - 4)

-- the causes of a frame, and of a module
abbrev pub is_frame_cause : Cause → Bool
is_frame_cause Truncated = true
is_frame_cause BadLength = true
is_frame_cause TooLarge = true
is_frame_cause _ = false

abbrev pub is_module_cause : Cause → Bool
is_module_cause BadTag = true
is_module_cause cause = is_frame_cause cause
