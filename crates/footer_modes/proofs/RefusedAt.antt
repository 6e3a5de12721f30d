-- The refusals of the footer's module and of its signature stand at the footer.
use Rattle.std.proofs.Common.{◌≡◌, ℕ, ◌+◌, ◌-◌, ◌^◌, ◌&&◌, min, Bool, true, false, nat_lt, if◌then◌else◌, List, length, take, refl, ap, ◌∙◌, sym, Result, Ok, Err}
use Rattle.std.specs.Int.{w32, from_le_bytes}
use Rattle.std.specs.Str.{bytes_eq}
use Rattle.pme_base.specs.declared.place.Place.{Place}
use Rattle.pme_base.specs.declared.refusal.Cause.TheVariants.{Truncated, BadLength, BadTag, TooLarge}
use Rattle.pme_base.specs.declared.refusal.Detail.TheVariants.{Tags}
use Rattle.pme_base.specs.declared.refusal.Refusal.{Refusal}
use Rattle.pme_base.specs.Refusals.{refusal_at, pair_refusal}
use Rattle.pme_base.proofs.Chain.{err_same, bind_refused}
use Rattle.gcm_seal.specs.Gcm.{gctr, tag_of}
use Rattle.crypto_module.specs.declared.frame.ModuleKind.{ModuleKind}
use Rattle.crypto_module.specs.declared.frame.ModuleKind.TheVariants.{Gcm}
use Rattle.crypto_module.specs.Frames.{overhead, counted_size, frame_size, check_fill, gcm_size}
use Rattle.crypto_module.specs.Modules.{nonce_of, cipher_of, stored_of}
use Rattle.crypto_module.specs.Opening.{unsealed_whole, opened}

module _ {T : Type 0} (place : Place) where
  -- a choice between a refusal and a further result
  refused_or : (b : Bool) (x r : Refusal) (rest : Result T Refusal) → x.place ≡ place → (rest ≡ Err r → r.place ≡ place)
      → (if b then Err x else rest) ≡ Err r → r.place ≡ place
  refused_or true x r rest here later e = ap (λ (y : Refusal). y.place) (sym (err_same {T = T} x r e)) ∙ here
  refused_or false x r rest here later e = later e

  passed_or : (b : Bool) (value : T) (x r : Refusal) → x.place ≡ place → (if b then Ok value else Err x) ≡ Err r → r.place ≡ place
  passed_or true value x r here e = cc
  passed_or false value x r here e = ap (λ (y : Refusal). y.place) (sym (err_same {T = T} x r e)) ∙ here

no_refusal : (n : ℕ) (place : Place) (r : Refusal) → ◌≡◌ {A = Result ℕ Refusal} (Ok n) (Err r) → r.place ≡ place
no_refusal n place r e = cc

three_tests : (place : Place) (a b c : Bool) (x y z r : Refusal) (n : ℕ) → x.place ≡ place → y.place ≡ place → z.place ≡ place
    → (if a then Err x else if b then Err y else if c then Err z else Ok n) ≡ Err r → r.place ≡ place
three_tests place true b c x y z r n first second third e = ap (λ (w : Refusal). w.place) (sym (err_same {T = ℕ} x r e)) ∙ first
three_tests place false true c x y z r n first second third e = ap (λ (w : Refusal). w.place) (sym (err_same {T = ℕ} y r e)) ∙ second
three_tests place false false true x y z r n first second third e = ap (λ (w : Refusal). w.place) (sym (err_same {T = ℕ} z r e)) ∙ third
three_tests place false false false x y z r n first second third e = cc

sized_at : (kind : ModuleKind) (place : Place) (at limit n room : ℕ) (r : Refusal) → counted_size kind place at limit n room ≡ Err r → r.place ≡ place
sized_at kind place at limit n room r e =
    three_tests place (nat_lt n (overhead kind)) (nat_lt limit (n - overhead kind)) (nat_lt room n)
    (pair_refusal BadLength place at n room) (pair_refusal TooLarge place at (n - overhead kind) limit)
    (pair_refusal Truncated place at (4 + n) (min (4 + room) (2 ^ 64 - 1))) r (4 + n) refl refl refl e

framed_at : (kind : ModuleKind) (place : Place) (at limit : ℕ) (head : List ℕ) (room : ℕ) (r : Refusal) → frame_size kind place at limit head room ≡ Err r → r.place ≡ place
framed_at kind place at limit head room r e =
    refused_or place (nat_lt (length head) 4) (pair_refusal Truncated place at 4 (length head)) r
    (counted_size kind place at limit (from_le_bytes w32 (take 4 head)) room) refl (sized_at kind place at limit (from_le_bytes w32 (take 4 head)) room r) e

filled_at : (fill : Bool) (place : Place) (at room size : ℕ) (r : Refusal) → check_fill fill place at room size ≡ Err r → r.place ≡ place
filled_at fill place at room size r e =
    refused_or place (fill && nat_lt (size - 4) room) (pair_refusal BadLength place at (size - 4) room) r (Ok size) refl (no_refusal size place r) e

unsealed_at : (key associated : List ℕ) (place : Place) (at : ℕ) (bytes : List ℕ) (r : Refusal) → unsealed_whole key associated place at bytes ≡ Err r → r.place ≡ place
unsealed_at key associated place at bytes r e =
    let expected = tag_of key (nonce_of bytes) associated (cipher_of bytes) in
    passed_or place (bytes_eq expected (stored_of bytes)) (gctr key (nonce_of bytes) 2 (cipher_of bytes)) (refusal_at BadTag place at (Tags expected (stored_of bytes))) r refl e

-- a module's refusals stand at its place
pub opened_at : (key associated : List ℕ) (place : Place) (at limit : ℕ) (fill : Bool) (bytes : List ℕ) (r : Refusal)
    → opened key associated place at limit fill bytes ≡ Err r → r.place ≡ place
opened_at key associated place at limit fill bytes r e =
    bind_refused (r.place ≡ place) (gcm_size place at limit fill bytes) (λ size. unsealed_whole key associated place at (take size bytes)) r e
    (λ f. bind_refused (r.place ≡ place) (frame_size Gcm place at limit (take 4 bytes) (length bytes - 4)) (check_fill fill place at (length bytes - 4)) r f
    (framed_at Gcm place at limit (take 4 bytes) (length bytes - 4) r)
    (λ size is g. filled_at fill place at (length bytes - 4) size r g))
    (λ size is g. unsealed_at key associated place at (take size bytes) r g)
