use Rattle.std.proofs.Common.{◌≡◌, ℕ, ◌+◌, ◌-◌, ◌*◌, ◌≤◌, List, ◌++◌, length, take, drop, min, ap, ◌∙◌, sym, subst, arith, inl, inr}
use Rattle.std.proofs.Math.Seq.{take-add}
use Rattle.std.proofs.lemmas.Bool.{cases_lt}
use Rattle.std.proofs.lemmas.List.{length-take-le, length-take, length-drop, take_all}
use Rattle.gcm_seal.specs.Gcm.{gctr}
use Rattle.gcm_seal.specs.Hashing.{IsHashOf}
use Rattle.gcm_seal.proofs.Texts.{gctr-append, length-gctr}
use Rattle.gcm_seal.proofs.sealed.sign.Goals as goal

-- the next piece of a text: `width` bytes, or fewer at the end
next_piece : (text : List ℕ) (at width : ℕ) → at ≤ length text → take at text ++ take (min (length text) (at + width) - at) (drop at text) ≡ take (at + width) text
next_piece text at width h =
    let e : at + (min (length text) (at + width) - at) ≡ min (length text) (at + width) = omega arith in
    sym (take-add at (min (length text) (at + width) - at) text) ∙ ap (λ n. take n text) e ∙ elim (cases_lt (length text) (at + width)) [
      | inl less ↦
          let f : min (length text) (at + width) ≡ length text = omega arith in
          ap (λ n. take n text) f ∙ take_all (length text) text (omega arith) ∙ sym (take_all (at + width) text (omega arith))
      | inr more ↦ let f : min (length text) (at + width) ≡ at + width = omega arith in ap (λ n. take n text) f
    ]

pub loop-i-init : goal.loop-i-init
unfolding gctr
loop-i-init c = c.new-hasher.ensures.hash

pub update-requires : goal.update-requires
update-requires c =
    let i = c.loop-i.i in
    let plain = c.args.plain.now in
    let so_far = c.loop-i.invariant.text_length in
    let ciphered = length-gctr c.args.key.now c.args.nonce.now 2 (take (64 * i) plain) in
    let before = length-take-le (64 * i) plain (omega arith) in
    let rest = length-drop (64 * i) plain in
    let piece = take (c.min.result - 64 * i) (drop (64 * i) plain) in
    let size = length-take (c.min.result - 64 * i) (drop (64 * i) plain) in
    let taken = length-take (length piece) c.encrypt_short-ciphertext.result in
    omega arith

pub loop-i-preserved : goal.loop-i-preserved
loop-i-preserved c =
    let i = c.loop-i.i in
    let plain = c.args.plain.now in
    let key = c.args.key.now in
    let nonce = c.args.nonce.now in
    let front = take (64 * i) plain in
    let piece = take (c.min.result - 64 * i) (drop (64 * i) plain) in
    let whole : length front ≡ 16 * (4 * i) = length-take-le (64 * i) plain (omega arith) ∙ (let e : 64 * i ≡ 16 * (4 * i) = omega arith in e) in
    let next : 64 * i + 64 ≡ 64 * (i + 1) = omega arith in
    let joined : gctr key nonce 2 front ++ take (length piece) c.encrypt_short-ciphertext.result ≡ gctr key nonce 2 (take (64 * (i + 1)) plain) =
    ap (λ t. gctr key nonce 2 front ++ t) c.encrypt_short-ciphertext.ensures
    ∙ sym (gctr-append key nonce 2 (4 * i) front piece whole)
    ∙ ap (gctr key nonce 2) (ap (λ m. front ++ take (m - 64 * i) (drop (64 * i) plain)) c.min.ensures ∙ next_piece plain (64 * i) 64 (omega arith) ∙ ap (λ n. take n plain) next) in
    subst (λ t. IsHashOf c.update.new.self key nonce c.args.aad.now t) joined (c.update.ensures.hash key nonce c.args.aad.now (gctr key nonce 2 front) c.loop-i.invariant)
