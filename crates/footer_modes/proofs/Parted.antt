-- The parts of a footer's module or signature in the bytes of its file.
use Rattle.std.proofs.Common.{◌≡◌, ℕ, ◌+◌, ◌-◌, ◌≤◌, Bool, true, List, length, take, drop, Some, None, refl, sym, ap, ◌∙◌, subst, arith, Ok}
use Rattle.std.proofs.lemmas.List.{drop-take, drop-drop, take-take, take_all, length-take-le, length-drop}
use Rattle.std.proofs.lemmas.Slice.Eq.{bytes_eq-Decides}
use Rattle.std.specs.Str.{bytes_eq}
use Rattle.pme_base.specs.declared.refusal.Refusal.{Refusal}
use Rattle.pme_base.proofs.Chain.{ok_same, bind_ok, tested}
use Rattle.gcm_seal.specs.Gcm.{gctr, tag_of}
use Rattle.gcm_seal.proofs.Texts.{gctr_twice}
use Rattle.module_aad.specs.Aad.{aad}
use Rattle.crypto_module.specs.Frames.{gcm_size}
use Rattle.crypto_module.specs.Modules.{nonce_of, cipher_of, stored_of}
use Rattle.crypto_module.specs.Opening.{unsealed_whole, opened}
use Rattle.crypto_module.proofs.Sizes.{IsSized, sized_is}
use Rattle.parquet_fields.specs.Calls.{signing_at, split_signing}
use Rattle.parquet_types.specs.declared.file_meta.FileMeta.{FileMeta}
use Rattle.parquet_meta.specs.Footer.{file_meta_at}
use Rattle.parquet_meta.proofs.FooterShaped.{read_shape}
use Rattle.footer_rules.specs.Shape.{IsShaped}
use Rattle.footer_modes.specs.declared.ends.Ends.{Ends}
use Rattle.footer_modes.specs.declared.head.Head.{Head}
use Rattle.footer_modes.specs.declared.head.AreaHead.{AreaHead}
use Rattle.footer_modes.specs.declared.head.AreaHead.TheVariants.{Protected, Bare}
use Rattle.footer_modes.specs.declared.mode.Magic.{Magic}
use Rattle.footer_modes.specs.declared.mode.Magic.TheVariants.{Pare, Par1}
use Rattle.footer_modes.specs.declared.tail.Protection.{Protection}
use Rattle.footer_modes.specs.declared.tail.Tail.{Tail}
use Rattle.footer_modes.specs.Ends.{footer_place, area_of}
use Rattle.footer_modes.specs.TailOf.{Asks, plain_head, head_of, signature, checked_area, plain_of, crypto_of, footer_of, protection_of, protected_by, tail_of}
use Rattle.footer_modes.specs.FooterParts.{module_of, signed_bytes, parts_by, footer_parts, FixFooter, IsPlaced}
use Rattle.footer_modes.proofs.AreasLaid.{IsSignedHead, signed_head_is}
use Rattle.footer_modes.proofs.EndsLaid.{AreEnds, area_length}
use Rattle.footer_modes.proofs.StepsTaken.{ProtectedSteps, StepsBy, steps_taken}
use Rattle.footer_modes.proofs.TailsLaid.{same_magic}

-- the offset of the footer's module or signature in the file, and the bytes before it
area_rest : (bytes : List ℕ) (ends : Ends) (size : ℕ) → AreEnds bytes ends → size ≤ ends.area
    → drop size (area_of ends bytes) ≡ take (length bytes - 8 - (ends.data_end + size)) (drop (ends.data_end + size) bytes)
area_rest bytes ends size are within =
    let rest = ends.area - size in
    let whole : ends.area ≡ size + rest = omega arith in
    let left : rest ≡ length bytes - 8 - (ends.data_end + size) = omega (arith, are.inside) in
    ap (λ n. drop size (take n (drop ends.data_end bytes))) whole
    ∙ drop-take size rest (drop ends.data_end bytes)
    ∙ (λ i. take (left i) (drop-drop size ends.data_end bytes i))

area_front : (bytes : List ℕ) (ends : Ends) (size : ℕ) → size ≤ ends.area
    → take size (area_of ends bytes) ≡ take (ends.data_end + size - ends.data_end) (drop ends.data_end bytes)
area_front bytes ends size within =
    let left : size ≡ ends.data_end + size - ends.data_end = omega arith in
    take-take size ends.area (drop ends.data_end bytes) within ∙ ap (λ n. take n (drop ends.data_end bytes)) left

-- a module that opens, by its parts
record IsOpen (key associated plain m : List ℕ) : Type 0 where
  pub least : 32 ≤ length m
  pub tag_is : tag_of key (nonce_of m) associated (cipher_of m) ≡ stored_of m
  pub plain_is : gctr key (nonce_of m) 2 (cipher_of m) ≡ plain

open_module : (key associated plain m : List ℕ) (at : ℕ) → opened key associated footer_place at 16777216 true m ≡ Ok plain → IsOpen key associated plain m
open_module key associated plain m at e =
    let (size, framed, opens) = bind_ok (gcm_size footer_place at 16777216 true m) (λ s. unsealed_whole key associated footer_place at (take s m)) plain e in
    let sized : IsSized 16777216 true m size = sized_is footer_place at 16777216 true m size framed in
    let whole : take size m ≡ m = take_all size m (omega (arith, sized.fills refl)) in
    let all : unsealed_whole key associated footer_place at m ≡ Ok plain = ap (unsealed_whole key associated footer_place at) (sym whole) ∙ opens in
    let tag = tag_of key (nonce_of m) associated (cipher_of m) in
    let (same, is) = tested (bytes_eq tag (stored_of m)) (gctr key (nonce_of m) 2 (cipher_of m)) plain _ all in
    record { least = omega (arith, sized.least, sized.inside); tag_is = (bytes_eq-Decides tag (stored_of m)).0 same; plain_is = is }

-- a signed area, by its parts
record IsChecked (key associated plain : List ℕ) (size : ℕ) (area : List ℕ) : Type 0 where
  pub tag_is : signature key associated (take 12 (drop size area)) (take size area) ≡ drop 12 (drop size area)
  pub plain_is : take size area ≡ plain

checked_parts : (key associated plain : List ℕ) (at size : ℕ) (area : List ℕ) → checked_area key associated at size area ≡ Ok plain → IsChecked key associated plain size area
checked_parts key associated plain at size area e =
    let expected = signature key associated (take 12 (drop size area)) (take size area) in
    let (same, is) = tested (bytes_eq expected (drop 12 (drop size area))) (take size area) plain _ e in
    record { tag_is = (bytes_eq-Decides expected (drop 12 (drop size area))).0 same; plain_is = is }

-- the module or the signature is within the area
signed_size : (allow_plain : Bool) (at : ℕ) (area : List ℕ) (head : Head) → head_of allow_plain Par1 at area ≡ Ok (Protected head) → length area ≡ head.size + 28
signed_size allow_plain at area head e =
    let (read, is, made) = bind_ok (split_signing (signing_at footer_place area)) (λ r. plain_head allow_plain (at + length area) (length area) r.0 r.1 r.2) (Protected head) e in
    let signed : IsSignedHead (length area) read.0 read.1 read.2 head = signed_head_is allow_plain (at + length area) (length area) read.0 read.1 read.2 head made in
    omega (arith, signed.room_is, signed.size_is)

within_area : (allow_plain : Bool) (magic : Magic) (key file plain : List ℕ) (data_end at : ℕ) (area : List ℕ) (head : Head)
    → head_of allow_plain magic data_end area ≡ Ok (Protected head) → plain_of magic key file at head.size area ≡ Ok plain → head.size + 28 ≤ length area
within_area allow_plain Pare key file plain data_end at area head h p =
    omega (arith, (open_module key (aad file footer_place) plain (drop head.size area) at p).least, length-drop head.size area)
within_area allow_plain Par1 key file plain data_end at area head h p = omega (arith, signed_size allow_plain data_end area head h)

-- the bytes of an area in the file of the tail
record StandsIn (tail : Tail) (bytes : List ℕ) (size : ℕ) (area : List ℕ) : Type 0 where
  pub rest : drop size area ≡ module_of tail bytes
  pub front : take size area ≡ signed_bytes tail bytes

sealed_fixes : (tail : Tail) (protection : Protection) (bytes area : List ℕ) (size : ℕ) → StandsIn tail bytes size area
    → plain_of Pare protection.footer_key protection.file_aad tail.at size area ≡ Ok tail.footer_bytes → footer_of tail.footer_bytes ≡ Ok tail.footer
    → FixFooter tail protection (parts_by Pare tail protection bytes)
sealed_fixes tail protection bytes area size stands p read =
    let m = module_of tail bytes in
    let key = protection.footer_key in
    let associated = aad protection.file_aad footer_place in
    let whole = ap (opened key associated footer_place tail.at 16777216 true) (sym stands.rest) ∙ p in
    let is : IsOpen key associated tail.footer_bytes m = open_module key associated tail.footer_bytes m tail.at whole in
    record {
      nonce_length = length-take-le 12 (drop 4 m) (omega (arith, is.least, length-drop 4 m));
      tag_length = omega (arith, is.least, length-drop (length m - 16) m);
      tag = is.tag_is;
      plain = is.plain_is;
      footer = ap footer_of is.plain_is ∙ read;
    }

signed_fixes : (tail : Tail) (protection : Protection) (bytes area : List ℕ) (size : ℕ) → StandsIn tail bytes size area → length area ≡ size + 28
    → plain_of Par1 protection.footer_key protection.file_aad tail.at size area ≡ Ok tail.footer_bytes → footer_of tail.footer_bytes ≡ Ok tail.footer
    → FixFooter tail protection (parts_by Par1 tail protection bytes)
signed_fixes tail protection bytes area size stands long p read =
    let m = module_of tail bytes in
    let key = protection.footer_key in
    let associated = aad protection.file_aad footer_place in
    let is = checked_parts key associated tail.footer_bytes tail.at size area p in
    let count : length m ≡ 28 = ap length (sym stands.rest) ∙ length-drop size area ∙ (let left : length area - size ≡ 28 = omega (arith, long) in left) in
    let plain_is : signed_bytes tail bytes ≡ tail.footer_bytes = sym stands.front ∙ is.plain_is in
    let twice : gctr key (take 12 m) 2 (gctr key (take 12 m) 2 (signed_bytes tail bytes)) ≡ tail.footer_bytes = gctr_twice key (take 12 m) 2 (signed_bytes tail bytes) ∙ plain_is in
    record {
      nonce_length = length-take-le 12 m (omega (arith, count));
      tag_length = length-drop 12 m ∙ (let left : length m - 12 ≡ 16 = omega (arith, count) in left);
      tag = (λ i. signature key associated (take 12 (sym stands.rest i)) (sym stands.front i)) ∙ is.tag_is ∙ ap (drop 12) stands.rest;
      plain = twice;
      footer = ap footer_of twice ∙ read;
    }

parts_by_fix : (allow_plain : Bool) (magic : Magic) (tail : Tail) (protection : Protection) (bytes area : List ℕ) (data_end : ℕ) (head : Head) → StandsIn tail bytes head.size area
    → head_of allow_plain magic data_end area ≡ Ok (Protected head) → plain_of magic protection.footer_key protection.file_aad tail.at head.size area ≡ Ok tail.footer_bytes
    → footer_of tail.footer_bytes ≡ Ok tail.footer → FixFooter tail protection (parts_by magic tail protection bytes)
parts_by_fix allow_plain Pare tail protection bytes area data_end head stands h p read = sealed_fixes tail protection bytes area head.size stands p read
parts_by_fix allow_plain Par1 tail protection bytes area data_end head stands h p read =
    signed_fixes tail protection bytes area head.size stands (signed_size allow_plain data_end area head h) p read

protected_within : (asks : Asks) (bytes : List ℕ) (tail : Tail) (ends : Ends) (head : Head) → AreEnds bytes ends
    → head_of asks.allow_plain ends.magic ends.data_end (area_of ends bytes) ≡ Ok (Protected head)
    → ProtectedSteps asks ends.magic ends.data_end (area_of ends bytes) head tail → head.size + 28 ≤ ends.area
protected_within asks bytes tail ends head are by_head steps =
    let area = area_of ends bytes in
    omega (arith, within_area asks.allow_plain ends.magic steps.key steps.file steps.plain ends.data_end (ends.data_end + head.size) area head by_head steps.plain_is, area_length bytes ends are)

protected_fix : (asks : Asks) (bytes : List ℕ) (tail : Tail) (ends : Ends) (head : Head) (protection : Protection) → AreEnds bytes ends
    → head_of asks.allow_plain ends.magic ends.data_end (area_of ends bytes) ≡ Ok (Protected head)
    → ProtectedSteps asks ends.magic ends.data_end (area_of ends bytes) head tail → tail.protection ≡ Some protection
    → FixFooter tail protection (footer_parts tail protection bytes)
protected_fix asks bytes tail ends head protection are by_head steps protection_is =
    let area = area_of ends bytes in
    let within : head.size ≤ ends.area = omega (arith, protected_within asks bytes tail ends head are by_head steps) in
    let made : Protection = protection_of head steps.file steps.key (crypto_of ends.magic head.size area) in
    let read : Tail = protected_by ends.magic ends.data_end head made steps.plain steps.meta in
    let stands : StandsIn read bytes head.size area = record {
      rest = area_rest bytes ends head.size are within;
      front = area_front bytes ends head.size within;
    } in
    let fixed : FixFooter read made (parts_by ends.magic read made bytes) =
    parts_by_fix asks.allow_plain ends.magic read made bytes area ends.data_end head stands by_head steps.plain_is steps.footer_is in
    let by_mode : FixFooter read made (footer_parts read made bytes) = subst (λ (m : Magic). FixFooter read made (parts_by m read made bytes)) (sym (same_magic ends.magic)) fixed in
    let joined : Some made ≡ Some protection = ap (λ (t : Tail). t.protection) steps.is ∙ protection_is in
    let same : made ≡ protection = cc in
    let of_tail : FixFooter tail made (footer_parts tail made bytes) = subst (λ (t : Tail). FixFooter t made (footer_parts t made bytes)) {x = read} steps.is by_mode in
    subst (λ (q : Protection). FixFooter tail q (footer_parts tail q bytes)) {x = made} same of_tail

fix_by : (asks : Asks) (bytes : List ℕ) (tail : Tail) (ends : Ends) (head : AreaHead) (protection : Protection) → AreEnds bytes ends
    → head_of asks.allow_plain ends.magic ends.data_end (area_of ends bytes) ≡ Ok head
    → StepsBy asks ends.magic ends.data_end (area_of ends bytes) head tail → tail.protection ≡ Some protection
    → FixFooter tail protection (footer_parts tail protection bytes)
fix_by asks bytes tail ends (Protected head) protection are by_head steps is = protected_fix asks bytes tail ends head protection are by_head steps is
fix_by asks bytes tail ends (Bare size) protection are by_head steps is =
    let none : None ≡ Some protection = ap (λ (t : Tail). t.protection) steps.is ∙ is in
    absurd cc

pub parts_fix : (asks : Asks) (bytes : List ℕ) (tail : Tail) (protection : Protection) → tail_of asks bytes ≡ Ok tail → tail.protection ≡ Some protection
    → FixFooter tail protection (footer_parts tail protection bytes)
parts_fix asks bytes tail protection e is =
    let taken = steps_taken asks bytes tail e in
    fix_by asks bytes tail taken.ends taken.head protection taken.are taken.head_is taken.steps is

placed_by : (asks : Asks) (bytes : List ℕ) (tail : Tail) (ends : Ends) (head : AreaHead) → AreEnds bytes ends
    → head_of asks.allow_plain ends.magic ends.data_end (area_of ends bytes) ≡ Ok head
    → StepsBy asks ends.magic ends.data_end (area_of ends bytes) head tail → IsPlaced tail bytes
placed_by asks bytes tail ends (Protected head) are by_head steps =
    subst (λ (t : Tail). IsPlaced t bytes) steps.is (record {
      behind_data = omega arith;
      area = omega (arith, are.inside);
      inside = omega (arith, are.inside, protected_within asks bytes tail ends head are by_head steps);
    })
placed_by asks bytes tail ends (Bare size) are by_head steps =
    subst (λ (t : Tail). IsPlaced t bytes) steps.is (record { behind_data = omega arith; area = omega (arith, are.inside); inside = tt })

pub tail_placed : (asks : Asks) (bytes : List ℕ) (tail : Tail) → tail_of asks bytes ≡ Ok tail → IsPlaced tail bytes
tail_placed asks bytes tail e =
    let taken = steps_taken asks bytes tail e in
    placed_by asks bytes tail taken.ends taken.head taken.are taken.head_is taken.steps

footer_shape : (plain : List ℕ) (meta : FileMeta) → footer_of plain ≡ Ok meta → IsShaped meta
footer_shape plain meta e =
    let (read, is, made) = bind_ok (file_meta_at footer_place plain) (λ x. Ok x.0) meta e in
    let same : read.0 ≡ meta = ok_same {E = Refusal} read.0 meta made in
    subst IsShaped same (read_shape footer_place plain read.0 read.1 is)

shape_by : (asks : Asks) (magic : Magic) (data_end : ℕ) (area : List ℕ) (head : AreaHead) (tail : Tail) → StepsBy asks magic data_end area head tail → IsShaped tail.footer
shape_by asks magic data_end area (Protected head) tail steps = subst (λ (t : Tail). IsShaped t.footer) steps.is (footer_shape steps.plain steps.meta steps.footer_is)
shape_by asks magic data_end area (Bare size) tail steps = subst (λ (t : Tail). IsShaped t.footer) steps.is (footer_shape (take size area) steps.meta steps.footer_is)

pub tail_shape : (asks : Asks) (bytes : List ℕ) (tail : Tail) → tail_of asks bytes ≡ Ok tail → IsShaped tail.footer
tail_shape asks bytes tail e =
    let taken = steps_taken asks bytes tail e in
    shape_by asks taken.ends.magic taken.ends.data_end (area_of taken.ends bytes) taken.head tail taken.steps
