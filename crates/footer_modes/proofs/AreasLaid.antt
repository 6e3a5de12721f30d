-- The front of a footer area that is read is the one of the layout, and the other way round.
use Rattle.std.proofs.Common.{◌≡◌, ℕ, ◌+◌, Bool, true, false, refl, ◌==◌, List, ◌++◌, length, take, drop, Option, Some, None, sym, ap, ◌∙◌, arith, Result, Ok, Err, length-append}
use Rattle.std.proofs.lemmas.Bool.Decides.{nat_tests}
use Rattle.std.proofs.lemmas.List.{take-append-drop, take_at, drop_at, length-take-le, length-drop}
use Rattle.std.proofs.lemmas.Slice.Eq.{bytes_eq-Decides}
use Rattle.std.specs.Str.{bytes_eq}
use Rattle.pme_base.specs.declared.refusal.Refusal.{Refusal}
use Rattle.pme_base.specs.Steps.{◌>>=◌}
use Rattle.gcm_seal.specs.Gcm.{seal}
use Rattle.gcm_seal.proofs.Texts.{length-tag_of}
use Rattle.module_aad.specs.Aad.{aad}
use Rattle.crypto_module.specs.Opening.{AreBytes}
use Rattle.pme_base.proofs.Chain.{bind_ok, bind_at, tested, when_true}
use Rattle.crypto_module.proofs.Sealed.{sealed_if_opened, opened_if_held, same_bytes}
use Rattle.parquet_types.specs.declared.file_meta.AlgorithmMeta.{AlgorithmMeta}
use Rattle.parquet_fields.specs.Calls.{file_crypto_at, signing_at, split_signing}
use Rattle.footer_modes.specs.declared.head.Head.{Head}
use Rattle.footer_modes.specs.declared.head.AreaHead.TheVariants.{Protected, Bare}
use Rattle.footer_modes.specs.declared.mode.Magic.{Magic}
use Rattle.footer_modes.specs.declared.mode.Magic.TheVariants.{Pare, Par1}
use Rattle.footer_modes.specs.Ends.{footer_place}
use Rattle.footer_modes.specs.TailOf.{sealed_head, plain_head, head_of, signature, checked, checked_area, plain_of}
use Rattle.footer_modes.specs.IsTail.{Sealing, IsSealedArea, IsSignedArea, IsArea}
use Rattle.footer_modes.proofs.EndsLaid.{below_drop}

-- what a parsed head says of the sealing or the signature
abbrev pub sealing : List ℕ → List ℕ → Head → Sealing
sealing key file head = record { key = key; file = file; algorithm = head.algorithm; metadata = head.metadata }

sealed_area : (allow_plain : Bool) (key file plain : List ℕ) (data_end : ℕ) (area : List ℕ) (head : Head) → AreBytes area → head_of allow_plain Pare data_end area ≡ Ok (Protected head)
    → plain_of Pare key file (data_end + head.size) head.size area ≡ Ok plain → IsSealedArea (sealing key file head) plain head.size area
sealed_area allow_plain key file plain data_end area head each h p =
    let (read, is, made) = bind_ok (file_crypto_at footer_place area) (λ r. Ok (Protected (sealed_head r))) (Protected head) h in
    let same : sealed_head read ≡ head = cc in
    record {
      crypto = is ∙ ap (λ (x : Head). Ok (record { algorithm = x.algorithm; key_metadata = x.metadata }, x.size)) same;
      sealed = sealed_if_opened key (aad file footer_place) plain footer_place (data_end + head.size) 16777216 true (drop head.size area) (below_drop head.size area each) p;
    }

-- a signed footer fills its area with its signature
pub record IsSignedHead (room : ℕ) (algorithm : Option AlgorithmMeta) (metadata : Option (List ℕ)) (size : ℕ) (head : Head) : Type 0 where
  pub algorithm_is : algorithm ≡ Some head.algorithm
  pub metadata_is : metadata ≡ head.metadata
  pub size_is : size ≡ head.size
  pub room_is : room ≡ size + 28

room_of : (room size : ℕ) → (room == size + 28) ≡ true → room ≡ size + 28
room_of room size e = grind (arith, nat_tests)

pub signed_head_is : (allow_plain : Bool) (at room : ℕ) (algorithm : Option AlgorithmMeta) (metadata : Option (List ℕ)) (size : ℕ) (head : Head)
    → plain_head allow_plain at room algorithm metadata size ≡ Ok (Protected head) → IsSignedHead room algorithm metadata size head
signed_head_is true at room None metadata size head e = cc
signed_head_is false at room None metadata size head e = cc
signed_head_is allow_plain at room (Some algorithm) metadata size head e =
    let (fits, made) = tested (room == size + 28) _ (Protected head) _ e in
    let same : record { algorithm = algorithm; metadata = metadata; size = size } ≡ head = cc in
    record {
      algorithm_is = ap (λ (x : Head). Some x.algorithm) same;
      metadata_is = ap (λ (x : Head). x.metadata) same;
      size_is = ap (λ (x : Head). x.size) same;
      room_is = room_of room size fits;
    }

split_is : (r : Result ((Option AlgorithmMeta × Option (List ℕ)) × ℕ) Refusal) (read : Option AlgorithmMeta × Option (List ℕ) × ℕ)
    → split_signing r ≡ Ok read → r ≡ Ok ((read.0, read.1), read.2)
split_is (Ok x) read e =
    let same : (x.0.0, x.0.1, x.1) ≡ read = cc in
    ap (λ (t : Option AlgorithmMeta × Option (List ℕ) × ℕ). Ok ((t.0, t.1), t.2)) same
split_is (Err refusal) read e = cc

signed_area : (allow_plain : Bool) (key file plain : List ℕ) (data_end : ℕ) (area : List ℕ) (head : Head) → head_of allow_plain Par1 data_end area ≡ Ok (Protected head)
    → plain_of Par1 key file (data_end + head.size) head.size area ≡ Ok plain → IsSignedArea (sealing key file head) plain head.size area
signed_area allow_plain key file plain data_end area head h p =
    let (read, is, made) = bind_ok (split_signing (signing_at footer_place area)) (λ r. plain_head allow_plain (data_end + length area) (length area) r.0 r.1 r.2) (Protected head) h in
    let signed = signed_head_is allow_plain (data_end + length area) (length area) read.0 read.1 read.2 head made in
    let long : length area ≡ head.size + 28 = omega (arith, signed.room_is, signed.size_is) in
    let after = drop head.size area in
    let expected = signature key (aad file footer_place) (take 12 after) (take head.size area) in
    let (same, plain_is) = tested (bytes_eq expected (drop 12 after)) (take head.size area) plain _ p in
    let tag_is : expected ≡ drop 12 after = (bytes_eq-Decides expected (drop 12 after)).0 same in
    let cut : area ≡ take head.size area ++ (take 12 after ++ drop 12 after) =
    sym (take-append-drop head.size area) ∙ ap (λ t. take head.size area ++ t) (sym (take-append-drop 12 after)) in
    record {
      nonce = take 12 after;
      nonce_length = length-take-le 12 after (omega (arith, length-drop head.size area, long));
      layout = cut ∙ (λ i. plain_is i ++ (take 12 after ++ sym tag_is i)) ∙ ap (λ (t : List ℕ). plain ++ (take 12 after ++ signature key (aad file footer_place) (take 12 after) t)) plain_is;
      front_is = sym (ap length (sym plain_is) ∙ length-take-le head.size area (omega (arith, long)));
      signing = split_is (signing_at footer_place area) read is ∙ (λ i. Ok ((signed.algorithm_is i, signed.metadata_is i), signed.size_is i));
    }

pub area_is : (allow_plain : Bool) (magic : Magic) (key file plain : List ℕ) (data_end : ℕ) (area : List ℕ) (head : Head) → AreBytes area → head_of allow_plain magic data_end area ≡ Ok (Protected head)
    → plain_of magic key file (data_end + head.size) head.size area ≡ Ok plain → IsArea magic (sealing key file head) plain head.size area
area_is allow_plain Pare key file plain data_end area head each h p = sealed_area allow_plain key file plain data_end area head each h p
area_is allow_plain Par1 key file plain data_end area head each h p = signed_area allow_plain key file plain data_end area head h p

-- an area that is laid out as the format says is read as such
pub record Reads (allow_plain : Bool) (magic : Magic) (s : Sealing) (plain : List ℕ) (front data_end : ℕ) (area : List ℕ) : Type 0 where
  pub head : head_of allow_plain magic data_end area ≡ Ok (Protected (record { algorithm = s.algorithm; metadata = s.metadata; size = front }))
  pub bytes : plain_of magic s.key s.file (data_end + front) front area ≡ Ok plain

sealed_reads : (allow_plain : Bool) (s : Sealing) (plain : List ℕ) (front data_end : ℕ) (area : List ℕ) → IsSealedArea s plain front area → Reads allow_plain Pare s plain front data_end area
sealed_reads allow_plain s plain front data_end area laid = record {
  head = ap (λ r. r >>= λ x. Ok (Protected (sealed_head x))) laid.crypto;
  bytes = opened_if_held s.key (aad s.file footer_place) plain footer_place (data_end + front) 16777216 true (drop front area) (omega arith) laid.sealed;
}

signed_reads : (allow_plain : Bool) (s : Sealing) (plain : List ℕ) (front data_end : ℕ) (area : List ℕ) → IsSignedArea s plain front area → Reads allow_plain Par1 s plain front data_end area
signed_reads allow_plain s plain front data_end area laid =
    let tag = (seal s.key laid.nonce (aad s.file footer_place) plain).1 in
    let sixteen : length tag ≡ 16 = length-tag_of s.key laid.nonce (aad s.file footer_place) (seal s.key laid.nonce (aad s.file footer_place) plain).0 in
    let long : length area ≡ front + 28 =
    omega (arith, ap length laid.layout, length-append plain (laid.nonce ++ tag), length-append laid.nonce tag, laid.nonce_length, sixteen, laid.front_is) in
    let fits : (length area == front + 28) ≡ true = grind (arith, nat_tests, long) in
    let read : split_signing (signing_at footer_place area) ≡ Ok (Some s.algorithm, s.metadata, front) = ap split_signing laid.signing in
    let front_of : take front area ≡ plain = ap (take front) laid.layout ∙ take_at plain (laid.nonce ++ tag) front (sym laid.front_is) in
    let after : drop front area ≡ laid.nonce ++ tag = ap (drop front) laid.layout ∙ drop_at plain (laid.nonce ++ tag) front (sym laid.front_is) in
    let nonce_is : take 12 (drop front area) ≡ laid.nonce = ap (take 12) after ∙ take_at laid.nonce tag 12 laid.nonce_length in
    let tag_is : drop 12 (drop front area) ≡ tag = ap (drop 12) after ∙ drop_at laid.nonce tag 12 laid.nonce_length in
    let judged : checked_area s.key (aad s.file footer_place) (data_end + front) front area ≡ checked (data_end + front) tag tag plain =
    λ i. checked (data_end + front) (signature s.key (aad s.file footer_place) (nonce_is i) (front_of i)) (tag_is i) (front_of i) in
    record {
      head = bind_at (split_signing (signing_at footer_place area)) _ (Some s.algorithm, s.metadata, front) read ∙ when_true (length area == front + 28) _ _ fits;
      bytes = judged ∙ when_true (bytes_eq tag tag) _ _ (same_bytes tag);
    }

pub area_reads : (allow_plain : Bool) (magic : Magic) (s : Sealing) (plain : List ℕ) (front data_end : ℕ) (area : List ℕ) → IsArea magic s plain front area
    → Reads allow_plain magic s plain front data_end area
area_reads allow_plain Pare s plain front data_end area laid = sealed_reads allow_plain s plain front data_end area laid
area_reads allow_plain Par1 s plain front data_end area laid = signed_reads allow_plain s plain front data_end area laid

-- likewise for an unencrypted footer
pub record IsBareHead (allow_plain : Bool) (magic : Magic) (area : List ℕ) (size : ℕ) : Type 0 where
  pub magic_is : magic ≡ Par1
  pub allowed : allow_plain ≡ true
  pub metadata : Option (List ℕ)
  pub signing : signing_at footer_place area ≡ Ok ((None, metadata), size)

bare_head : (allow_plain : Bool) (at room : ℕ) (algorithm : Option AlgorithmMeta) (metadata : Option (List ℕ)) (size n : ℕ)
    → plain_head allow_plain at room algorithm metadata size ≡ Ok (Bare n) → (allow_plain ≡ true) × (algorithm ≡ None) × (size ≡ n)
bare_head true at room None metadata size n e = (refl, refl, cc)
bare_head false at room None metadata size n e = cc
bare_head allow_plain at room (Some algorithm) metadata size n e =
    let (fits, made) = tested (room == size + 28) _ (Bare n) _ e in
    cc

pub bare_head_is : (allow_plain : Bool) (magic : Magic) (data_end : ℕ) (area : List ℕ) (size : ℕ) → head_of allow_plain magic data_end area ≡ Ok (Bare size)
    → IsBareHead allow_plain magic area size
bare_head_is allow_plain Pare data_end area size e =
    let (read, is, made) = bind_ok (file_crypto_at footer_place area) (λ r. Ok (Protected (sealed_head r))) (Bare size) e in
    cc
bare_head_is allow_plain Par1 data_end area size e =
    let (read, is, made) = bind_ok (split_signing (signing_at footer_place area)) (λ r. plain_head allow_plain (data_end + length area) (length area) r.0 r.1 r.2) (Bare size) e in
    let (allowed, none, same) = bare_head allow_plain (data_end + length area) (length area) read.0 read.1 read.2 size made in
    record {
      magic_is = refl;
      allowed = allowed;
      metadata = read.1;
      signing = split_is (signing_at footer_place area) read is ∙ (λ i. Ok ((none i, read.1), same i));
    }

pub bare_reads : (allow_plain : Bool) (data_end : ℕ) (area : List ℕ) (metadata : Option (List ℕ)) (size : ℕ) → allow_plain ≡ true
    → signing_at footer_place area ≡ Ok ((None, metadata), size) → head_of allow_plain Par1 data_end area ≡ Ok (Bare size)
bare_reads allow_plain data_end area metadata size allowed is =
    bind_at (split_signing (signing_at footer_place area)) _ (None, metadata, size) (ap split_signing is) ∙ when_true allow_plain _ _ allowed
