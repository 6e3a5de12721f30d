-- A tail that was read: the results of the steps that led to it.
use Rattle.std.proofs.Common.{◌≡◌, ℕ, ◌+◌, List, take, Ok}
use Rattle.pme_base.specs.declared.refusal.Refusal.{Refusal}
use Rattle.pme_base.proofs.Chain.{ok_same, bind_ok}
use Rattle.key_rights.specs.Finding.{footer}
use Rattle.parquet_types.specs.declared.file_meta.FileMeta.{FileMeta}
use Rattle.footer_modes.specs.declared.ends.Ends.{Ends}
use Rattle.footer_modes.specs.declared.head.Head.{Head}
use Rattle.footer_modes.specs.declared.head.AreaHead.{AreaHead}
use Rattle.footer_modes.specs.declared.head.AreaHead.TheVariants.{Protected, Bare}
use Rattle.footer_modes.specs.declared.mode.Magic.{Magic}
use Rattle.footer_modes.specs.declared.tail.Tail.{Tail}
use Rattle.footer_modes.specs.Ends.{ends_of, area_of}
use Rattle.footer_modes.specs.TailOf.{Asks, head_of, check_algorithm, aad_of, key_of, plain_of, crypto_of, footer_of, protection_of, protected_by, protected_tail, unsupplied, unsealed, bare_by, bare_tail, tail_by, tail_of}
use Rattle.footer_modes.proofs.EndsLaid.{AreEnds, ends_are}

-- the steps of an encrypted or signed footer
pub record ProtectedSteps (asks : Asks) (magic : Magic) (data_end : ℕ) (area : List ℕ) (head : Head) (tail : Tail) : Type 0 where
  pub file : List ℕ
  pub key : List ℕ
  pub plain : List ℕ
  pub meta : FileMeta
  pub done : Unit {0}
  pub algorithm_is : check_algorithm asks.gcm_only head.algorithm ≡ Ok done
  pub aad_is : aad_of head.algorithm asks.prefix ≡ Ok file
  pub key_is : key_of (asks.answer (footer head.metadata)) ≡ Ok key
  pub plain_is : plain_of magic key file (data_end + head.size) head.size area ≡ Ok plain
  pub footer_is : footer_of plain ≡ Ok meta
  pub is : protected_by magic data_end head (protection_of head file key (crypto_of magic head.size area)) plain meta ≡ tail

-- the steps of an unencrypted footer
pub record BareSteps (asks : Asks) (data_end : ℕ) (area : List ℕ) (size : ℕ) (tail : Tail) : Type 0 where
  pub meta : FileMeta
  pub first : Unit {0}
  pub last : Unit {0}
  pub prefix_is : unsupplied asks.prefix ≡ Ok first
  pub footer_is : footer_of (take size area) ≡ Ok meta
  pub chunks_are : unsealed meta ≡ Ok last
  pub is : bare_by data_end (take size area) meta ≡ tail

abbrev pub StepsBy : Asks → Magic → ℕ → List ℕ → AreaHead → Tail → Type 0
StepsBy asks magic data_end area (Protected head) tail = ProtectedSteps asks magic data_end area head tail
StepsBy asks magic data_end area (Bare size) tail = BareSteps asks data_end area size tail

pub record StepsTaken (asks : Asks) (bytes : List ℕ) (tail : Tail) : Type 0 where
  pub ends : Ends
  pub are : AreEnds bytes ends
  pub head : AreaHead
  pub head_is : head_of asks.allow_plain ends.magic ends.data_end (area_of ends bytes) ≡ Ok head
  pub steps : StepsBy asks ends.magic ends.data_end (area_of ends bytes) head tail

protected_steps : (asks : Asks) (magic : Magic) (data_end : ℕ) (area : List ℕ) (head : Head) (tail : Tail) → protected_tail asks magic data_end area head ≡ Ok tail
    → ProtectedSteps asks magic data_end area head tail
protected_steps asks magic data_end area head tail e =
    let (done, by_algorithm, after_algorithm) = bind_ok (check_algorithm asks.gcm_only head.algorithm) _ tail e in
    let (file, by_aad, after_aad) = bind_ok (aad_of head.algorithm asks.prefix) _ tail after_algorithm in
    let (key, by_key, after_key) = bind_ok (key_of (asks.answer (footer head.metadata))) _ tail after_aad in
    let (plain, by_bytes, after_bytes) = bind_ok (plain_of magic key file (data_end + head.size) head.size area) _ tail after_key in
    let (meta, by_footer, made) = bind_ok (footer_of plain) _ tail after_bytes in
    record {
      file = file;
      key = key;
      plain = plain;
      meta = meta;
      done = done;
      algorithm_is = by_algorithm;
      aad_is = by_aad;
      key_is = by_key;
      plain_is = by_bytes;
      footer_is = by_footer;
      is = ok_same {E = Refusal} _ tail made;
    }

bare_steps : (asks : Asks) (data_end : ℕ) (area : List ℕ) (size : ℕ) (tail : Tail) → bare_tail asks.prefix data_end (take size area) ≡ Ok tail → BareSteps asks data_end area size tail
bare_steps asks data_end area size tail e =
    let (first, by_prefix, after_prefix) = bind_ok (unsupplied asks.prefix) _ tail e in
    let (meta, by_footer, after_footer) = bind_ok (footer_of (take size area)) _ tail after_prefix in
    let (last, by_chunks, made) = bind_ok (unsealed meta) _ tail after_footer in
    record {
      meta = meta;
      first = first;
      last = last;
      prefix_is = by_prefix;
      footer_is = by_footer;
      chunks_are = by_chunks;
      is = ok_same {E = Refusal} _ tail made;
    }

pub steps_by : (asks : Asks) (magic : Magic) (data_end : ℕ) (area : List ℕ) (head : AreaHead) (tail : Tail) → tail_by asks magic data_end area head ≡ Ok tail
    → StepsBy asks magic data_end area head tail
steps_by asks magic data_end area (Protected head) tail e = protected_steps asks magic data_end area head tail e
steps_by asks magic data_end area (Bare size) tail e = bare_steps asks data_end area size tail e

pub steps_taken : (asks : Asks) (bytes : List ℕ) (tail : Tail) → tail_of asks bytes ≡ Ok tail → StepsTaken asks bytes tail
steps_taken asks bytes tail e =
    let (ends, by_ends, after_ends) = bind_ok (ends_of bytes) _ tail e in
    let area = area_of ends bytes in
    let (head, by_head, after_head) = bind_ok (head_of asks.allow_plain ends.magic ends.data_end area) _ tail after_ends in
    record {
      ends = ends;
      are = ends_are bytes ends by_ends;
      head = head;
      head_is = by_head;
      steps = steps_by asks ends.magic ends.data_end area head tail after_head;
    }
