-- The tail that reading defines is the one that the format lays out.
use Rattle.std.proofs.Common.{◌≡◌, ℕ, ◌+◌, ◌≤◌, Bool, true, false, ◌&&◌, nat_lt, List, ◌++◌, length, take, drop, Option, Some, None, IfSome, refl, sym, ap, ◌∙◌, subst, arith, Ok}
use Rattle.std.proofs.lemmas.Bool.{le-ltb}
use Rattle.std.proofs.lemmas.List.{take-take, length-take-le}
use Rattle.std.proofs.lemmas.Slice.Eq.{bytes_eq-Decides}
use Rattle.std.specs.Str.{bytes_eq}
use Rattle.pme_base.specs.declared.refusal.Refusal.{Refusal}
use Rattle.pme_base.specs.Steps.{◌>>=◌, Answers}
use Rattle.crypto_module.specs.Opening.{AreBytes}
use Rattle.pme_base.proofs.Chain.{bind_ok, bind_at, tested, passed, when_true, when_false, not_true}
use Rattle.crypto_module.proofs.Sealed.{below_take}
use Rattle.key_rights.specs.declared.finder.KeyAnswer.{KeyAnswer}
use Rattle.key_rights.specs.declared.finder.KeyAnswer.TheVariants.{Held, Absent, Refused}
use Rattle.key_rights.specs.Finding.{footer}
use Rattle.parquet_types.specs.declared.file_meta.AlgorithmMeta.{AlgorithmMeta}
use Rattle.parquet_types.specs.declared.file_meta.FileMeta.{FileMeta}
use Rattle.parquet_meta.specs.Footer.{file_meta_at}
use Rattle.footer_modes.specs.declared.ends.Ends.{Ends}
use Rattle.footer_modes.specs.declared.head.Head.{Head}
use Rattle.footer_modes.specs.declared.head.AreaHead.{AreaHead}
use Rattle.footer_modes.specs.declared.head.AreaHead.TheVariants.{Protected, Bare}
use Rattle.footer_modes.specs.declared.mode.FooterMode.{FooterMode}
use Rattle.footer_modes.specs.declared.mode.FooterMode.TheVariants.{Encrypted, Signed, Unencrypted}
use Rattle.footer_modes.specs.declared.mode.Magic.{Magic}
use Rattle.footer_modes.specs.declared.mode.Magic.TheVariants.{Pare, Par1}
use Rattle.footer_modes.specs.declared.tail.Protection.{Protection}
use Rattle.footer_modes.specs.declared.tail.Tail.{Tail}
use Rattle.footer_modes.specs.Ends.{footer_place, magic_bytes, magic_of, magic_mode, ends_of, area_of}
use Rattle.footer_modes.specs.TailOf.{Asks, head_of, check_algorithm, within_limit, stored_within, prefix_of, aad_of, key_of, plain_of, crypto_of, footer_of, protection_of, protected_by, unsupplied, are_plain, unsealed, bare_by, area_tail, tail_of}
use Rattle.footer_modes.specs.IsTail.{IsPrefix, IsFileAad, IsProtected, IsBare, IsFooterArea, IsTail, HasItsMode, sealing_of}
use Rattle.footer_modes.proofs.AreasLaid.{area_is, area_reads, bare_head_is, bare_reads}
use Rattle.footer_modes.proofs.EndsLaid.{AreEnds, no_less, below_drop, ends_cut, ends_from, area_length}
use Rattle.footer_modes.proofs.StepsTaken.{ProtectedSteps, BareSteps, StepsBy, steps_by, steps_taken}
use Rattle.std.specs.Prelude.{IsSome, IfOk, Result, Err}
use Rattle.std.specs.Int.{w32, to_le_bytes}

-- the associated data
prefix_is : (stored : Option (List ℕ)) (supply : Bool) (supplied : Option (List ℕ)) (prefix : List ℕ)
    → prefix_of stored supply supplied ≡ Ok prefix → IsPrefix stored supply supplied prefix
prefix_is (Some s) supply None prefix e = cc
prefix_is (Some s) supply (Some p) prefix e =
    let (same, is) = tested (bytes_eq s p) s prefix _ e in
    (sym is, sym is ∙ (bytes_eq-Decides s p).0 same)
prefix_is None true None prefix e = cc
prefix_is None true (Some p) prefix e = cc
prefix_is None false None prefix e = cc
prefix_is None false (Some p) prefix e = cc

prefix_from : (stored : Option (List ℕ)) (supply : Bool) (supplied : Option (List ℕ)) (prefix : List ℕ)
    → IsPrefix stored supply supplied prefix → prefix_of stored supply supplied ≡ Ok prefix
prefix_from (Some s) supply None prefix h = ap Ok (sym h)
prefix_from (Some s) supply (Some p) prefix (a, b) = when_true (bytes_eq s p) _ _ ((bytes_eq-Decides s p).1 (sym a ∙ b)) ∙ ap Ok (sym a)
prefix_from None true None prefix h = absurd h
prefix_from None true (Some p) prefix h = ap Ok (sym h)
prefix_from None false None prefix h = ap Ok (sym h)
prefix_from None false (Some p) prefix h = absurd h

limit_is : (limit count : ℕ) (u : Unit) → within_limit limit count ≡ Ok u → count ≤ limit
limit_is limit count u e = no_less limit count (passed (nat_lt limit count) _ _ u e).0

limit_from : (limit count : ℕ) → count ≤ limit → within_limit limit count ≡ Ok tt
limit_from limit count h = when_false (nat_lt limit count) _ _ (not_true (le-ltb limit count h))

stored_is : (stored : Option (List ℕ)) (u : Unit) → stored_within stored ≡ Ok u → IfSome stored (λ s. length s ≤ 1024)
stored_is None u e = tt
stored_is (Some s) u e = limit_is 1024 (length s) u e

stored_from : (stored : Option (List ℕ)) → IfSome stored (λ s. length s ≤ 1024) → stored_within stored ≡ Ok tt
stored_from None h = refl
stored_from (Some s) h = limit_from 1024 (length s) h

aad_is : (algorithm : AlgorithmMeta) (supplied : Option (List ℕ)) (file : List ℕ) → aad_of algorithm supplied ≡ Ok file → IsFileAad algorithm supplied file
aad_is algorithm supplied file e =
    let (u, stored, after_stored) = bind_ok (stored_within algorithm.prefix) _ file e in
    let (w, unique, after_unique) = bind_ok (within_limit 64 (length algorithm.unique)) _ file after_stored in
    let (prefix, is, made) = bind_ok (prefix_of algorithm.prefix algorithm.supply supplied) (λ p. Ok (p ++ algorithm.unique)) file after_unique in
    let joined : prefix ++ algorithm.unique ≡ file = cc in
    record {
      prefix = prefix;
      prefix_is = prefix_is algorithm.prefix algorithm.supply supplied prefix is;
      stored_short = stored_is algorithm.prefix u stored;
      unique_short = limit_is 64 (length algorithm.unique) w unique;
      joined = sym joined;
    }

aad_from : (algorithm : AlgorithmMeta) (supplied : Option (List ℕ)) (file : List ℕ) → IsFileAad algorithm supplied file → aad_of algorithm supplied ≡ Ok file
aad_from algorithm supplied file h =
    bind_at (stored_within algorithm.prefix) _ tt (stored_from algorithm.prefix h.stored_short)
    ∙ bind_at (within_limit 64 (length algorithm.unique)) _ tt (limit_from 64 (length algorithm.unique) h.unique_short)
    ∙ bind_at (prefix_of algorithm.prefix algorithm.supply supplied) (λ p. Ok (p ++ algorithm.unique)) h.prefix (prefix_from algorithm.prefix algorithm.supply supplied h.prefix h.prefix_is)
    ∙ ap Ok (sym h.joined)

-- the algorithm, the key and the footer
not_both : (a b : Bool) → (a && b) ≡ false → a ≡ true → b ≡ false
not_both true b e h = e
not_both false b e h = cc

never_both : (a b : Bool) → (a ≡ true → b ≡ false) → (a && b) ≡ true → ⊥
never_both true b h e = not_true (h refl) e
never_both false b h e = cc

key_is : (a : KeyAnswer) (key : List ℕ) → key_of a ≡ Ok key → a ≡ Held key
key_is (Held k) key e = let same : k ≡ key = cc in ap Held same
key_is Absent key e = cc
key_is (Refused cause d) key e = cc

footer_is : (plain : List ℕ) (meta : FileMeta) → footer_of plain ≡ Ok meta → (n : ℕ) × (file_meta_at footer_place plain ≡ Ok (meta, n))
footer_is plain meta e =
    let (read, is, made) = bind_ok (file_meta_at footer_place plain) (λ r. Ok r.0) meta e in
    let same : read.0 ≡ meta = cc in
    (read.1, is ∙ ap (λ (m : FileMeta). Ok (m, read.1)) same)

-- the magic of a protected mode
pub same_magic : (magic : Magic) → magic_of (magic_mode magic) ≡ magic
same_magic Pare = refl
same_magic Par1 = refl

-- an encrypted or signed area
area_by_mode : (magic : Magic) (asks : Asks) (tail : Tail) (protection : Protection) (area : List ℕ) → IsProtected asks tail protection magic area
    → IsFooterArea asks tail (magic_mode magic) (Some protection) area
area_by_mode Pare asks tail protection area h = h
area_by_mode Par1 asks tail protection area h = h

protected_laid : (asks : Asks) (bytes : List ℕ) (tail : Tail) (ends : Ends) (head : Head) → AreBytes bytes → AreEnds bytes ends
    → head_of asks.allow_plain ends.magic ends.data_end (area_of ends bytes) ≡ Ok (Protected head)
    → ProtectedSteps asks ends.magic ends.data_end (area_of ends bytes) head tail → IsTail asks bytes tail
protected_laid asks bytes tail ends head each are by_head steps =
    let area = area_of ends bytes in
    let (size, footer_at) = footer_is steps.plain steps.meta steps.footer_is in
    let area_bytes : AreBytes area = below_take ends.area (drop ends.data_end bytes) (below_drop ends.data_end bytes each) in
    let protection = protection_of head steps.file steps.key (crypto_of ends.magic head.size area) in
    let read : Tail = protected_by ends.magic ends.data_end head protection steps.plain steps.meta in
    let protected : IsProtected asks read protection ends.magic area = record {
      metadata = head.metadata;
      front = head.size;
      holds = area_is asks.allow_plain ends.magic steps.key steps.file steps.plain ends.data_end area head area_bytes by_head steps.plain_is;
      crypto_bytes = refl;
      at = refl;
      taken = not_both asks.gcm_only head.algorithm.ctr (passed (asks.gcm_only && head.algorithm.ctr) _ _ steps.done steps.algorithm_is).0;
      file_aad = aad_is head.algorithm asks.prefix steps.file steps.aad_is;
      key = key_is (asks.answer (footer head.metadata)) steps.key steps.key_is;
    } in
    let magic = ap magic_bytes (sym (same_magic ends.magic)) in
    let laid : IsTail asks bytes read = record {
      before = take ends.data_end bytes;
      area = area;
      layout = ends_cut bytes ends each are ∙ ap (λ m. take ends.data_end bytes ++ (area ++ (to_le_bytes w32 (length area) ++ m))) magic;
      begins = take-take 4 ends.data_end bytes are.least ∙ are.front ∙ magic;
      short = omega (arith, area_length bytes ends are, are.short);
      data_end = sym (length-take-le ends.data_end bytes (omega (arith, are.inside)));
      holds = area_by_mode ends.magic asks read protection area protected;
      size = size;
      footer = footer_at;
    } in
    subst (IsTail asks bytes) {x = read} steps.is laid

no_prefix : (prefix : Option (List ℕ)) (u : Unit {0}) → unsupplied prefix ≡ Ok u → prefix ≡ None
no_prefix None u e = refl
no_prefix (Some supplied) u e = cc

bare_laid : (asks : Asks) (bytes : List ℕ) (tail : Tail) (ends : Ends) (size : ℕ) → AreBytes bytes → AreEnds bytes ends
    → head_of asks.allow_plain ends.magic ends.data_end (area_of ends bytes) ≡ Ok (Bare size)
    → BareSteps asks ends.data_end (area_of ends bytes) size tail → IsTail asks bytes tail
bare_laid asks bytes tail ends size each are by_head steps =
    let area = area_of ends bytes in
    let head = bare_head_is asks.allow_plain ends.magic ends.data_end area size by_head in
    let (read_size, footer_at) = footer_is (take size area) steps.meta steps.footer_is in
    let read : Tail = bare_by ends.data_end (take size area) steps.meta in
    let magic : magic_bytes ends.magic ≡ magic_bytes Par1 = ap magic_bytes head.magic_is in
    let bare : IsBare asks read area = record {
      metadata = head.metadata;
      front = size;
      allowed = head.allowed;
      unsupplied = no_prefix asks.prefix steps.first steps.prefix_is;
      signing = head.signing;
      footer_bytes = refl;
      at = refl;
      chunks = (tested (are_plain steps.meta.groups) tt steps.last _ steps.chunks_are).0;
    } in
    let laid : IsTail asks bytes read = record {
      before = take ends.data_end bytes;
      area = area;
      layout = ends_cut bytes ends each are ∙ ap (λ m. take ends.data_end bytes ++ (area ++ (to_le_bytes w32 (length area) ++ m))) magic;
      begins = take-take 4 ends.data_end bytes are.least ∙ are.front ∙ magic;
      short = omega (arith, area_length bytes ends are, are.short);
      data_end = sym (length-take-le ends.data_end bytes (omega (arith, are.inside)));
      holds = bare;
      size = read_size;
      footer = footer_at;
    } in
    subst (IsTail asks bytes) {x = read} steps.is laid

laid_by : (asks : Asks) (bytes : List ℕ) (tail : Tail) (ends : Ends) (head : AreaHead) → AreBytes bytes → AreEnds bytes ends
    → head_of asks.allow_plain ends.magic ends.data_end (area_of ends bytes) ≡ Ok head
    → StepsBy asks ends.magic ends.data_end (area_of ends bytes) head tail → IsTail asks bytes tail
laid_by asks bytes tail ends (Protected head) each are by_head steps = protected_laid asks bytes tail ends head each are by_head steps
laid_by asks bytes tail ends (Bare size) each are by_head steps = bare_laid asks bytes tail ends size each are by_head steps

pub laid_if_read : (asks : Asks) (bytes : List ℕ) (tail : Tail) → AreBytes bytes → tail_of asks bytes ≡ Ok tail → IsTail asks bytes tail
laid_if_read asks bytes tail each e =
    let taken = steps_taken asks bytes tail e in
    laid_by asks bytes tail taken.ends taken.head each taken.are taken.head_is taken.steps

-- only an unencrypted footer has no protection, and none is read without `allow_plain`
never_bare : (magic : Magic) → magic_mode magic ≡ Unencrypted → ⊥
never_bare Pare e = cc
never_bare Par1 e = cc

not_none : (protection : Protection) → ◌≡◌ {A = Option Protection} (Some protection) None → ⊥
not_none protection e = cc

mode_by : (asks : Asks) (magic : Magic) (data_end : ℕ) (area : List ℕ) (head : AreaHead) (tail : Tail) → head_of asks.allow_plain magic data_end area ≡ Ok head
    → StepsBy asks magic data_end area head tail → HasItsMode asks tail
mode_by asks magic data_end area (Protected head) tail by_head steps =
    let protection = protection_of head steps.file steps.key (crypto_of magic head.size area) in
    subst (HasItsMode asks) {x = protected_by magic data_end head protection steps.plain steps.meta} steps.is
    (record { exactly = (λ e. absurd (not_none protection e), λ e. absurd (never_bare magic e)); flagged = λ unset. refl })
mode_by asks magic data_end area (Bare size) tail by_head steps =
    let allowed = (bare_head_is asks.allow_plain magic data_end area size by_head).allowed in
    subst (HasItsMode asks) {x = bare_by data_end (take size area) steps.meta} steps.is
    (record { exactly = (λ e. refl, λ e. refl); flagged = λ unset. absurd (not_true unset allowed) })

area_mode : (asks : Asks) (magic : Magic) (data_end : ℕ) (area : List ℕ) (tail : Tail) → area_tail asks magic data_end area ≡ Ok tail → HasItsMode asks tail
area_mode asks magic data_end area tail e =
    let (head, by_head, after_head) = bind_ok (head_of asks.allow_plain magic data_end area) _ tail e in
    mode_by asks magic data_end area head tail by_head (steps_by asks magic data_end area head tail after_head)

pub result_mode : (asks : Asks) (magic : Magic) (data_end : ℕ) (area : List ℕ) (result : Result Tail Refusal) → Answers result (area_tail asks magic data_end area)
    → IfOk result (HasItsMode asks)
result_mode asks magic data_end area (Err refusal) answered = tt
result_mode asks magic data_end area (Ok tail) answered = area_mode asks magic data_end area tail (sym (answered refl))

pub flag_needed : (asks : Asks) (bytes : List ℕ) (tail : Tail) → tail_of asks bytes ≡ Ok tail → asks.allow_plain ≡ false → IsSome tail.protection
flag_needed asks bytes tail e =
    let (ends, by_ends, after_ends) = bind_ok (ends_of bytes) _ tail e in
    (area_mode asks ends.magic ends.data_end (area_of ends bytes) tail after_ends).flagged

-- an area that is laid out is read
protected_read : (asks : Asks) (magic : Magic) (tail : Tail) (protection : Protection) (data_end : ℕ) (area : List ℕ) (size : ℕ) → tail.mode ≡ magic_mode magic
    → tail.protection ≡ Some protection → tail.data_end ≡ data_end → file_meta_at footer_place tail.footer_bytes ≡ Ok (tail.footer, size)
    → IsProtected asks tail protection magic area → area_tail asks magic data_end area ≡ Ok tail
protected_read asks magic tail protection data_end area size mode_is protection_is end_is by_footer laid =
    let head : Head = record { algorithm = protection.algorithm; metadata = laid.metadata; size = laid.front } in
    let reads = area_reads asks.allow_plain magic (sealing_of protection laid.metadata) tail.footer_bytes laid.front data_end area laid.holds in
    let key = protection.footer_key in
    let file = protection.file_aad in
    let plain = tail.footer_bytes in
    let at_is : data_end + laid.front ≡ tail.at = sym (laid.at ∙ ap (λ k. k + laid.front) end_is) in
    let made : Some (protection_of head file key (crypto_of magic laid.front area)) ≡ tail.protection =
    ap (λ crypto. Some (protection_of head file key crypto)) (sym laid.crypto_bytes) ∙ sym protection_is in
    bind_at (head_of asks.allow_plain magic data_end area) _ (Protected head) reads.head
    ∙ bind_at (check_algorithm asks.gcm_only protection.algorithm) _ tt (when_false (asks.gcm_only && protection.algorithm.ctr) _ _ (never_both asks.gcm_only protection.algorithm.ctr laid.taken))
    ∙ bind_at (aad_of protection.algorithm asks.prefix) _ file (aad_from protection.algorithm asks.prefix file laid.file_aad)
    ∙ bind_at (key_of (asks.answer (footer laid.metadata))) _ key (ap key_of laid.key)
    ∙ bind_at (plain_of magic key file (data_end + laid.front) laid.front area) _ plain reads.bytes
    ∙ bind_at (footer_of plain) _ tail.footer (ap (λ r. r >>= λ x. Ok x.0) by_footer)
    ∙ (λ i. Ok (record { mode = sym mode_is i; protection = made i; footer = tail.footer; footer_bytes = plain; data_end = sym end_is i; at = at_is i }))

bare_read : (asks : Asks) (tail : Tail) (data_end : ℕ) (area : List ℕ) (size : ℕ) → tail.mode ≡ Unencrypted
    → tail.protection ≡ None → tail.data_end ≡ data_end → file_meta_at footer_place tail.footer_bytes ≡ Ok (tail.footer, size)
    → IsBare asks tail area → area_tail asks Par1 data_end area ≡ Ok tail
bare_read asks tail data_end area size mode_is protection_is end_is by_footer laid =
    let plain = take laid.front area in
    let footer_is : footer_of plain ≡ Ok tail.footer = ap footer_of (sym laid.footer_bytes) ∙ ap (λ r. r >>= λ x. Ok x.0) by_footer in
    let at_is : data_end ≡ tail.at = sym (laid.at ∙ end_is) in
    bind_at (head_of asks.allow_plain Par1 data_end area) _ (Bare laid.front) (bare_reads asks.allow_plain data_end area laid.metadata laid.front laid.allowed laid.signing)
    ∙ bind_at (unsupplied asks.prefix) _ tt (ap unsupplied laid.unsupplied)
    ∙ bind_at (footer_of plain) _ tail.footer footer_is
    ∙ bind_at (unsealed tail.footer) _ tt (when_true (are_plain tail.footer.groups) _ _ laid.chunks)
    ∙ (λ i. Ok (record { mode = sym mode_is i; protection = sym protection_is i; footer = tail.footer; footer_bytes = sym laid.footer_bytes i; data_end = sym end_is i; at = at_is i }))

area_read : (asks : Asks) (tail : Tail) (mode : FooterMode) (protection : Option Protection) (data_end : ℕ) (area : List ℕ) (size : ℕ) → tail.mode ≡ mode
    → tail.protection ≡ protection → tail.data_end ≡ data_end → file_meta_at footer_place tail.footer_bytes ≡ Ok (tail.footer, size)
    → IsFooterArea asks tail mode protection area → area_tail asks (magic_of mode) data_end area ≡ Ok tail
area_read asks tail Encrypted (Some protection) data_end area size m p e f laid = protected_read asks Pare tail protection data_end area size m p e f laid
area_read asks tail Signed (Some protection) data_end area size m p e f laid = protected_read asks Par1 tail protection data_end area size m p e f laid
area_read asks tail Unencrypted None data_end area size m p e f laid = bare_read asks tail data_end area size m p e f laid
area_read asks tail Encrypted None data_end area size m p e f laid = absurd laid
area_read asks tail Signed None data_end area size m p e f laid = absurd laid
area_read asks tail Unencrypted (Some protection) data_end area size m p e f laid = absurd laid

pub read_if_laid : (asks : Asks) (bytes : List ℕ) (tail : Tail) → IsTail asks bytes tail → tail_of asks bytes ≡ Ok tail
read_if_laid asks bytes tail t =
    let magic = magic_of tail.mode in
    let (by_ends, area_same) = ends_from magic t.before t.area bytes (record { layout = t.layout; begins_so = t.begins; short = t.short }) in
    bind_at (ends_of bytes) _ (record { magic = magic; data_end = length t.before; area = length t.area }) by_ends
    ∙ ap (area_tail asks magic (length t.before)) area_same
    ∙ area_read asks tail tail.mode tail.protection (length t.before) t.area t.size refl refl t.data_end t.footer t.holds
