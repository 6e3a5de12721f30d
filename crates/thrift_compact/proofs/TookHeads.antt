-- The heads of lists, maps and fields that are read are spelled by the bytes that the read consumes.
use Rattle.std.proofs.Common.{◌≡◌, ◌⊎◌, inl, inr, ℕ, ◌+◌, ◌*◌, ◌/◌, ◌%◌, ◌<◌, ℤ, pos, ◌+ℤ◌, true, false, ◌==◌, if◌then◌else◌, List, [], ◌∷◌, ◌++◌, length, refl, sym, ap, ◌∙◌, subst, arith, Option, Some, None, Result, Ok, Err}
use Rattle.pme_base.specs.Steps.{◌>>=◌}
use Rattle.pme_base.specs.declared.refusal.ThriftFault.TheVariants.{Range, Repeated}
use Rattle.thrift_compact.specs.declared.kind.TKind.{TKind}
use Rattle.thrift_compact.specs.declared.kind.TKind.TheVariants as kind
use Rattle.thrift_compact.specs.Kinds.{code, of_code}
use Rattle.thrift_compact.specs.Reading.{Fault, byte_at, known_kind, list_head, list_size, size_at, map_kinds, field_head, head_from, id_at, int16_at, new_id, last, small_id, is_among}
use Rattle.thrift_compact.specs.Grammar.{IsSize, IsNumber, IsListHead, NamesField, IsFieldHead}
use Rattle.thrift_compact.specs.Spelled.{AreBytes}
use Rattle.pme_base.proofs.Chain.{bind_ok, tested}
use Rattle.thrift_compact.proofs.Steps.{after_ok, chosen, equal_if, other_if}
use Rattle.thrift_compact.proofs.Took.{Took, took_ok, took_nothing, took_as, took_then, IsByte, byte_took}
use Rattle.thrift_compact.proofs.TookNumbers.{size_took, number_took}

step : (n m : ℕ) (k j : TKind) (others : Option TKind) → code k ≡ m → (if n == m then Some k else others) ≡ Some j → (others ≡ Some j → n ≡ code j) → n ≡ code j
step n m k j others is e more =
    elim (chosen (n == m) (Some k) others (Some j) e) [
      | inl w ↦ let same : k ≡ j = cc in equal_if n m w.0 ∙ sym is ∙ ap code same
      | inr w ↦ more w.1
    ]

pub code_is : (n : ℕ) (k : TKind) → of_code n ≡ Some k → n ≡ code k
code_is n k e =
    step n 1 kind.True k _ refl e (λ e. step n 2 kind.False k _ refl e (λ e. step n 3 kind.I8 k _ refl e (λ e. step n 4 kind.I16 k _ refl e
    (λ e. step n 5 kind.I32 k _ refl e (λ e. step n 6 kind.I64 k _ refl e (λ e. step n 7 kind.Double k _ refl e (λ e. step n 8 kind.Binary k _ refl e
    (λ e. step n 9 kind.List k _ refl e (λ e. step n 10 kind.Set k _ refl e (λ e. step n 11 kind.Map k _ refl e (λ e. step n 12 kind.Struct k _ refl e (λ e. cc))))))))))))

known_is : (left : ℕ) (o : Option TKind) (k : TKind) → known_kind left o ≡ Ok k → o ≡ Some k
known_is left (Some j) k e = let same : j ≡ k = cc in ap Some same
known_is left None k e = cc

-- the byte whose low half is a type code; then the one whose high half is one
pub low_is : (left b : ℕ) (k : TKind) → known_kind left (of_code (b % 16)) ≡ Ok k → b ≡ 16 * (b / 16) + code k
low_is left b k e = omega (arith, code_is (b % 16) k (known_is left (of_code (b % 16)) k e))

pub high_is : (left b : ℕ) (k : TKind) → known_kind left (of_code (b / 16)) ≡ Ok k → b / 16 ≡ code k
high_is left b k e = code_is (b / 16) k (known_is left (of_code (b / 16)) k e)

-- the size m of a list whose first byte has the high half n; `size` are the bytes of m after the first byte
abbrev IsListSize : ℕ → ℕ → List ℕ → Type 0
IsListSize n m size = ((n ≡ 15) × IsSize m size) ⊎ ((n ≡ 15 → ⊥) × (m ≡ n) × (size ≡ []))

list_size_took : (n : ℕ) (bs : List ℕ) (x : ℕ × List ℕ) → AreBytes bs → list_size n bs ≡ Ok x → Took (IsListSize n x.0) bs x.1
list_size_took n bs x each e =
    elim (chosen (n == 15) (size_at bs) (Ok (n, bs)) (Ok x) e) [
      | inl w ↦ took_as (IsSize x.0) (IsListSize n x.0) bs x.1 (λ front s. inl (equal_if n 15 w.0, s)) (size_took bs x each w.1)
      | inr w ↦ took_ok (IsListSize n) bs (n, bs) x w.1 (took_nothing (IsListSize n n) bs each (inr (other_if n 15 w.0, refl, refl)))
    ]

is_list_head : (k : TKind) (b n : ℕ) (size : List ℕ) → b < 256 → b ≡ 16 * (b / 16) + code k → IsListSize (b / 16) n size → IsListHead k n (b ∷ size)
is_list_head k b n size small b_is (inl s) = inr (size, s.1, ap (λ c. c ∷ size) (let e : b ≡ 240 + code k = omega (arith, s.0) in e))
is_list_head k b n size small b_is (inr s) =
    let short : n < 15 = omega (arith, s.0, s.1) in
    let e : b ≡ 16 * n + code k = omega (arith, s.1) in
    inl (short, λ i. e i ∷ s.2 i)

abbrev HeadOfList : TKind × ℕ → List ℕ → Type 0
HeadOfList h front = IsListHead h.0 h.1 front

pub list_head_took : (bs : List ℕ) (x : (TKind × ℕ) × List ℕ) → AreBytes bs → list_head bs ≡ Ok x → Took (IsListHead x.0.0 x.0.1) bs x.1
list_head_took bs x each e =
    let (b, read, more) = bind_ok (byte_at bs) (λ b. known_kind (length bs) (of_code (b.0 % 16)) >>= λ k. list_size (b.0 / 16) b.1 >>= λ n. Ok ((k, n.0), n.1)) x e in
    let (k, named, sized) = bind_ok (known_kind (length bs) (of_code (b.0 % 16))) (λ k. list_size (b.0 / 16) b.1 >>= λ n. Ok ((k, n.0), n.1)) x more in
    let (n, size_read, same) = bind_ok (list_size (b.0 / 16) b.1) (λ n. Ok ((k, n.0), n.1)) x sized in
    let byte = byte_took bs b each read in
    took_ok HeadOfList bs ((k, n.0), n.1) x same
    (took_then (IsByte b.0) (IsListSize (b.0 / 16) n.0) (IsListHead k n.0) bs b.1 n.1
    (λ front size p s. subst (λ (f : List ℕ). IsListHead k n.0 (f ++ size)) (sym p.0) (is_list_head k b.0 n.0 size p.1 (low_is (length bs) b.0 k named) s))
    byte (list_size_took (b.0 / 16) b.1 n byte.rest size_read))

abbrev pub KindsOfMap : TKind × TKind → List ℕ → Type 0
KindsOfMap h front = front ≡ (16 * code h.0 + code h.1) ∷ []

pub map_kinds_took : (bs : List ℕ) (x : (TKind × TKind) × List ℕ) → AreBytes bs → map_kinds bs ≡ Ok x → Took (KindsOfMap x.0) bs x.1
map_kinds_took bs x each e =
    after_ok _ (byte_at bs) (λ b. known_kind (length bs) (of_code (b.0 / 16)) >>= λ key. known_kind (length bs) (of_code (b.0 % 16)) >>= λ value. Ok ((key, value), b.1)) x e (λ b read more.
    after_ok _ (known_kind (length bs) (of_code (b.0 / 16))) (λ key. known_kind (length bs) (of_code (b.0 % 16)) >>= λ value. Ok ((key, value), b.1)) x more (λ key key_named later.
    after_ok _ (known_kind (length bs) (of_code (b.0 % 16))) (λ value. Ok ((key, value), b.1)) x later (λ value named same.
    let high = high_is (length bs) b.0 key key_named in
    let low = low_is (length bs) b.0 value named in
    let both : b.0 ≡ 16 * code key + code value = omega (arith, high, low) in
    took_ok KindsOfMap bs ((key, value), b.1) x same
    (took_as (IsByte b.0) (KindsOfMap (key, value)) bs b.1 (λ front p. p.0 ∙ ap (λ c. c ∷ []) both) (byte_took bs b each read)))))

-- the id of a field whose first byte has the high half n; `number` are the bytes of the id after the first byte
abbrev pub IsIdFrom : List ℤ → ℕ → ℤ → List ℕ → Type 0
IsIdFrom ids n id number =
    ((n ≡ 0) × IsNumber 65536 id number) ⊎ ((n ≡ 0 → ⊥) × (id ≡ last ids +ℤ pos n) × (small_id id ≡ true) × (number ≡ []))

pub id_took : (ids : List ℤ) (left n : ℕ) (bs : List ℕ) (x : ℤ × List ℕ) → AreBytes bs → id_at (last ids) left n bs ≡ Ok x → Took (IsIdFrom ids n x.0) bs x.1
id_took ids left n bs x each e =
    elim (chosen (n == 0) (int16_at bs) (if small_id (last ids +ℤ pos n) then Ok (last ids +ℤ pos n, bs) else Err (Range, left)) (Ok x) e) [
      | inl w ↦ took_as (IsNumber 65536 x.0) (IsIdFrom ids n x.0) bs x.1 (λ front s. inl (equal_if n 0 w.0, s)) (number_took 65536 bs x each w.1)
      | inr w ↦
          let (small, same) = tested (small_id (last ids +ℤ pos n)) (last ids +ℤ pos n, bs) x (Range, left) w.1 in
          took_ok (IsIdFrom ids n) bs (last ids +ℤ pos n, bs) x (ap Ok same)
          (took_nothing (IsIdFrom ids n (last ids +ℤ pos n)) bs each (inr (other_if n 0 w.0, refl, small, refl)))
    ]

pub names_field : (ids : List ℤ) (id : ℤ) (k : TKind) (b : ℕ) (number : List ℕ) → b < 256 → b ≡ 16 * (b / 16) + code k
    → IsIdFrom ids (b / 16) id number → NamesField (last ids) id k (b ∷ number)
names_field ids id k b number small b_is (inl s) =
    let e : b ≡ code k = omega (arith, s.0) in
    inr (number, s.1, ap (λ c. c ∷ number) e)
names_field ids id k b number small b_is (inr s) =
    let most : b / 16 < 16 = omega arith in
    let least : 0 < b / 16 = omega (arith, s.0) in
    inl (b / 16, least, most, s.1, s.2, λ i. b_is i ∷ s.3 i)

-- the head of a field, or the stop byte
abbrev pub IsHead : List ℤ → Option (ℤ × TKind) → List ℕ → Type 0
IsHead ids None front = front ≡ 0 ∷ []
IsHead ids (Some h) front = IsFieldHead ids h.0 h.1 front

abbrev pub with_id : List ℤ → ℕ → TKind → ℤ × List ℕ → Result (Option (ℤ × TKind) × List ℕ) Fault
with_id ids left k id = new_id left id.0 ids >>= λ new. Ok (Some (new, k), id.1)

abbrev pub with_kind : List ℤ → ℕ → ℕ → List ℕ → TKind → Result (Option (ℤ × TKind) × List ℕ) Fault
with_kind ids left b bs k = id_at (last ids) left (b / 16) bs >>= with_id ids left k

fresh_is : (left : ℕ) (id new : ℤ) (ids : List ℤ) → new_id left id ids ≡ Ok new → (is_among id ids ≡ false) × (id ≡ new)
fresh_is left id new ids e =
    elim (chosen (is_among id ids) (Err (Repeated, left)) (Ok id) (Ok new) e) [ inl w ↦ cc | inr w ↦ (w.0, cc) ]

-- a field's head after its first byte b
field_took : (ids : List ℤ) (b : ℕ) (bs r : List ℕ) (x : Option (ℤ × TKind) × List ℕ) → Took (IsByte b) bs r
    → (known_kind (length bs) (of_code (b % 16)) >>= with_kind ids (length bs) b r) ≡ Ok x → Took (IsHead ids x.0) bs x.1
field_took ids b bs r x byte e =
    let (k, named, more) = bind_ok (known_kind (length bs) (of_code (b % 16))) (with_kind ids (length bs) b r) x e in
    let (id, id_read, later) = bind_ok (id_at (last ids) (length bs) (b / 16) r) (with_id ids (length bs) k) x more in
    let (new, new_is, same) = bind_ok (new_id (length bs) id.0 ids) (λ new. Ok (Some (new, k), id.1)) x later in
    let (absent, id_is) = fresh_is (length bs) id.0 new ids new_is in
    took_ok (IsHead ids) bs (Some (new, k), id.1) x same
    (took_then (IsByte b) (IsIdFrom ids (b / 16) id.0) (IsFieldHead ids new k) bs r id.1
    (λ front number p s. subst (λ (f : List ℕ). IsFieldHead ids new k (f ++ number)) (sym p.0)
    (subst (λ (z : ℤ). IsFieldHead ids z k (b ∷ number)) id_is (absent, names_field ids id.0 k b number p.1 (low_is (length bs) b k named) s)))
    byte (id_took ids (length bs) (b / 16) r id byte.rest id_read))

pub field_head_took : (ids : List ℤ) (bs : List ℕ) (x : Option (ℤ × TKind) × List ℕ) → AreBytes bs → field_head ids bs ≡ Ok x → Took (IsHead ids x.0) bs x.1
field_head_took ids bs x each e =
    let (b, read, more) = bind_ok (byte_at bs) (λ b. head_from ids (length bs) b.0 b.1) x e in
    let byte = byte_took bs b each read in
    elim (chosen (b.0 == 0) (Ok (None, b.1)) (known_kind (length bs) (of_code (b.0 % 16)) >>= with_kind ids (length bs) b.0 b.1) (Ok x) more) [
      | inl w ↦ took_ok (IsHead ids) bs (None, b.1) x w.1
          (took_as (IsByte b.0) (IsHead ids None) bs b.1 (λ front p. p.0 ∙ ap (λ c. c ∷ []) (equal_if b.0 0 w.0)) byte)
      | inr w ↦ field_took ids b.0 bs b.1 x byte w.1
    ]
