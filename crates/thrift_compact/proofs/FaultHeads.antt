-- If reading the head of a list, of a map's pairs or of a field fails, the head has the reported fault.
use Rattle.std.proofs.Common.{◌≡◌, inl, inr, ℕ, zero, suc, ◌+◌, ◌*◌, ◌/◌, ◌%◌, ◌<◌, ℤ, pos, ◌+ℤ◌, true, ◌==◌, if◌then◌else◌, List, [], ◌∷◌, length, refl, ap, ◌∙◌, arith, Option, Some, None, Ok, Err}
use Rattle.pme_base.specs.Steps.{◌>>=◌}
use Rattle.pme_base.specs.declared.refusal.ThriftFault.TheVariants.{WrongType, Range, Repeated}
use Rattle.thrift_compact.specs.declared.kind.TKind.{TKind}
use Rattle.thrift_compact.specs.Kinds.{code, of_code}
use Rattle.thrift_compact.specs.Reading.{Fault, byte_at, known_kind, list_head, list_size, size_at, map_kinds, field_head, head_from, id_at, int16_at, new_id, last, small_id, is_among}
use Rattle.thrift_compact.specs.Faults.{SizeFault, IsNoKind, ListHeadFault, no_list_head, no_element_kind, list_size_fault, MapKindsFault, FieldHeadFault, no_field_head, no_field_kind, id_fault, id_too_far, id_again}
use Rattle.thrift_compact.specs.Spelled.{AreBytes}
use Rattle.pme_base.proofs.Chain.{bind_refused}
use Rattle.thrift_compact.proofs.Steps.{one_refusal, cond_err, chosen, equal_if, other_if}
use Rattle.thrift_compact.proofs.Took.{Took, IsByte, byte_took}
use Rattle.thrift_compact.proofs.TookHeads.{low_is, IsIdFrom, id_took, names_field, with_id, with_kind}
use Rattle.thrift_compact.proofs.FaultNumbers.{byte_err, byte_is, number_err, size_err}

no_kind : (n : ℕ) → of_code n ≡ None → IsNoKind n
no_kind zero e = inl refl
no_kind (suc zero) e = cc
no_kind (suc (suc zero)) e = cc
no_kind (suc (suc (suc zero))) e = cc
no_kind (suc (suc (suc (suc zero)))) e = cc
no_kind (suc (suc (suc (suc (suc zero))))) e = cc
no_kind (suc (suc (suc (suc (suc (suc zero)))))) e = cc
no_kind (suc (suc (suc (suc (suc (suc (suc zero))))))) e = cc
no_kind (suc (suc (suc (suc (suc (suc (suc (suc zero)))))))) e = cc
no_kind (suc (suc (suc (suc (suc (suc (suc (suc (suc zero))))))))) e = cc
no_kind (suc (suc (suc (suc (suc (suc (suc (suc (suc (suc zero)))))))))) e = cc
no_kind (suc (suc (suc (suc (suc (suc (suc (suc (suc (suc (suc zero))))))))))) e = cc
no_kind (suc (suc (suc (suc (suc (suc (suc (suc (suc (suc (suc (suc zero)))))))))))) e = cc
no_kind (suc (suc (suc (suc (suc (suc (suc (suc (suc (suc (suc (suc (suc n))))))))))))) e = inr (omega arith)

none_known : (left : ℕ) (o : Option TKind) (f : Fault) → known_kind left o ≡ Err f → (o ≡ None) × (f ≡ (WrongType, left))
none_known left (Some k) f e = cc
none_known left None f e = (refl, one_refusal (known_kind left None) (WrongType, left) f refl e)

known_err : (left n : ℕ) (f : Fault) → known_kind left (of_code n) ≡ Err f → IsNoKind n × (f ≡ (WrongType, left))
known_err left n f e = let w = none_known left (of_code n) f e in (no_kind n w.0, w.1)

list_size_err : (n : ℕ) (bs : List ℕ) (f : Fault) → AreBytes bs → list_size n bs ≡ Err f → (n ≡ 15) × SizeFault bs f
list_size_err n bs f each e =
    elim (chosen (n == 15) (size_at bs) (Ok (n, bs)) (Err f) e) [
      | inl w ↦ (equal_if n 15 w.0, size_err bs f each w.1)
      | inr w ↦ cc
    ]

pub list_head_err : (bs : List ℕ) (f : Fault) → AreBytes bs → list_head bs ≡ Err f → ListHeadFault bs f
list_head_err bs f each e =
    bind_refused _ (byte_at bs) (λ b. known_kind (length bs) (of_code (b.0 % 16)) >>= λ k. list_size (b.0 / 16) b.1 >>= λ n. Ok ((k, n.0), n.1)) f e
    (λ refused. no_list_head (byte_err bs f refused)) (λ b read more.
    let parts = byte_is bs b read in
    let byte : Took (IsByte b.0) bs b.1 = byte_took bs b each read in
    bind_refused _ (known_kind (length bs) (of_code (b.0 % 16))) (λ k. list_size (b.0 / 16) b.1 >>= λ n. Ok ((k, n.0), n.1)) f more
    (λ refused. let w = known_err (length bs) (b.0 % 16) f refused in no_element_kind (b.0, b.1, w.0, parts, w.1)) (λ k named later.
    bind_refused _ (list_size (b.0 / 16) b.1) (λ n. Ok ((k, n.0), n.1)) f later
    (λ refused.
    let w = list_size_err (b.0 / 16) b.1 f byte.rest refused in
    let whole = low_is (length bs) b.0 k named in
    let head : b.0 ≡ 240 + code k = omega (arith, whole, w.0) in
    list_size_fault k (b.0 ∷ [], b.1, ap (λ c. c ∷ []) head, parts, w.1)) (λ n read wrong. cc)))

pub map_kinds_err : (bs : List ℕ) (f : Fault) → map_kinds bs ≡ Err f → MapKindsFault bs f
map_kinds_err bs f e =
    bind_refused _ (byte_at bs) (λ b. known_kind (length bs) (of_code (b.0 / 16)) >>= λ key. known_kind (length bs) (of_code (b.0 % 16)) >>= λ value. Ok ((key, value), b.1)) f e
    (λ refused. inl (byte_err bs f refused)) (λ b read more.
    let parts = byte_is bs b read in
    bind_refused _ (known_kind (length bs) (of_code (b.0 / 16))) (λ key. known_kind (length bs) (of_code (b.0 % 16)) >>= λ value. Ok ((key, value), b.1)) f more
    (λ refused. let w = known_err (length bs) (b.0 / 16) f refused in inr (b.0, b.1, inl w.0, parts, w.1)) (λ key named later.
    bind_refused _ (known_kind (length bs) (of_code (b.0 % 16))) (λ value. Ok ((key, value), b.1)) f later
    (λ refused. let w = known_err (length bs) (b.0 % 16) f refused in inr (b.0, b.1, inr w.0, parts, w.1)) (λ value read wrong. cc)))

fresh_err : (left : ℕ) (id : ℤ) (ids : List ℤ) (f : Fault) → new_id left id ids ≡ Err f → (is_among id ids ≡ true) × (f ≡ (Repeated, left))
fresh_err left id ids f e =
    elim (chosen (is_among id ids) (Err (Repeated, left)) (Ok id) (Err f) e) [ inl w ↦ (w.0, one_refusal _ (Repeated, left) f refl w.1) | inr w ↦ cc ]

-- the id of a field, after the byte b with its kind k
id_err : (ids : List ℤ) (b : ℕ) (k : TKind) (bs r : List ℕ) (f : Fault) → bs ≡ b ∷ r → b ≡ 16 * (b / 16) + code k → AreBytes r
    → id_at (last ids) (length bs) (b / 16) r ≡ Err f → FieldHeadFault ids bs f
id_err ids b k bs r f parts whole each e =
    elim (chosen (b / 16 == 0) (int16_at r) (if small_id (last ids +ℤ pos (b / 16)) then Ok (last ids +ℤ pos (b / 16), r) else Err (Range, length bs)) (Err f) e) [
      | inl w ↦
          let none = equal_if (b / 16) 0 w.0 in
          let head : b ≡ code k = omega (arith, whole, none) in
          id_fault k (b ∷ [], r, ap (λ c. c ∷ []) head, parts, number_err 65536 r f each w.1)
      | inr w ↦
          let (far, is) = cond_err (small_id (last ids +ℤ pos (b / 16))) (last ids +ℤ pos (b / 16), r) (Range, length bs) f w.1 in
          let some = other_if (b / 16) 0 w.0 in
          let least : 0 < b / 16 = omega (arith, some) in
          id_too_far (b, r, (b / 16, k, least, whole, far), parts, is)
    ]

-- the whole head of a field, after its first byte b, which isn't the stop byte
field_err : (ids : List ℤ) (b : ℕ) (bs r : List ℕ) (f : Fault) → bs ≡ b ∷ r → b < 256 → 0 < b → AreBytes r
    → (known_kind (length bs) (of_code (b % 16)) >>= with_kind ids (length bs) b r) ≡ Err f → FieldHeadFault ids bs f
field_err ids b bs r f parts small least each e =
    bind_refused _ (known_kind (length bs) (of_code (b % 16))) (with_kind ids (length bs) b r) f e
    (λ refused. let w = known_err (length bs) (b % 16) f refused in no_field_kind (b, r, (least, w.0), parts, w.1)) (λ k named more.
    let whole = low_is (length bs) b k named in
    bind_refused _ (id_at (last ids) (length bs) (b / 16) r) (with_id ids (length bs) k) f more
    (λ refused. id_err ids b k bs r f parts whole each refused) (λ id read later.
    let took : Took (IsIdFrom ids (b / 16) id.0) r id.1 = id_took ids (length bs) (b / 16) r id each read in
    bind_refused _ (new_id (length bs) id.0 ids) (λ new. Ok (Some (new, k), id.1)) f later
    (λ refused.
    let (among, is) = fresh_err (length bs) id.0 ids f refused in
    id_again id.0 k (b ∷ took.front) id.1 (names_field ids id.0 k b took.front small whole took.is) among (parts ∙ ap (λ more. b ∷ more) took.parts) is)
    (λ new read wrong. cc)))

pub field_head_err : (ids : List ℤ) (bs : List ℕ) (f : Fault) → AreBytes bs → field_head ids bs ≡ Err f → FieldHeadFault ids bs f
field_head_err ids bs f each e =
    bind_refused _ (byte_at bs) (λ b. head_from ids (length bs) b.0 b.1) f e (λ refused. no_field_head (byte_err bs f refused)) (λ b read more.
    let byte : Took (IsByte b.0) bs b.1 = byte_took bs b each read in
    elim (chosen (b.0 == 0) (Ok (None, b.1)) (known_kind (length bs) (of_code (b.0 % 16)) >>= with_kind ids (length bs) b.0 b.1) (Err f) more) [
      | inl w ↦ cc
      | inr w ↦ let some = other_if b.0 0 w.0 in field_err ids b.0 bs b.1 f (byte_is bs b read) byte.is.1 (omega (arith, some)) byte.rest w.1
    ])
