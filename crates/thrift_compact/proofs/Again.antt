-- Bytes that spell a tree are read as that tree, whatever bytes follow.
use Rattle.std.proofs.Common.{◌≡◌, ℕ, zero, suc, ◌≤◌, ℤ, true, false, nat_lt, List, [], ◌∷◌, ◌++◌, length, refl, sym, ap, arith, append_assoc, length-append, Ok}
use Rattle.std.proofs.lemmas.List.{take_at, drop_at}
use Rattle.thrift_compact.specs.declared.kind.TKind.{TKind}
use Rattle.thrift_compact.specs.declared.kind.TKind.TheVariants as kind
use Rattle.thrift_compact.specs.Tree.{Tree, truth, int8, int16, int32, int64, double, binary, list, set, map, struct, Trees, no_trees, tree, Pairs, no_pairs, pair, Fields, no_fields, field, count, pair_count}
use Rattle.thrift_compact.specs.Reading.{bytes_at, element, elements, entries, pairs_from, fields, value}
use Rattle.thrift_compact.specs.Grammar.{IsMapBody, Within, Spells, AllSpell, PairsSpell, SpellsFields}
use Rattle.thrift_compact.proofs.Steps.{not_below, other}
use Rattle.thrift_compact.proofs.Numbers.{number_again, size_again}
use Rattle.thrift_compact.proofs.HeadsAgain.{truth_again, list_head_again, map_kinds_again, field_head_again, head_long}

bytes_again : (n : ℕ) (a r : List ℕ) → length a ≡ n → bytes_at n (a ++ r) ≡ Ok (a, r)
bytes_again n a r e =
    let t : nat_lt (length (a ++ r)) n ≡ false = not_below (length (a ++ r)) n (omega (arith, length-append a r)) in
    rw (t, take_at a r n e, drop_at a r n e) refl

pub element_again : (depth : ℕ) (k : TKind) (t : Tree) (a r : List ℕ) (other : Type 0) → Within k t a other
    → (other → value depth k (a ++ r) ≡ Ok (t, r)) → element (value depth) k (a ++ r) ≡ Ok (t, r)
element_again depth kind.True (truth b) a r other w again = rw (truth_again b a r w) refl
element_again depth kind.True t a r other w again = absurd w
element_again depth kind.False (truth b) a r other w again = rw (truth_again b a r w) refl
element_again depth kind.False t a r other w again = absurd w
element_again depth k t a r other w again = again w

-- the bytes after the size of a map are read as the map's pairs if its pairs are
map_again : (ps : Pairs) (depth : ℕ) (a r : List ℕ) → IsMapBody (λ key value body. PairsSpell depth key value ps body) (pair_count ps) a
    → ((key_kind value_kind : TKind) (body : List ℕ) → PairsSpell depth key_kind value_kind ps body
    → entries (element (value depth) key_kind) (element (value depth) value_kind) (pair_count ps) (body ++ r) ≡ Ok (ps, r))
    → pairs_from (value depth) (pair_count ps) (a ++ r) ≡ Ok (ps, r)
map_again no_pairs depth a r s again = rw s refl
map_again (pair key one ps) depth a r (key_kind, value_kind, body, all, parts) again =
    rw (parts, map_kinds_again key_kind value_kind (body ++ r)) (again key_kind value_kind body all)

mutual
  pub value_again : (t : Tree) (depth : ℕ) (k : TKind) (a r : List ℕ) → Spells depth k t a → value depth k (a ++ r) ≡ Ok (t, r)
  value_again (truth true) depth k a r s = rw (s.0, s.1) refl
  value_again (truth false) depth k a r s = rw (s.0, s.1) refl
  value_again (int8 z) depth k a r s = rw (s.0, s.4) (ap (λ x. Ok (int8 x, r)) (sym s.3))
  value_again (int16 z) depth k a r s = rw (s.0, number_again 65536 z a r (omega arith) s.1) refl
  value_again (int32 z) depth k a r s = rw (s.0, number_again 4294967296 z a r (omega arith) s.1) refl
  value_again (int64 z) depth k a r s = rw (s.0, number_again 18446744073709551616 z a r (omega arith) s.1) refl
  value_again (double bytes) depth k a r s = rw (s.0, s.2, bytes_again 8 bytes r s.1) refl
  value_again (binary bytes) depth k a r s =
      rw (s.0, s.3, append_assoc s.1 bytes r, size_again (length bytes) s.1 (bytes ++ r) s.2, bytes_again (length bytes) bytes r refl) refl
  value_again (list ts) depth k a r (kind_is, inner, room_is, (e, head, body, headed, all, parts)) =
      rw (kind_is, room_is, parts, append_assoc head body r, list_head_again e (count ts) head (body ++ r) headed, items_again ts inner e body r all) refl
  value_again (set ts) depth k a r (kind_is, inner, room_is, (e, head, body, headed, all, parts)) =
      rw (kind_is, room_is, parts, append_assoc head body r, list_head_again e (count ts) head (body ++ r) headed, items_again ts inner e body r all) refl
  value_again (map ps) depth k a r (kind_is, inner, room_is, (size, rest, sized, body, parts)) =
      rw (kind_is, room_is, parts, append_assoc size rest r, size_again (pair_count ps) size (rest ++ r) sized, map_again ps inner rest r body (λ key_kind value_kind all. pairs_again ps inner key_kind value_kind all r)) refl
  value_again (struct fs) depth k a r (kind_is, inner, room_is, all) =
      rw (kind_is, room_is, fields_again fs inner [] (length (a ++ r)) a r all (omega (arith, length-append a r))) refl

  items_again : (ts : Trees) (depth : ℕ) (e : TKind) (a r : List ℕ) → AllSpell depth e ts a → elements (element (value depth) e) (count ts) (a ++ r) ≡ Ok (ts, r)
  items_again no_trees depth e a r s = rw s refl
  items_again (tree t ts) depth e a r (front, others, one, all, parts) =
      rw (parts, append_assoc front others r, element_again depth e t front (others ++ r) (Spells depth e t front) one (value_again t depth e front (others ++ r)), items_again ts depth e others r all) refl

  pairs_again : (ps : Pairs) (depth : ℕ) (key_kind value_kind : TKind) (a r : List ℕ) → PairsSpell depth key_kind value_kind ps a
      → entries (element (value depth) key_kind) (element (value depth) value_kind) (pair_count ps) (a ++ r) ≡ Ok (ps, r)
  pairs_again no_pairs depth key_kind value_kind a r s = rw s refl
  pairs_again (pair key one ps) depth key_kind value_kind a r (front, middle, others, first, second, all, parts) =
      rw (
        parts,
        append_assoc front (middle ++ others) r,
        append_assoc middle others r,
        element_again depth key_kind key front (middle ++ (others ++ r)) (Spells depth key_kind key front) first (value_again key depth key_kind front (middle ++ (others ++ r))),
        element_again depth value_kind one middle (others ++ r) (Spells depth value_kind one middle) second (value_again one depth value_kind middle (others ++ r)),
        pairs_again ps depth key_kind value_kind others r all,
      ) refl

  fields_again : (fs : Fields) (depth : ℕ) (ids : List ℤ) (n : ℕ) (a r : List ℕ) → SpellsFields depth ids fs a → length a ≤ n → fields (value depth) n ids (a ++ r) ≡ Ok (fs, r)
  fields_again no_fields depth ids zero a r s h = absurd (omega (arith, ap length s))
  fields_again no_fields depth ids (suc n) a r s h = rw s refl
  fields_again (field id t fs) depth ids zero a r (k, head, body, others, headed, one, all, parts) h =
      absurd (omega (arith, ap length parts, length-append head (body ++ others), head_long ids id k head headed))
  fields_again (field id t fs) depth ids (suc n) a r (k, head, body, others, headed, one, all, parts) h =
      let shorter : length others ≤ n = omega (arith, ap length parts, length-append head (body ++ others), length-append body others, head_long ids id k head headed) in
      rw (
        parts,
        append_assoc head (body ++ others) r,
        append_assoc body others r,
        field_head_again ids id k head (body ++ (others ++ r)) headed,
        value_again t depth k body (others ++ r) one,
        fields_again fs depth (ids ++ id ∷ []) n others r all shorter,
      ) refl
