-- Lemmas: parts and concatenations of byte lists are byte lists, and files hold byte lists.
use Rattle.std.proofs.Common.{◌≡◌, ℕ, zero, suc, ◌<◌, Bool, true, false, cond, List, [], ◌∷◌, ◌++◌, slice_index, Option, Some, None, if◌then◌else◌, arith}
use Rattle.std.specs.FinMap.{get, insert, from_entries, get-insert, get-from_entries}
use Rattle.std.specs.Cmp.Lexicographic.{nat_list_cmp_total}
use Rattle.pme_base.specs.Outside.{Published, AreBytes, HoldBytes}

at_front : (x : ℕ) (xs : List ℕ) (i : ℕ) → x < 256 → AreBytes xs → slice_index (x ∷ xs) i < 256
at_front x xs zero first rest = first
at_front x xs (suc i) first rest = rest i

pub no_bytes : AreBytes []
no_bytes = λ i. omega arith

pub bytes_joined : (xs ys : List ℕ) → AreBytes xs → AreBytes ys → AreBytes (xs ++ ys)
bytes_joined [] ys front back = back
bytes_joined (x ∷ xs) ys front back = λ i. at_front x (xs ++ ys) i (front 0) (bytes_joined xs ys (λ j. front (suc j)) back)

pub bytes_front : (xs ys : List ℕ) → AreBytes (xs ++ ys) → AreBytes xs
bytes_front [] ys all = no_bytes
bytes_front (x ∷ xs) ys all = λ i. at_front x xs i (all 0) (bytes_front xs ys (λ j. all (suc j)))

pub bytes_back : (xs ys : List ℕ) → AreBytes (xs ++ ys) → AreBytes ys
bytes_back [] ys all = all
bytes_back (x ∷ xs) ys all = bytes_back xs ys (λ j. all (suc j))

not_some : (o : Option (List ℕ)) (bytes : List ℕ) → o ≡ None → o ≡ Some bytes → ⊥
not_some o bytes is was = cc

pub none_hold : HoldBytes (from_entries [])
none_hold name bytes is = absurd (not_some _ bytes (get-from_entries nat_list_cmp_total [] name) is)

chosen : (test : Bool) (other : Option (List ℕ)) (new bytes : List ℕ) → AreBytes new → (other ≡ Some bytes → AreBytes bytes) → cond test (Some new) other ≡ Some bytes → AreBytes bytes
chosen true other new bytes are held is = let e : new ≡ bytes = cc in rw (← e) are
chosen false other new bytes are held is = held is

one_more_holds : (files : Published) (name new : List ℕ) → HoldBytes files → AreBytes new → HoldBytes (insert files name new)
one_more_holds files name new held are = λ q bytes is.
    chosen _ (get files q) new bytes are (held q bytes) (rw (get-insert nat_list_cmp_total files name new q) at is)

-- the files of a log to which an entry was added or not
pub entry_holds : (added : Bool) (entries : List (List ℕ × List ℕ)) (name new : List ℕ) → HoldBytes (from_entries entries) → AreBytes new
    → HoldBytes (from_entries (if added then (name, new) ∷ entries else entries))
entry_holds true entries name new held are = one_more_holds (from_entries entries) name new held are
entry_holds false entries name new held are = held
