-- The sum of a size over column chunks, added up chunk by chunk.
use Rattle.std.proofs.Common.{◌≡◌, ℕ, ◌+◌, ◌<◌, ◌≤◌, ℤ, pos, ◌+ℤ◌, arith, List, length, get_or, drop, sym, ◌∙◌, ap}
use Rattle.std.proofs.lemmas.Int.{ints}
use Rattle.std.proofs.lemmas.List.{drop_all}
use Rattle.parquet_types.specs.declared.plan.WrittenChunk.{WrittenChunk}
use Rattle.parquet_writing.specs.Plans.{total}
use Rattle.parquet_writing.specs.Putting.{IsWithin}
use Rattle.parquet_writing.proofs.PutLists.{drop_here}

moved : (a b c d : ℤ) (whole : ℤ) → a +ℤ (b +ℤ c) ≡ whole → d ≡ a +ℤ b → d +ℤ c ≡ whole
moved a b c d whole sum is = omega (arith, ints, sum, is)

ended : (a whole : ℤ) → a +ℤ pos 0 ≡ whole → a ≡ whole
ended a whole sum = omega (arith, ints, sum)

pub total_next :
    (size : WrittenChunk → ℤ) (xs : List WrittenChunk) (i : ℕ) (x : WrittenChunk) (sum next whole : ℤ)
    → i < length xs → x ≡ get_or xs i x → sum +ℤ total size (drop i xs) ≡ whole → next ≡ sum +ℤ size x → next +ℤ total size (drop (i + 1) xs) ≡ whole
total_next size xs i x sum next whole within is so_far put =
    moved sum (size x) (total size (drop (i + 1) xs)) next whole (sym (ap (λ rest. sum +ℤ total size rest) (drop_here xs i x within is)) ∙ so_far) put

pub total_over :
    (size : WrittenChunk → ℤ) (xs : List WrittenChunk) (i : ℕ) (sum whole : ℤ)
    → length xs ≤ i → sum +ℤ total size (drop i xs) ≡ whole → sum ≡ whole
total_over size xs i sum whole past so_far =
    ended sum whole (sym (ap (λ rest. sum +ℤ total size rest) (drop_all i xs past)) ∙ so_far)

pub total_before : (size : WrittenChunk → ℤ) (xs : List WrittenChunk) → pos 0 +ℤ total size xs ≡ total size xs
total_before size xs = omega (arith, ints)

pub within_nothing : IsWithin 0 (pos 0)
within_nothing = record { low = omega (arith, ints); high = omega (arith, ints) }

pub within_more : (n m : ℕ) (z : ℤ) → n ≤ m → IsWithin n z → IsWithin m z
within_more n m z up within = record { low = omega (arith, ints, up, within.low); high = omega (arith, ints, up, within.high) }
