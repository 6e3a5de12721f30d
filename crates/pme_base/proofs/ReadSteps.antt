-- Reading a file piece by piece: the front of the buffer after each piece.
use Rattle.std.proofs.Common.{◌≡◌, ℕ, ◌+◌, ◌-◌, ◌≤◌, List, ◌++◌, take, drop, length, Option, None, Some, IfSome, sym, ap, ◌∙◌, arith}
use Rattle.std.proofs.Math.Seq.{take-add, take-append-add}
use Rattle.std.proofs.lemmas.List.{take-append-le, length-take-le, drop-drop}
use borrow.Rule.Slice.PartMut.{put_mid, post_of}
use Rattle.pme_base.specs.Outside.{Published, bytes_of, IsReadAt}

-- the first `count` bytes of the buffer are the file's bytes from offset `at` on
pub record IsReadSoFar (bytes : List ℕ) (at done : ℕ) (into : List ℕ) : Type 0 where
  pub front : take done into ≡ take done (drop at bytes)
  pub within : done ≤ length bytes - at

taken : (n count : ℕ) (xs ys zs : List ℕ) → length xs ≡ n → count ≤ length ys → take (n + count) (xs ++ (ys ++ zs)) ≡ xs ++ take count ys
taken n count xs ys zs e h = rw (← e) (take-append-add xs (ys ++ zs) count ∙ ap (λ r. xs ++ r) (take-append-le count ys zs h))

-- a piece is read after the bytes already read
more : (bytes : List ℕ) (at done place count : ℕ) (into piece : List ℕ) → done ≤ length into → count ≤ length piece → place ≡ at + done
    → IsReadSoFar bytes at done into → IsReadAt bytes place count piece
    → IsReadSoFar bytes at (done + count) (put_mid done (length into - done) into piece)
more bytes at done place count into piece inside fits here so next = record {
  front = taken done count (take done into) piece (post_of done (length into - done) into) (length-take-le done into inside) fits
      ∙ ap (λ r. take done into ++ r) (next.front ∙ rw here (ap (take count) (sym (drop-drop done at bytes))))
      ∙ ap (λ r. r ++ take count (drop done (drop at bytes))) so.front
      ∙ sym (take-add done count (drop at bytes));
  within = omega (arith, next.within, so.within, here);
}

pub more_read : (files : Option Published) (name : List ℕ) (at done place count : ℕ) (into piece : List ℕ) → done ≤ length into → count ≤ length piece → place ≡ at + done
    → IfSome files (λ published. IsReadSoFar (bytes_of published name) at done into) → IfSome files (λ published. IsReadAt (bytes_of published name) place count piece)
    → IfSome files (λ published. IsReadSoFar (bytes_of published name) at (done + count) (put_mid done (length into - done) into piece))
more_read None name at done place count into piece inside fits here so next = tt
more_read (Some published) name at done place count into piece inside fits here so next = more (bytes_of published name) at done place count into piece inside fits here so next
