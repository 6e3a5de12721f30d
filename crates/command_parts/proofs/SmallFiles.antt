-- Reading a whole file gives at most its own bytes.
use Rattle.std.proofs.Common.{◌≡◌, ◌≤◌, ℕ, ◌+◌, List, length, Option, Some, None, IfSome, Ok, refl, arith}
use Rattle.std.specs.Prelude.{unwrap_or, []}
use Rattle.std.specs.FinMap.{get}
use Rattle.pme_base.specs.Outside.{Published, bytes_of}
use Rattle.pme_base.specs.Reading.{size_of}
use Rattle.pme_base.specs.Steps.{Answers}

size_is : (file : Option (List ℕ)) (size : ℕ) → Ok size ≡ size_of file → length (unwrap_or file []) ≡ size
size_is None size e = absurd cc
size_is (Some bytes) size e = cc

-- a read of at most the size of the file
pub own_bytes : (published : Option Published) (name : List ℕ) (size before now : ℕ) → IfSome published (λ files. Answers (Ok size) (size_of (get files name)))
    → now ≤ before + size → IfSome published (λ files. now ≤ before + length (bytes_of files name))
own_bytes None name size before now h most = tt
own_bytes (Some files) name size before now h most = let is = size_is (get files name) size (h refl) in omega (arith, is, most)
