-- The value of a byte list after a mutable borrow of its bytes has ended.
use Rattle.std.specs.Prelude.{ℕ, List, length, take, drop, ◌++◌}
use Rattle.std.specs.Borrow.{Lends, MutBor, Fml, Array, u8}
use Rattle.pme_base.specs.contracts.bytes.Bytes.{the_row}

-- the list has the bytes that the borrower left
abbrev pub LendsBytes : MutBor (List ℕ) → MutBor (List ℕ) → Fml
LendsBytes bytes lent = Lends the_row (Array u8 0) bytes lent (λ left. take (length bytes.now) (left ++ drop (length left) bytes.now))
