-- Appending two pieces one after another.
use Rattle.std.proofs.Common.{◌≡◌, ℕ, List, ◌++◌, ◌∙◌, ap, append_assoc}

pub two_pieces : (old between new first second : List ℕ) → between ≡ old ++ first → new ≡ between ++ second → new ≡ old ++ (first ++ second)
two_pieces old between new first second one two = two ∙ ap (λ n. n ++ second) one ∙ append_assoc old first second
