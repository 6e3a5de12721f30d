-- One text written after another.
use Rattle.std.proofs.Common.{◌≡◌, ℕ, ◌+◌, List, [], ◌++◌, take, length, Option, Some, None, refl, sym, ◌∙◌, ap, append_assoc, arith, length-append}
use Rattle.std.proofs.Math.Seq.{take-append-add}
use Rattle.std.proofs.lemmas.List.{append-nil, take_all}
use Rattle.pme_base.specs.Outside.{followed_by, PutsFront}
use Rattle.command_parts.specs.World.{Appended}

followed_twice : (xs ys : List ℕ) (a : Option (List ℕ)) → followed_by ys (followed_by xs a) ≡ followed_by (xs ++ ys) a
followed_twice xs ys None = refl
followed_twice xs ys (Some w) = ap Some (append_assoc w xs ys)

pub followed_by_none : (a : Option (List ℕ)) → a ≡ followed_by [] a
followed_by_none None = refl
followed_by_none (Some w) = ap Some (sym (append-nil w))

-- one text was written whole, and then a prefix of the next
pub puts_more : (xs ys : List ℕ) (a b c : Option (List ℕ)) → b ≡ followed_by xs a → PutsFront ys b c → PutsFront (xs ++ ys) a c
puts_more xs ys a b c whole part = record {
  count = length xs + part.count;
  within = omega (arith, part.within, length-append xs ys);
  front = part.front ∙ ap (followed_by (take part.count ys)) whole ∙ followed_twice xs (take part.count ys) a
      ∙ ap (λ t. followed_by t a) (sym (take-append-add xs ys part.count));
}

-- nothing was written
pub puts_nothing : (xs : List ℕ) (a : Option (List ℕ)) → PutsFront xs a a
puts_nothing xs a = record { count = 0; within = omega arith; front = followed_by_none a }

-- a prefix that was written was appended
pub puts_appended : (xs : List ℕ) (a b : Option (List ℕ)) → PutsFront xs a b → Appended a b
puts_appended xs a b part = record { more = take part.count xs; is = part.front }

pub nothing_appended : (a : Option (List ℕ)) → Appended a a
nothing_appended a = record { more = []; is = followed_by_none a }

-- a whole text counts as a prefix of itself
pub puts_whole : (xs : List ℕ) (a b : Option (List ℕ)) → b ≡ followed_by xs a → PutsFront xs a b
puts_whole xs a b e = record { count = length xs; within = omega arith; front = e ∙ ap (λ t. followed_by t a) (sym (take_all (length xs) xs (omega arith))) }
