-- Optional values that are there: where they come from.
use Rattle.std.proofs.Common.{◌≡◌, ◌⊎◌, inl, inr, Bool, true, false, Option, Some, None, option_map, option_and_then, Result, Ok, Err, if◌then◌else◌, refl, ap}
use Rattle.std.specs.Option.{ok_or}
use Rattle.pme_base.specs.Steps.{◌>>=◌}
use Rattle.key_material.specs.PolicyValues.{passing}

pub after : {S T E : Type 0} (first : Result S E) (next : S → Result T E) (y : T) → (first >>= next) ≡ Ok y → (x : S) × (first ≡ Ok x) × (next x ≡ Ok y)
after (Ok x) next y is = (x, refl, is)
after (Err e) next y is = cc is

pub there : {T E : Type 0} (o : Option T) (e : E) (x : T) → ok_or o e ≡ Ok x → o ≡ Some x
there (Some y) e x is = cc is
there None e x is = cc is

pub chained : {A B : Type 0} (o : Option A) (f : A → Option B) (y : B) → option_and_then f o ≡ Some y → (x : A) × (o ≡ Some x) × (f x ≡ Some y)
chained (Some x) f y is = (x, refl, is)
chained None f y is = cc is

pub mapped : {A B : Type 0} (o : Option A) (f : A → B) (y : B) → option_map f o ≡ Some y → (x : A) × (o ≡ Some x) × (f x ≡ y)
mapped (Some x) f y is = (x, refl, cc is)
mapped None f y is = cc is

chosen : {T : Type 0} (test : Bool) (x y : T) → (if test then Some x else None) ≡ Some y → (test ≡ true) × (x ≡ y)
chosen true x y is = (refl, cc is)
chosen false x y is = cc is

pub passed : {T : Type 0} (test : T → Bool) (x y : T) → passing test x ≡ Some y → (test x ≡ true) × (x ≡ y)
passed test x y is = chosen (test x) x y is

pub refused : {S T E : Type 0} (first : Result S E) (next : S → Result T E) (e : E) → (first >>= next) ≡ Err e → (first ≡ Err e) ⊎ ((x : S) × (first ≡ Ok x) × (next x ≡ Err e))
refused (Ok x) next e is = inr (x, refl, is)
refused (Err other) next e is = let same : other ≡ e = cc is in inl (ap Err same)

pub absent : {T E : Type 0} (o : Option T) (e f : E) → ok_or o e ≡ Err f → (o ≡ None) × (f ≡ e)
absent (Some x) e f is = cc is
absent None e f is = (refl, cc is)
