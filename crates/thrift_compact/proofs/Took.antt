-- The bytes that a read consumes, and the bytes after them.
use Rattle.std.proofs.Common.{◌≡◌, ℕ, zero, suc, ◌<◌, List, [], ◌∷◌, ◌++◌, refl, sym, ap, ◌∙◌, subst, append_assoc, Result, Ok}
use Rattle.thrift_compact.specs.Reading.{Fault, byte_at}
use Rattle.thrift_compact.specs.Spelled.{AreBytes}

pub record Took (P : List ℕ → Type 0) (bs r : List ℕ) : Type 0 where
  pub front : List ℕ
  pub parts : bs ≡ front ++ r
  pub is : P front
  pub rest : AreBytes r

abbrev pub done : {A : Type 0} → A × List ℕ → Result (A × List ℕ) Fault
done x = Ok x

pub took_ok : {A : Type 0} (P : A → List ℕ → Type 0) (bs : List ℕ) (x y : A × List ℕ) → done x ≡ done y → Took (P x.0) bs x.1 → Took (P y.0) bs y.1
took_ok {A} P bs x y e t = let same : x ≡ y = cc in subst (λ (z : A × List ℕ). Took (P z.0) bs z.1) same t

pub took_nothing : (P : List ℕ → Type 0) (bs : List ℕ) → AreBytes bs → P [] → Took P bs bs
took_nothing P bs each p = record { front = []; parts = refl; is = p; rest = each }

pub took_as : (P Q : List ℕ → Type 0) (bs r : List ℕ) → ((front : List ℕ) → P front → Q front) → Took P bs r → Took Q bs r
took_as P Q bs r f t = record { front = t.front; parts = t.parts; is = f t.front t.is; rest = t.rest }

pub took_then : (P Q R : List ℕ → Type 0) (bs s r : List ℕ) → ((front others : List ℕ) → P front → Q others → R (front ++ others)) → Took P bs s → Took Q s r → Took R bs r
took_then P Q R bs s r f t u = record {
  front = t.front ++ u.front;
  parts = t.parts ∙ ap (λ more. t.front ++ more) u.parts ∙ sym (append_assoc t.front u.front r);
  is = f t.front u.front t.is u.is;
  rest = u.rest;
}

pub took_thrice : (P Q R S : List ℕ → Type 0) (bs s t r : List ℕ) → ((front middle others : List ℕ) → P front → Q middle → R others → S (front ++ (middle ++ others)))
    → Took P bs s → Took Q s t → Took R t r → Took S bs r
took_thrice P Q R S bs s t r f first second third =
    took_then P (λ more. (middle others : List ℕ) × Q middle × R others × (more ≡ middle ++ others)) S bs s r
    (λ front more p q. subst (λ (m : List ℕ). S (front ++ m)) (sym q.4) (f front q.0 q.1 p q.2 q.3)) first
    (took_then Q R (λ more. (middle others : List ℕ) × Q middle × R others × (more ≡ middle ++ others)) s t r
    (λ middle others p q. (middle, others, p, q, refl)) second third)

abbrev pub IsByte : ℕ → List ℕ → Type 0
IsByte b front = (front ≡ b ∷ []) × (b < 256)

pub byte_took : (bs : List ℕ) (x : ℕ × List ℕ) → AreBytes bs → byte_at bs ≡ Ok x → Took (IsByte x.0) bs x.1
byte_took [] x each e = cc
byte_took (b ∷ bs) x each e = took_ok IsByte (b ∷ bs) (b, bs) x e (record { front = b ∷ []; parts = refl; is = (refl, each zero); rest = λ i. each (suc i) })
