-- What was read of the fields of a line, one reader after another.
use Rattle.std.proofs.Common.{◌≡◌, ℕ, Bool, true, List, [], ◌∷◌, Option, Some, None, refl, sym, ap, ◌∙◌}
use Rattle.line_fields.specs.Options.{where_true}
use Rattle.line_fields.specs.Fields.{Reader, reads_on, done, unless_none, meant, tested, whole}
use Rattle.line_fields.proofs.Numbers.{chosen}

abbrev pub Fields : Type 0
Fields = List (List ℕ)

-- ---- one reader, and the next

pub record Goes {A B : Type 0} (o : Option (A × Fields)) (f : A → Reader B) (y : B × Fields) : Type 0 where
  pub value : A
  pub rest : Fields
  pub first : o ≡ Some (value, rest)
  pub next : f value rest ≡ Some y

pub goes : {A B : Type 0} (o : Option (A × Fields)) (f : A → Reader B) (y : B × Fields)
    → reads_on o f ≡ Some y → Goes o f y
goes None f y h = absurd cc
goes (Some x) f y h = record { value = x.0; rest = x.1; first = refl; next = h }

pub whole_is : {A : Type 0} (o : Option (A × Fields)) (x : A) → whole o ≡ Some x → o ≡ Some (x, [])
whole_is None x h = absurd cc
whole_is (Some (y, [])) x h = let same : y ≡ x = cc in ap (λ z. Some (z, [])) same
whole_is (Some (y, t ∷ ts)) x h = absurd cc

pub same_read : {A : Type 0} {x z : A} {ts us : Fields} → done x ts ≡ Some (z, us) → (x ≡ z) × (ts ≡ us)
same_read {A = A} {x = x} {z = z} {ts = ts} {us = us} h =
    let both : (x, ts) ≡ (z, us) = cc in
    (ap (λ (p : A × Fields). p.0) both, ap (λ (p : A × Fields). p.1) both)

-- ---- one field

pub unless_is : {A : Type 0} (o : Option A) (ts : Fields) (x : A) (rest : Fields)
    → unless_none o ts ≡ Some (x, rest) → (o ≡ Some x) × (ts ≡ rest)
unless_is None ts x rest h = absurd cc
unless_is {A = A} (Some y) ts x rest h =
    let both : (y, ts) ≡ (x, rest) = cc in
    (ap (λ (p : A × Fields). Some p.0) both, ap (λ (p : A × Fields). p.1) both)

pub tested_is : (test : List ℕ → Bool) (ts : Fields) (x : List ℕ) (rest : Fields)
    → tested test ts ≡ Some (x, rest) → (test x ≡ true) × (ts ≡ x ∷ rest)
unfolding tested
tested_is test [] x rest h = absurd cc
tested_is test (t ∷ ts) x rest h =
    let k = unless_is (where_true (test t) t) ts x rest h in
    let c = chosen (test t) t x k.0 in
    (ap test (sym c.1) ∙ c.0, ap (λ u. u ∷ ts) c.1 ∙ ap (λ us. x ∷ us) k.1)

pub meant_is : {A : Type 0} (read : List ℕ → Option A) (ts : Fields) (x : A) (rest : Fields)
    → meant read ts ≡ Some (x, rest) → (t : List ℕ) × (read t ≡ Some x) × (ts ≡ t ∷ rest)
unfolding meant
meant_is read [] x rest h = absurd cc
meant_is read (t ∷ ts) x rest h =
    let k = unless_is (read t) ts x rest h in
    (t, k.0, ap (λ us. t ∷ us) k.1)
