-- How phrases begin.
use Rattle.std.proofs.Common.{◌≡◌, Bool, true, ℕ, inl, inr, List, [], ◌∷◌, ◌++◌, Option, Some}
use Rattle.std.proofs.Common.{None, refl, sym, ap, subst, ◌∙◌, append-nil, append_assoc}
use Rattle.readers.specs.Readers.{◌>>=◌, done}
use Rattle.phrases.specs.Phrase as phrases
use Rattle.phrases.specs.Phrase.{Meaning, Phrase, then, only, ◌or◌, where_true}
use Rattle.phrases.specs.Reading.{Tells, Reader, meant_in, is_there}
use Rattle.phrases.proofs.Readers.{Reads, reads_then, reads_done, reads_before}
use Rattle.phrases.proofs.Repeats.{Begins}

there : {A : Type 0} (o : Option A) → is_there o ≡ true → (a : A) × (o ≡ Some a)
there None e = absurd cc
there (Some a) e = (a, refl)

module _ {L : Type 0} where
  -- the first token is such a one
  abbrev pub Head : (L → Type 0) → List L → Type 0
  Head C k = (u : L) × (rest : List L) × (k ≡ u ∷ rest) × C u

  abbrev pub Heads : {A : Type 0} → (L → Type 0) → Phrase L A → Type 0
  Heads C p = (t : List L) (x : _) → p t x → Head C t

  -- a token of this meaning
  abbrev pub Is : {A : Type 0} → Meaning L A → L → Type 0
  Is m u = (a : _) × (m u ≡ Some a)

  pub head_more : {C : L → Type 0} (t k : List L) → Head C t → Head C (t ++ k)
  head_more t k (u, rest, e, c) = (u, rest ++ k, ap (λ l. l ++ k) e, c)

  pub head_as : {C D : L → Type 0} {k : List L} → Head C k → ((u : L) → C u → D u) → Head D k
  head_as (u, rest, e, c) f = (u, rest, e, f u c)

  pub heads_as : {A : Type 0} {C D : L → Type 0} {p : Phrase L A} → Heads C p → ((u : L) → C u → D u)
      → Heads D p
  heads_as h f t x q = head_as (h t x q) f

  pub heads_one : {A : Type 0} (m : Meaning L A) → Heads (Is m) (phrases.one m)
  heads_one m t x (u, e, means) = (u, [], e, (x, means))

  pub heads_then : {A B : Type 0} {C : L → Type 0} {p : Phrase L A} (q : A → Phrase L B) → Heads C p
      → Heads C (then p q)
  heads_then q h tokens y (x, s, t, e, a, b) = subst (Head _) (sym e) (head_more s t (h s x a))

  pub heads_or : {A : Type 0} {C : L → Type 0} {p q : Phrase L A} → Heads C p → Heads C q → Heads C (p or q)
  heads_or h g t x = elim [ inl a ↦ h t x a | inr b ↦ g t x b ]

  -- a test takes no token
  pub heads_test : {A : Type 0} {C : L → Type 0} (b : Bool) (q : Unit {0} → Phrase L A) → Heads C (q tt)
      → Heads C (then (where_true b) q)
  heads_test {C = C} b q h tokens y (x, s, t, e, a, r) =
      let same : tokens ≡ t = e ∙ ap (λ l. l ++ t) a.0 in
      subst (Head C) (sym same) (h t y r)

  -- what may be left out, and what follows it
  pub heads_optional : {A B : Type 0} {C : L → Type 0} {p : Phrase L A} (z : A) (q : A → Phrase L B)
      → Heads C p → ((x : A) → Heads C (q x)) → Heads C (then (p or only z) q)
  heads_optional {C = C} z q h g tokens y (x, s, t, e, a, r) = elim a [
    | inl b ↦ subst (Head C) (sym e) (head_more s t (h s x b))
    | inr b ↦ subst (Head C) (sym (e ∙ ap (λ l. l ++ t) b.0)) (g x t y r)
  ]

  -- any number of items, and what follows them
  pub heads_many : {S A B : Type 0} {C : L → Type 0} (next : S → A → S) (p : S → Phrase L A) (s : S)
      (q : List A → Phrase L B) → ((s : S) → Heads C (p s)) → ((xs : List A) → Heads C (q xs))
      → Heads C (then (phrases.many next p s) q)
  heads_many {C = C} next p s q h g tokens y ([], f, t, e, a, r) =
      subst (Head C) (sym (e ∙ ap (λ l. l ++ t) a)) (g [] t y r)
  heads_many {C = C} next p s q h g tokens y (x ∷ xs, f, t, e, (u, v, d, a, more), r) =
      subst (Head C) (sym e) (head_more f t (subst (Head C) (sym d) (head_more u v (h s u x a))))

  -- ---- tokens that mean nothing here

  pub none_there : {A : Type 0} {C : L → Type 0} (m : Meaning L A) {k : List L} → Head C k
      → ((u : L) → C u → m u ≡ None) → meant_in m k ≡ None
  none_there m (u, rest, e, c) f = ap (meant_in m) e ∙ f u c

  pub none_ahead : {A B : Type 0} {C : L → Type 0} (m : Meaning L A) {p : Phrase L B} → Heads C p
      → ((u : L) → C u → m u ≡ None) → (t : List L) (x : B) (k : List L) → p t x → meant_in m (t ++ k) ≡ None
  none_ahead m h f t x k q = none_there m (head_more t k (h t x q)) f

  pub began : {A : Type 0} (m : Meaning L A) {k : List L} → Head (Is m) k → Begins m k
  began m (u, rest, e, (a, means)) = ap (λ l. is_there (meant_in m l)) e ∙ ap is_there means

  pub begins_ahead : {A B : Type 0} (m : Meaning L A) {p : Phrase L B} → Heads (Is m) p
      → (t : List L) (x : B) (k : List L) → p t x → Begins m (t ++ k)
  begins_ahead m h t x k q = began m (head_more t k (h t x q))

  pub begins_head : {A : Type 0} (m : Meaning L A) (k : List L) → Begins m k → Head (Is m) k
  begins_head m [] e = absurd cc
  begins_head m (u ∷ rest) e = (u, rest, refl, there (m u) e)

  pub map_ahead : {A B : Type 0} {P : Phrase L A} (S T : List L → Type 0) (f : A → B)
      → ((t : List L) (x : A) (k : List L) → P t x → T k → S (t ++ k)) → (t : List L) (y : B) (k : List L)
      → then P (λ a. only (f a)) t y → T k → S (t ++ k)
  map_ahead S T f h t y k (x, s, o, e, q, none) stop =
      let same : t ≡ s = e ∙ ap (λ l. s ++ l) none.0 ∙ append-nil s in
      subst (λ l. S (l ++ k)) (sym same) (h s x k q stop)

  pub many_ahead : {S A : Type 0} {C : L → Type 0} (Item Stop : List L → Type 0) (next : S → A → S) (p : S
      → Phrase L A) → ((s : S) → Heads C (p s)) → ((k : List L) → Head C k → Item k) → ((k : List L) → Stop k
      → Item k) → (s : S) (t : List L) (xs : List A) (k : List L) → phrases.many next p s t xs → Stop k
      → Item (t ++ k)
  many_ahead Item Stop next p heads goes stops s t [] k e stop = subst (λ l. Item (l ++ k)) (sym e)
      (stops k stop)
  many_ahead Item Stop next p heads goes stops s t (x ∷ xs) k (f, o, e, q, more) stop =
      goes (t ++ k) (head_more t k (subst (Head _) (sym e) (head_more f o (heads s f x q))))

  -- ---- alternatives that another meaning doesn't begin

  pub or_ahead : {A : Type 0} {C : L → Type 0} {P R : Phrase L A} (S T : List L → Type 0) → Heads C P
      → ((k : List L) → Head C k → S k) → ((t : List L) (y : A) (k : List L) → R t y → T k → S (t ++ k))
      → (t : List L) (y : A) (k : List L) → (P or R) t y → T k → S (t ++ k)
  or_ahead S T heads fits other t y k q stop = elim q [
    | inl a ↦ fits (t ++ k) (head_more t k (heads t y a))
    | inr b ↦ other t y k b stop
  ]

  pub head_ahead : {A : Type 0} {C : L → Type 0} {P : Phrase L A} (S T : List L → Type 0) → Heads C P
      → ((k : List L) → Head C k → S k) → (t : List L) (y : A) (k : List L) → P t y → T k → S (t ++ k)
  head_ahead S T heads fits t y k q stop = fits (t ++ k) (head_more t k (heads t y q))

  pub only_ahead : {A : Type 0} (S T : List L → Type 0) (x : A) → ((k : List L) → T k → S k)
      → (t : List L) (y : A) (k : List L) → only x t y → T k → S (t ++ k)
  only_ahead S T x fits t y k q stop = subst (λ l. S (l ++ k)) (sym q.0) (fits k stop)

  -- it doesn't mean this
  abbrev pub Lacks : {A : Type 0} → Meaning L A → List L → Type 0
  Lacks m k = meant_in m k ≡ None

  pub then_ahead : {A B : Type 0} {C : L → Type 0} {P : Phrase L A} {Q : A → Phrase L B} (S T U : List L
      → Type 0) → ((t : List L) (x : A) (k : List L) → P t x → T k → S (t ++ k)) → ((a : A) → Heads C (Q a))
      → ((k : List L) → Head C k → T k) → (t : List L) (y : B) (k : List L) → then P Q t y → U k
      → S (t ++ k)
  then_ahead S T U h heads fits t y k (x, s, o, e, p, q) stop =
      let whole : s ++ (o ++ k) ≡ t ++ k = sym (append_assoc s o k) ∙ ap (λ l. l ++ k) (sym e) in
      subst S whole (h s x (o ++ k) p (fits (o ++ k) (head_more o k (heads x o y q))))

module _ {L F : Type 0} {tells : Tells L F} where
  -- the first reader looks at the token after it, with which the second phrase begins
  pub reads_up_to : {A B : Type 0} {fuel : ℕ} {C : L → Type 0} {P P' : Phrase L A} {Q Q' : A
      → Phrase L B} {S T : List L → Type 0} {r : Reader L F A} {f : A → Reader L F B}
      → Reads tells fuel P P' S r → ((a : A) → Reads tells fuel (Q a) (Q' a) T (f a))
      → ((a : A) → Heads C (Q a)) → ((k : List L) → Head C k → S k)
      → Reads tells fuel (then P Q) (then P' Q') T (r >>= f)
  reads_up_to one two heads fits = reads_then one two (λ a t y k q stop.
      fits (t ++ k) (head_more t k (heads a t y q)))

  -- the same with its value seen by f
  pub reads_map : {A B : Type 0} {fuel : ℕ} {P P' : Phrase L A} {S : List L → Type 0} {r : Reader L F A}
      (f : A → B) → Reads tells fuel P P' S r → Reads tells fuel (then P (λ a. only (f a)))
      (then P' (λ a. only (f a))) S (r >>= λ a. done (f a))
  reads_map {S = S} f h = reads_then h (λ a. reads_before (reads_done (f a)) (λ k s. tt)) (λ a t y k q stop.
      subst (λ l. S (l ++ k)) (sym q.0) stop)
