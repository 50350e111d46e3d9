-- What holds of all that a phrase spells, put together as phrases are.
use Rattle.std.proofs.Common.{◌≡◌, Bool, true, List, [], ◌∷◌, ◌++◌, Some, subst, inl, inr}
use Rattle.std.specs.Prelude.{All}
use Rattle.std.proofs.lemmas.List.Elements.{All-cons, All-head, All-nil, All-tail}
use Rattle.phrases.specs.Phrase.{Meaning, Phrase, then, only, one, ◌or◌, where_true, nothing, many}

-- it holds of what proper tokens spell
pub record Gives {L A : Type 0} (Proper : L → Type 0) (p : Phrase L A) (G : A → Type 0) : Type 0 where
  pub each : (tokens : List L) (x : A) → All Proper tokens → p tokens x → G x

module _ {L : Type 0} (Proper : L → Type 0) where
  all_front : (s t : List L) → All Proper (s ++ t) → All Proper s
  all_front [] t h = All-nil Proper
  all_front (l ∷ s) t h = All-cons Proper l s (All-head Proper l (s ++ t) h)
      (all_front s t (All-tail Proper l (s ++ t) h))

  all_behind : (s t : List L) → All Proper (s ++ t) → All Proper t
  all_behind [] t h = h
  all_behind (l ∷ s) t h = all_behind s t (All-tail Proper l (s ++ t) h)

module _ {L : Type 0} {Proper : L → Type 0} where
  pub gives_any : {A : Type 0} {p : Phrase L A} → Gives Proper p (λ x. Unit {0})
  gives_any = record { each = λ tokens x proper h. tt }

  pub gives_only : {A : Type 0} {G : A → Type 0} (x : A) → G x → Gives Proper (only x) G
  gives_only {G = G} x g = record { each = λ tokens y proper h. subst G h.1 g }

  pub gives_one : {A : Type 0} {G : A → Type 0} {m : Meaning L A} → ((t : L) (x : A) → Proper t → m t
      ≡ Some x → G x) → Gives Proper (one m) G
  gives_one g = record {
    each = λ tokens x proper (t, e, meant). g t x
        (All-head Proper t [] (subst (All Proper) e proper)) meant;
  }

  pub gives_where : (b : Bool) → Gives Proper (where_true b) (λ u. b ≡ true)
  gives_where b = record { each = λ tokens u proper h. h.1 }

  pub gives_nothing : {A : Type 0} {G : A → Type 0} → Gives Proper nothing G
  gives_nothing = record { each = λ tokens x proper h. absurd h }

  pub gives_or : {A : Type 0} {G : A → Type 0} {p q : Phrase L A} → Gives Proper p G → Gives Proper q G
      → Gives Proper (p or q) G
  gives_or a b = record {
    each = λ tokens x proper h. elim h [
      | inl p ↦ a.each tokens x proper p
      | inr q ↦ b.each tokens x proper q
    ];
  }

  pub gives_then : {A B : Type 0} {G : A → Type 0} {H : B → Type 0} {p : Phrase L A} {q : A → Phrase L B}
      → Gives Proper p G → ((x : A) → G x → Gives Proper (q x) H) → Gives Proper (then p q) H
  gives_then a b = record {
    each = λ tokens y proper (x, s, t, e, p, q).
        let parts = subst (All Proper) e proper in
        (b x (a.each s x (all_front Proper s t parts) p)).each t y (all_behind Proper s t parts) q;
  }

  -- of what the tokens mean nothing is asked
  pub gives_next : {A B : Type 0} {H : B → Type 0} {p : Phrase L A} {q : A → Phrase L B}
      → ((x : A) → Gives Proper (q x) H) → Gives Proper (then p q) H
  gives_next b = gives_then gives_any (λ x u. b x)

  pub gives_test : {B : Type 0} {H : B → Type 0} {q : Unit {0} → Phrase L B} (b : Bool)
      → (b ≡ true → (u : Unit {0}) → Gives Proper (q u) H) → Gives Proper (then (where_true b) q) H
  gives_test b more = gives_then (gives_where b) (λ u e. more e u)

  pub gives_as : {A : Type 0} {G H : A → Type 0} {p : Phrase L A} → Gives Proper p G → ((x : A) → G x → H x)
      → Gives Proper p H
  gives_as a f = record { each = λ tokens x proper h. f x (a.each tokens x proper h) }

  -- of a list of items, by what those before an item come to
  module _ {S A : Type 0} (next : S → A → S) (p : S → Phrase L A) (I : S → Type 0) (G : S → A → Type 0)
      (Whole : S → List A → Type 0)
      (items : (s : S) → I s → Gives Proper (p s) (λ x. I (next s x) × G s x)) (none : (s : S) → I s
      → Whole s [])
      (more : (s : S) (x : A) (xs : List A) → G s x → Whole (next s x) xs → Whole s (x ∷ xs)) where
    each_many : (xs : List A) (s : S) (tokens : List L) → I s → All Proper tokens → many next p s tokens xs
        → Whole s xs
    each_many [] s tokens i proper h = none s i
    each_many (x ∷ xs) s tokens i proper (first, others, e, h, rest) =
        let parts = subst (All Proper) e proper in
        let it = (items s i).each first x (all_front Proper first others parts) h in
        more s x xs it.1 (each_many xs (next s x) others it.0 (all_behind Proper first others parts) rest)

    pub gives_many : (s : S) → I s → Gives Proper (many next p s) (Whole s)
    gives_many s i = record { each = λ tokens xs proper h. each_many xs s tokens i proper h }
