-- Spans in order are known by what they say of each place.
use Rattle.std.proofs.Common.{◌≡◌, ℕ, ◌+◌, ◌<◌, ◌≤◌, ◌&&◌, List, [], ◌∷◌, refl, sym, ap, ◌∙◌, arith, inl, inr}
use Rattle.std.specs.Prelude.{nat_le, Option, Some, None, if◌then◌else◌}
use Rattle.std.proofs.lemmas.Bool.{cases_lt, le-leb, lt-leb}
use Rattle.std.proofs.Math.Bool.{and-false}

module _ {X L : Type 0} (base end : X → ℕ) (label : X → L) where
  -- the label of the first span over a place
  abbrev pub said : List X → ℕ → Option L
  said [] a = None
  said (x ∷ xs) a = if nat_le (base x) a && nat_le a (end x) then Some (label x) else said xs a

  -- the next span is after this one, with another label where they meet
  abbrev pub Next : X → List X → Type 0
  Next x [] = Unit {0}
  Next x (y ∷ ys) = (end x < base y) × (end x + 1 ≡ base y → label x ≡ label y → ⊥)

  abbrev pub InOrder : List X → Type 0
  InOrder [] = Unit {0}
  InOrder (x ∷ xs) = (base x ≤ end x) × Next x xs × InOrder xs

  low_out : (x : X) (xs : List X) (a : ℕ) → a < base x → said (x ∷ xs) a ≡ said xs a
  low_out x xs a h = rw (lt-leb (base x) a h) refl

  high_out : (x : X) (xs : List X) (a : ℕ) → end x < a → said (x ∷ xs) a ≡ said xs a
  high_out x xs a h = rw (lt-leb a (end x) h) (rw (and-false (nat_le (base x) a)) refl)

  in_it : (x : X) (xs : List X) (a : ℕ) → base x ≤ a → a ≤ end x → said (x ∷ xs) a ≡ Some (label x)
  in_it x xs a low high = rw (le-leb (base x) a low, le-leb a (end x) high) refl

  pub before_next : (x : X) (xs : List X) (a : ℕ) → InOrder (x ∷ xs) → a ≤ end x → said xs a ≡ None
  before_next x [] a o h = refl
  before_next x (y ∷ ys) a o h =
      let n = o.1.0 in
      let k = o.2.0 in
      low_out y ys a (omega (arith, n, h)) ∙ before_next y ys a o.2 (omega (arith, n, h, k))

  before_all : (x : X) (xs : List X) (a : ℕ) → InOrder (x ∷ xs) → a < base x → said (x ∷ xs) a ≡ None
  before_all x xs a o h = let k = o.0 in low_out x xs a h ∙ before_next x xs a o (omega (arith, h, k))

  other_next : (x : X) (xs : List X) → InOrder (x ∷ xs) → said (x ∷ xs) (end x + 1) ≡ Some (label x) → ⊥
  other_next x [] o e = (let h : None ≡ Some (label x) = sym (high_out x [] (end x + 1) (omega arith)) ∙ e in
      absurd cc)
  other_next x (y ∷ ys) o e =
      let h : said (y ∷ ys) (end x + 1) ≡ Some (label x) = sym (high_out x (y ∷ ys) (end x + 1) (omega arith))
      ∙ e in
      let n = o.1.0 in
      let k = o.2.0 in
      elim (cases_lt (end x + 1) (base y)) as (λ _. ⊥) [
        | inl lt ↦ (let f : None ≡ Some (label x) = sym (before_all y ys (end x + 1) o.2 lt) ∙ h in absurd cc)
        | inr ge ↦ (
            let same : end x + 1 ≡ base y = omega (arith, n, ge) in
            let f : Some (label y) ≡ Some (label x) = sym (in_it y ys (end x + 1) ge (omega (arith, same, k)))
            ∙ h in
            let l : label x ≡ label y = cc in
            o.1.1 same l
            )
      ]

  module _ (same : (x y : X) → base x ≡ base y → end x ≡ end y → label x ≡ label y → x ≡ y) where
    not_empty : (x : X) (xs : List X) → InOrder (x ∷ xs) → ((a : ℕ) → said [] a ≡ said (x ∷ xs) a) → ⊥
    not_empty x xs o h = let f : None ≡ Some (label x) = h (base x) ∙ in_it x xs (base x) (omega arith) o.0 in
        absurd cc

    -- the first spans of two such lists
    base_up : (x : X) (xs : List X) (y : X) (ys : List X) → InOrder (x ∷ xs) → InOrder (y ∷ ys)
        → ((a : ℕ) → said (x ∷ xs) a ≡ said (y ∷ ys) a) → base x < base y → ⊥
    base_up x xs y ys o p h lt = let f : Some (label x) ≡ None = sym (in_it x xs (base x) (omega arith) o.0)
        ∙ h (base x) ∙ before_all y ys (base x) p lt in absurd cc

    end_up : (x : X) (xs : List X) (y : X) (ys : List X) → InOrder (x ∷ xs)
        → ((a : ℕ) → said (x ∷ xs) a ≡ said (y ∷ ys) a) → base x ≡ base y → label x ≡ label y → end x < end y
        → ⊥
    end_up x xs y ys o h b l lt =
        let k = o.0 in
        other_next x xs o (h (end x + 1) ∙ in_it y ys (end x + 1) (omega (arith, b, k)) (omega (arith, lt))
        ∙ ap Some (sym l))

    bases : (x : X) (xs : List X) (y : X) (ys : List X) → InOrder (x ∷ xs) → InOrder (y ∷ ys)
        → ((a : ℕ) → said (x ∷ xs) a ≡ said (y ∷ ys) a) → base x ≡ base y
    bases x xs y ys o p h = elim (cases_lt (base x) (base y)) as (λ _. base x ≡ base y) [
      | inl lt ↦ absurd (base_up x xs y ys o p h lt)
      | inr ge ↦ elim (cases_lt (base y) (base x)) as (λ _. base x ≡ base y) [
        | inl lt ↦ absurd (base_up y ys x xs p o (λ a. sym (h a)) lt)
        | inr le ↦ omega (arith, ge, le)
      ]
    ]

    labels : (x : X) (xs : List X) (y : X) (ys : List X) → InOrder (x ∷ xs) → InOrder (y ∷ ys)
        → ((a : ℕ) → said (x ∷ xs) a ≡ said (y ∷ ys) a) → label x ≡ label y
    labels x xs y ys o p h =
        let b = bases x xs y ys o p h in
        let k = p.0 in
        let f : Some (label x) ≡ Some (label y) = sym (in_it x xs (base x) (omega arith) o.0) ∙ h (base x)
        ∙ in_it y ys (base x) (omega (arith, b)) (omega (arith, b, k)) in
        cc

    ends : (x : X) (xs : List X) (y : X) (ys : List X) → InOrder (x ∷ xs) → InOrder (y ∷ ys)
        → ((a : ℕ) → said (x ∷ xs) a ≡ said (y ∷ ys) a) → end x ≡ end y
    ends x xs y ys o p h =
        let b = bases x xs y ys o p h in
        let l = labels x xs y ys o p h in
        elim (cases_lt (end x) (end y)) as (λ _. end x ≡ end y) [
          | inl lt ↦ absurd (end_up x xs y ys o h b l lt)
          | inr ge ↦ elim (cases_lt (end y) (end x)) as (λ _. end x ≡ end y) [
            | inl lt ↦ absurd (end_up y ys x xs p (λ a. sym (h a)) (sym b) (sym l) lt)
            | inr le ↦ omega (arith, ge, le)
          ]
        ]

    rest : (x : X) (xs : List X) (y : X) (ys : List X) → InOrder (x ∷ xs) → InOrder (y ∷ ys)
        → ((a : ℕ) → said (x ∷ xs) a ≡ said (y ∷ ys) a) → (a : ℕ) → said xs a ≡ said ys a
    rest x xs y ys o p h a =
        let e = ends x xs y ys o p h in
        elim (cases_lt (end x) a) as (λ _. said xs a ≡ said ys a) [
          | inl past ↦ sym (high_out x xs a past) ∙ h a ∙ high_out y ys a (omega (arith, past, e))
          | inr here ↦ before_next x xs a o here ∙ sym (before_next y ys a p (omega (arith, here, e)))
        ]

    pub one_list : (xs ys : List X) → InOrder xs → InOrder ys → ((a : ℕ) → said xs a ≡ said ys a) → xs ≡ ys
    one_list [] [] o p h = refl
    one_list [] (y ∷ ys) o p h = absurd (not_empty y ys p h)
    one_list (x ∷ xs) [] o p h = absurd (not_empty x xs o (λ a. sym (h a)))
    one_list (x ∷ xs) (y ∷ ys) o p h =
        let first = same x y (bases x xs y ys o p h) (ends x xs y ys o p h) (labels x xs y ys o p h) in
        let others = one_list xs ys o.2 p.2 (rest x xs y ys o p h) in
        ap (λ z. z ∷ xs) first ∙ ap (λ zs. y ∷ zs) others
