-- The invariant with words in hand: no two holders (places, hands) own one address, and every word is safe.
use Rattle.std.proofs.Common.{◌≡◌, ◌≢◌, ◌⊎◌, inl, inr, ℕ, Bool, true, false, List, [], ◌∷◌, refl, sym, ◌∙◌}
use Rattle.std.specs.Prelude.{Option, Some, None, if◌then◌else◌, unwrap_or}
use Rattle.cap_words.specs.declared.Word.{Word}
use Rattle.cap_words.specs.Linear.{is_linear, zero_word}
use Rattle.lcm_machine.specs.declared.Place.{Place}
use Rattle.lcm_machine.specs.declared.Place.TheVariants.{R, Cell}
use Rattle.lcm_machine.specs.Maps.{State}
use Rattle.lcm_machine.specs.Places.{reg}
use Rattle.lcm_machine.specs.Cells.{cell}
use Rattle.lcm_machine.specs.Row.{word_at, word_in, put, clear}
use Rattle.lcm_machine.proofs.StateLemmas.{cases_place, word_at-same, word_at-other}

-- each element of a list
abbrev pub Each : {A : Type 0} → (A → Type 0) → List A → Type 0
Each P [] = Unit {0}
Each P (x ∷ xs) = P x × Each P xs

-- each two elements of a list
abbrev pub EachTwo : {A : Type 0} → (A → A → Type 0) → List A → Type 0
EachTwo P [] = Unit {0}
EachTwo P (x ∷ xs) = Each (P x) xs × EachTwo P xs

-- the word at a place, if there is one, owns the address
abbrev pub OwnsAt : {W : Type 0} → (W → ℕ → Type 0) → Option W → ℕ → Type 0
OwnsAt Owns None a = ⊥
OwnsAt Owns (Some w) a = Owns w a

-- two words own no address both
abbrev pub Disjoint : {W : Type 0} → (W → ℕ → Type 0) → W → W → Type 0
Disjoint Owns u v = (a : ℕ) → Owns u a → Owns v a → ⊥

pub record Inv {W : Type 0} (Owns : W → ℕ → Type 0) (Safe : W → Type 0) (s : State W)
    (hands : List W) : Type 0 where
  pub safe_places : (p : Place) (w : W) → word_at s p ≡ Some w → Safe w
  pub safe_hands : Each Safe hands
  pub one_place : (p q : Place) (a : ℕ) → OwnsAt Owns (word_at s p) a → OwnsAt Owns (word_at s q) a → p ≡ q
  pub hands_apart : EachTwo (Disjoint Owns) hands
  pub hands_free : Each (λ u. (p : Place) (a : ℕ) → Owns u a → OwnsAt Owns (word_at s p) a → ⊥) hands

each_weaker : {A : Type 0} (P Q : A → Type 0) → ((x : A) → P x → Q x) → (xs : List A) → Each P xs → Each Q xs
each_weaker P Q f [] h = tt
each_weaker P Q f (x ∷ xs) h = (f x h.0, each_weaker P Q f xs h.1)

each_both : {A : Type 0} {P Q S : A → Type 0} (xs : List A) → ((x : A) → P x → Q x → S x) → Each P xs
    → Each Q xs → Each S xs
each_both [] f g h = tt
each_both (x ∷ xs) f g h = (f x g.0 h.0, each_both xs f g.1 h.1)

each_all : {A : Type 0} {P : A → Type 0} (xs : List A) → ((x : A) → P x) → Each P xs
each_all [] f = tt
each_all (x ∷ xs) f = (f x, each_all xs f)

module _ {W : Type 0} (Owns : W → ℕ → Type 0) (Safe : W → Type 0) where
  -- who owns an address after a setting
  owns_put : (s : State W) (p : Place) (w : W) (q : Place) (a : ℕ) → OwnsAt Owns (word_at (put s p w) q) a
      → ((q ≡ p) × Owns w a) ⊎ ((q ≢ p) × OwnsAt Owns (word_at s q) a)
  owns_put s p w q a h = elim (cases_place q p) [
    | inl e ↦ inl (e, rw (word_at-same s p q w e) at h)
    | inr ne ↦ inr (ne, rw (word_at-other s p q w ne) at h)
  ]

  safe_put : (s : State W) (p : Place) (w : W) → Safe w
      → ((q : Place) (v : W) → word_at s q ≡ Some v → Safe v) → (q : Place) (v : W)
      → word_at (put s p w) q ≡ Some v → Safe v
  safe_put s p w h g q v e = elim (cases_place q p) as (λ _. Safe v) [
    | inl same ↦
        (let k : Some w ≡ Some v = sym (word_at-same s p q w same) ∙ e in let m : w ≡ v = cc in rw (← m) h)
    | inr ne ↦ g q v (sym (word_at-other s p q w ne) ∙ e)
  ]

  -- a word that owns what a hand owned, at most, takes its place
  pub shrink : {s : State W} {hs : List W} (w v : W) → Safe v → ((a : ℕ) → Owns v a → Owns w a)
      → Inv Owns Safe s (w ∷ hs) → Inv Owns Safe s (v ∷ hs)
  shrink w v safe less i = record {
    safe_places = i.safe_places;
    safe_hands = (safe, i.safe_hands.1);
    one_place = i.one_place;
    hands_apart = (each_weaker _ _ (λ x d a o. d a (less a o)) _ i.hands_apart.0, i.hands_apart.1);
    hands_free = (λ p a o. i.hands_free.0 p a (less a o), i.hands_free.1);
  }

  -- a word that owns nothing
  pub made : {s : State W} {hs : List W} (v : W) → Safe v → ((a : ℕ) → Owns v a → ⊥) → Inv Owns Safe s hs
      → Inv Owns Safe s (v ∷ hs)
  made {hs = hs} v safe none i = record {
    safe_places = i.safe_places;
    safe_hands = (safe, i.safe_hands);
    one_place = i.one_place;
    hands_apart = (each_all hs (λ x a o _. none a o), i.hands_apart);
    hands_free = (λ p a o _. none a o, i.hands_free);
  }

  pub split_hand : {s : State W} {hs : List W} (w u v : W) → Safe u → Safe v → ((a : ℕ) → Owns u a → Owns w a)
      → ((a : ℕ) → Owns v a → Owns w a) → Disjoint Owns u v → Inv Owns Safe s (w ∷ hs)
      → Inv Owns Safe s (u ∷ v ∷ hs)
  split_hand w u v safe_u safe_v less_u less_v apart i = record {
    safe_places = i.safe_places;
    safe_hands = (safe_u, (safe_v, i.safe_hands.1));
    one_place = i.one_place;
    hands_apart = (
      (apart, each_weaker _ _ (λ x d a o. d a (less_u a o)) _ i.hands_apart.0),
      (each_weaker _ _ (λ x d a o. d a (less_v a o)) _ i.hands_apart.0, i.hands_apart.1),
    );
    hands_free = (
      λ p a o.
          i.hands_free.0 p a (less_u a o),
      (λ p a o. i.hands_free.0 p a (less_v a o), i.hands_free.1),
    );
  }

  pub splice_hands : {s : State W} {hs : List W} (u v w : W) → Safe w
      → ((a : ℕ) → Owns w a → Owns u a ⊎ Owns v a) → Inv Owns Safe s (u ∷ v ∷ hs) → Inv Owns Safe s (w ∷ hs)
  splice_hands {hs = hs} u v w safe less i = record {
    safe_places = i.safe_places;
    safe_hands = (safe, i.safe_hands.1.1);
    one_place = i.one_place;
    hands_apart = (
      each_both hs (λ x d e a o y. elim (less a o) as (λ _. ⊥) [ inl k ↦ d a k y | inr k ↦ e a k y ])
          i.hands_apart.0.1 i.hands_apart.1.0,
      i.hands_apart.1.1,
    );
    hands_free = (
      λ p a o y. elim (less a o) as (λ _. ⊥)
          [ inl k ↦ i.hands_free.0 p a k y | inr k ↦ i.hands_free.1.0 p a k y ],
      i.hands_free.1.1,
    );
  }

  -- a hand goes to a place
  pub put_hand : {s : State W} {hs : List W} (p : Place) (w : W) → Inv Owns Safe s (w ∷ hs)
      → Inv Owns Safe (put s p w) hs
  put_hand {s} {hs} p w i = record {
    safe_places = safe_put s p w i.safe_hands.0 i.safe_places;
    safe_hands = i.safe_hands.1;
    one_place = λ x y a k l. elim (owns_put s p w x a k) as (λ _. x ≡ y) [
      | inl m ↦
          elim (owns_put s p w y a l) as (λ _. x ≡ y)
          [ inl n ↦ m.0 ∙ sym n.0 | inr n ↦ absurd (i.hands_free.0 y a m.1 n.1) ]
      | inr m ↦
          elim (owns_put s p w y a l) as (λ _. x ≡ y)
          [ inl n ↦ absurd (i.hands_free.0 x a n.1 m.1) | inr n ↦ i.one_place x y a m.1 n.1 ]
    ];
    hands_apart = i.hands_apart.1;
    hands_free =
        each_both hs
        (λ u d f x a o k. elim (owns_put s p w x a k) as (λ _. ⊥) [ inl m ↦ d a m.1 o | inr m ↦ f x a o m.1 ])
        i.hands_apart.0 i.hands_free.1;
  }

  -- a word that owns what the word of a place owned, at most, takes its place
  pub replace_word : {s : State W} {hs : List W} (p : Place) (w v : W) → word_at s p ≡ Some w → Safe v
      → ((a : ℕ) → Owns v a → Owns w a) → Inv Owns Safe s hs → Inv Owns Safe (put s p v) hs
  replace_word {s} {hs} p w v e safe less i = record {
    safe_places = safe_put s p v safe i.safe_places;
    safe_hands = i.safe_hands;
    one_place = λ x y a k l. elim (owns_put s p v x a k) as (λ _. x ≡ y) [
      | inl m ↦
          elim (owns_put s p v y a l) as (λ _. x ≡ y)
          [ inl n ↦ m.0 ∙ sym n.0 | inr n ↦ m.0 ∙ i.one_place p y a (rw e (less a m.1)) n.1 ]
      | inr m ↦
          elim (owns_put s p v y a l) as (λ _. x ≡ y)
          [ inl n ↦ i.one_place x p a m.1 (rw e (less a n.1)) ∙ sym n.0 | inr n ↦ i.one_place x y a m.1 n.1 ]
    ];
    hands_apart = i.hands_apart;
    hands_free =
        each_weaker _ _
        (λ u f x a o k. elim (owns_put s p v x a k) as (λ _. ⊥)
        [ inl m ↦ f p a o (rw e (less a m.1)) | inr m ↦ f x a o m.1 ]) hs i.hands_free;
  }

  module _ (look : W → Word) (plain : Word → W) (zero_safe : Safe (zero_word plain))
      (zero_free : (a : ℕ) → Owns (zero_word plain) a → ⊥)
      (normal_free : (w : W) → Safe w → is_linear (look w) ≡ false → (a : ℕ) → Owns w a → ⊥) where
    -- a place whose word goes to a hand is left with 0
    take_owned : {s : State W} {hs : List W} (p : Place) (w : W) → word_at s p ≡ Some w → Inv Owns Safe s hs
        → Inv Owns Safe (put s p (zero_word plain)) (w ∷ hs)
    take_owned {s} {hs} p w e i = record {
      safe_places = safe_put s p (zero_word plain) zero_safe i.safe_places;
      safe_hands = (i.safe_places p w e, i.safe_hands);
      one_place = λ x y a k l. elim (owns_put s p (zero_word plain) x a k) as (λ _. x ≡ y) [
        | inl m ↦ absurd (zero_free a m.1)
        | inr m ↦
            elim (owns_put s p (zero_word plain) y a l) as (λ _. x ≡ y)
            [ inl n ↦ absurd (zero_free a n.1) | inr n ↦ i.one_place x y a m.1 n.1 ]
      ];
      hands_apart = (each_weaker _ _ (λ u f a o k. f p a k (rw e o)) hs i.hands_free, i.hands_apart);
      hands_free = (
        λ x a o k. elim (owns_put s p (zero_word plain) x a k) as (λ _. ⊥)
            [ inl m ↦ zero_free a m.1 | inr m ↦ m.0 (i.one_place x p a m.1 (rw e o)) ],
        each_weaker _ _
            (λ u f x a o k. elim (owns_put s p (zero_word plain) x a k) as (λ _. ⊥)
            [ inl m ↦ zero_free a m.1 | inr m ↦ f x a o m.1 ]) hs i.hands_free,
      );
    }

    take_at : {s : State W} {hs : List W} (p : Place) (w : W) (b : Bool) → word_at s p ≡ Some w
        → is_linear (look w) ≡ b → Inv Owns Safe s hs
        → Inv Owns Safe (if b then put s p (zero_word plain) else s) (w ∷ hs)
    take_at p w true e l i = take_owned p w e i
    take_at p w false e l i = made w (i.safe_places p w e) (normal_free w (i.safe_places p w e) l) i

    take_absent : {s : State W} {hs : List W} (p : Place) (b : Bool) → is_linear (look (zero_word plain)) ≡ b
        → word_at s p ≡ None → Inv Owns Safe s hs
        → Inv Owns Safe (if b then put s p (zero_word plain) else s) (zero_word plain ∷ hs)
    take_absent p true l e i =
        put_hand p (zero_word plain)
        (made (zero_word plain) zero_safe zero_free (made (zero_word plain) zero_safe zero_free i))
    take_absent p false l e i = made (zero_word plain) zero_safe zero_free i

    -- the word of a place goes to a hand; a place without a word gives 0
    pub take_hand : {s : State W} {hs : List W} (p : Place) → Inv Owns Safe s hs
        → Inv Owns Safe (clear look plain s p) (word_in plain s p ∷ hs)
    unfolding clear
    take_hand {s} {hs} (R r) i = take_at (R r) (reg s.regs r) _ refl refl i
    take_hand {s} {hs} (Cell a) i =
        elim (cell s.cells a)
        as (λ o. cell s.cells a ≡ o
        → Inv Owns Safe
        (if is_linear (look (unwrap_or o (zero_word plain))) then put s (Cell a) (zero_word plain) else s)
        (unwrap_or o (zero_word plain) ∷ hs)) [
          | None ↦ λ e. take_absent (Cell a) _ refl e i
          | Some w ↦ λ e. take_at (Cell a) w _ e refl i
        ] refl
