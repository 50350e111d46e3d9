-- One stretch more is taken.
use Rattle.std.proofs.Common.{◌≡◌, ◌⊎◌, ℕ, ◌+◌, ◌<◌, ◌≤◌, Bool, true, false, ◌&&◌, ◌||◌, List, [], ◌∷◌}
use Rattle.std.proofs.Common.{◌++◌, refl, sym, ap, ◌∙◌, arith, inl, inr, length-append}
use Rattle.std.specs.Prelude.{nat_le, nat_lt, not}
use Rattle.std.proofs.lemmas.Bool.{cases_lt, lt-ltb, le-leb, le-ltb, lt-leb, leb-true, and_parts, or_cases}
use Rattle.std.proofs.lemmas.Bool.Decides.{nat_tests}
use Rattle.std.proofs.Math.Bool.{or-true}
use Rattle.std.proofs.lemmas.List.Folds.{list_any-append}
use Rattle.cap_words.specs.declared.TheConstants.{LAST_PLACE}
use Rattle.authority_report.specs.declared.set.Stretch.{Stretch}
use Rattle.authority_report.specs.Has.{has}
use Rattle.authority_report.specs.Takes.{is_left, Takes, TakesFront}
use Rattle.authority_report.proofs.FreeLemmas.{fewer_free, no_more_free}

-- the places of a stretch below another place
abbrev pub below_in : ℕ → ℕ → ℕ → ℕ → Bool
below_in base end from a = nat_le base a && (nat_lt a from && nat_le a end)

-- what is listed, with a test more that holds only of places that weren't there
listed_more : (l i h o : Bool) → (i ≡ true → o ≡ false)
    → ((l || (h && not o)) || (i || false)) ≡ (l || ((i || h) && not o))
listed_more true i h o f = refl
listed_more false true h true f = absurd (let e : true ≡ false = f refl in cc)
listed_more false true true false f = refl
listed_more false true false false f = refl
listed_more false false true true f = refl
listed_more false false true false f = refl
listed_more false false false o f = refl

module _ (some : ℕ → Bool) (old : List ℕ) (left : List Stretch) (new : List ℕ) (more : List Stretch)
    (takes : Takes some old left new more) where
  -- the same places, told otherwise
  pub takes_also : (other : ℕ → Bool) → ((a : ℕ) → some a ≡ other a) → Takes other old left new more
  takes_also other same = record {
    taken = λ a. takes.taken a ∙ ap (λ b. b || has old a) (same a);
    listed = takes.listed;
    fewer = takes.fewer;
  }

  -- a list that has the same places
  pub takes_as : (next : List ℕ) → ((a : ℕ) → has next a ≡ has new a) → Takes some old left next more
  takes_as next same = record {
    taken = λ a. same a ∙ takes.taken a;
    listed = λ a. takes.listed a ∙ ap (λ b. is_left left a || (b && not (has old a))) (sym (same a));
    fewer = (
        let k = no_more_free new next (λ a h. same a ∙ h) (LAST_PLACE + 1) in
        let f = takes.fewer in
        omega (arith, k, f)
        );
  }

  pub kept : (a : ℕ) → is_left left a ≡ true → is_left more a ≡ true
  kept a h = takes.listed a ∙ rw h refl

  pub fresh : (a : ℕ) → has old a ≡ false → has new a ≡ true → is_left more a ≡ true
  fresh a e h = takes.listed a ∙ rw (h, e) (or-true (is_left left a))

  pub only : (a : ℕ) → is_left more a ≡ true → (is_left left a ≡ true) ⊎ (has new a ≡ true)
  only a h = elim (or_cases (is_left left a) (has new a && not (has old a)) (sym (takes.listed a)
      ∙ h)) as (λ _. (is_left left a ≡ true) ⊎ (has new a ≡ true)) [
        | inl there ↦ inl there
        | inr new_one ↦ inr ((and_parts (has new a) (not (has old a)) new_one).0)
      ]

module _ (old : List ℕ) (left : List Stretch) (base end from : ℕ) (new : List ℕ) (more : List Stretch)
    (low : base ≤ from) (takes : Takes (below_in base end from) old left new more) where
  -- up to a place of the stretch
  pub takes_front : from ≤ end → TakesFront base end old left new more
  takes_front le = (
    from,
    low,
    le,
    takes_also (below_in base end from) old left new more takes
        (λ a. nat_le base a && nat_lt a from) (λ a. before_end a),
  )
    where
      before_end : (a : ℕ) → below_in base end from a ≡ (nat_le base a && nat_lt a from)
      before_end a = grind (arith, nat_tests)

  -- where the rest is there already
  takes_rest : ((a : ℕ) → from ≤ a → a ≤ end → has new a ≡ true)
      → Takes (λ a. nat_le base a && nat_le a end) old left new more
  takes_rest rest = record {
    taken = all;
    listed = takes.listed;
    fewer = takes.fewer;
  }
    where
      all : (a : ℕ) → has new a ≡ ((nat_le base a && nat_le a end) || has old a)
      all a = elim (cases_lt a base) as (λ _. has new a ≡ ((nat_le base a && nat_le a end) || has old a)) [
        | inl lt ↦ takes.taken a ∙ rw (lt-leb base a lt) refl
        | inr ge ↦
            elim (cases_lt end a) as (λ _. has new a ≡ ((nat_le base a && nat_le a end) || has old a)) [
              | inl out ↦ takes.taken a ∙ rw (le-leb base a ge, lt-leb a end out)
                  (both (nat_lt a from) (has old a))
              | inr in_it ↦
                  elim (cases_lt a from) as (λ _. has new a
                  ≡ ((nat_le base a && nat_le a end) || has old a)) [
                    | inl before ↦
                        takes.taken a ∙ rw (le-leb base a ge, le-leb a end in_it, lt-ltb a from before)
                        refl
                    | inr after ↦ rest a after in_it ∙ rw (le-leb base a ge, le-leb a end in_it) refl
                  ]
            ]
      ]
        where
          both : (b c : Bool) → ((true && (b && false)) || c) ≡ ((true && false) || c)
          both true c = refl
          both false c = refl

  module _ (s : Stretch) (next : List ℕ) (bounds : (from ≤ s.base) × (s.base ≤ s.end) × (s.end ≤ end))
      (small : end ≤ LAST_PLACE)
      (before : (a : ℕ) → from ≤ a → a < s.base → has new a ≡ true)
      (free : (a : ℕ) → s.base ≤ a → a ≤ s.end → has new a ≡ false)
      (now : (a : ℕ) → has next a ≡ ((nat_le s.base a && nat_le a s.end) || has new a)) where
    grown : (a : ℕ) → has new a ≡ true → has next a ≡ true
    grown a h = now a ∙ rw h (or-true (nat_le s.base a && nat_le a s.end))

    first : has next s.base ≡ true
    first = let b = bounds.1 in now s.base ∙ rw (le-leb s.base s.base (omega arith), le-leb s.base s.end b)
        refl

    taken' : (a : ℕ) → has next a ≡ (below_in base end (s.end + 1) a || has old a)
    taken' a =
        let x = bounds.0 in
        let y = bounds.1 in
        let z = bounds.2 in
        elim (cases_lt a from) as (λ _. has next a ≡ (below_in base end (s.end + 1) a || has old a)) [
          | inl lt ↦
              (now a ∙ rw (lt-leb s.base a (omega (arith, lt, x))) (takes.taken a
              ∙ rw (lt-ltb a from lt, lt-ltb a (s.end + 1) (omega (arith, lt, x, y))) refl))
          | inr ge ↦
              elim (cases_lt s.end a) as (λ _. has next a ≡ (below_in base end (s.end + 1) a || has old a)) [
                | inl past ↦
                    (now a ∙ rw (lt-leb a s.end past) (ap (λ b. b || has new a) (none (nat_le s.base a))
                    ∙ takes.taken a ∙ rw (le-ltb a from ge, le-ltb a (s.end + 1) (omega (arith, past))) refl))
                | inr in_it ↦
                    elim (cases_lt a s.base) as (λ _. has next a
                    ≡ (below_in base end (s.end + 1) a || has old a)) [
                      | inl mid ↦ grown a (before a ge mid)
                          ∙ rw (
                            le-leb base a (omega (arith, ge, low)),
                            lt-ltb a (s.end + 1) (omega (arith, in_it)),
                            le-leb a end (omega (arith, in_it, z)),
                          ) refl
                      | inr inside ↦ now a ∙ rw (
                        le-leb s.base a inside,
                        le-leb a s.end in_it,
                        le-leb base a (omega (arith, ge, low)),
                        lt-ltb a (s.end + 1) (omega (arith, in_it)),
                        le-leb a end (omega (arith, in_it, z)),
                      ) refl
                    ]
              ]
        ]
      where
        none : (b : Bool) → (b && false) ≡ false
        none true = refl
        none false = refl

    left_more : (a : ℕ) → is_left (more ++ s ∷ []) a
        ≡ (is_left more a || ((nat_le s.base a && nat_le a s.end) || false))
    left_more a = list_any-append (λ s. nat_le s.base a && nat_le a s.end) more (s ∷ [])

    wasn't_there : (a : ℕ) → (nat_le s.base a && nat_le a s.end) ≡ true → has old a ≡ false
    wasn't_there a inside =
        let k = and_parts (nat_le s.base a) (nat_le a s.end) inside in
        let out = free a (leb-true s.base a k.0) (leb-true a s.end k.1) in
        none_taken (below_in base end from a) (has old a) (sym (takes.taken a) ∙ out)
      where
        none_taken : (b c : Bool) → (b || c) ≡ false → c ≡ false
        none_taken true c e = absurd cc
        none_taken false c e = e

    listed' : (a : ℕ)
        → is_left (more ++ s ∷ []) a ≡ (is_left left a || (has next a && not (has old a)))
    listed' a =
        let i : Bool = nat_le s.base a && nat_le a s.end in
        left_more a ∙ ap (λ b. b || (i || false)) (takes.listed a)
        ∙ listed_more (is_left left a) i (has new a) (has old a) (wasn't_there a)
        ∙ ap (λ b. is_left left a || (b && not (has old a))) (sym (now a))

    pub takes_more : Takes (below_in base end (s.end + 1)) old left next (more ++ s ∷ [])
    takes_more = record {
      taken = taken';
      listed = listed';
      fewer = (
          let k = fewer_free new next grown (LAST_PLACE + 1) s.base (let b = bounds in let x = b.1 in
          let y = b.2 in omega (arith, x, y, small)) (free s.base (omega arith) bounds.1) first in
          let f = takes.fewer in
          let l = length-append more (s ∷ []) in
          omega (arith, k, f, l)
          );
    }

-- nothing is free in the rest of the stretch
pub takes_all : (old : List ℕ) (left : List Stretch) (base end from : ℕ) (new next : List ℕ)
    (more : List Stretch)
    → base ≤ from → Takes (below_in base end from) old left new more → ((a : ℕ) → has next a ≡ has new a)
    → ((a : ℕ) → from ≤ a → a ≤ end → has new a ≡ true)
    → Takes (λ a. nat_le base a && nat_le a end) old left next more
takes_all old left base end from new next more low takes same rest =
    takes_rest old left base end from next more low
    (takes_as (below_in base end from) old left new more takes next same)
    (λ a l h. same a ∙ rest a l h)
