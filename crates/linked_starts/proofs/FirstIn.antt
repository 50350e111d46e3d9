-- The first part, and the first place in it, at which a rule is broken; and the first rule that is.
use Rattle.std.proofs.Common.{◌≡◌, ℕ, zero, suc, ◌<◌, ◌⊎◌, inl, inr, true, false, List, Option, Some, None}
use Rattle.std.proofs.Common.{Result, Ok, Err, refl, sym, ap, ◌∙◌, arith, subst}
use Rattle.std.specs.Prelude.{is_some, option_map, unwrap_or, map}
use Rattle.std.proofs.lemmas.Option.{slice_get-map}
use Rattle.component_check.specs.Places.{Test, BrokenAt, first_of, first_place}
use Rattle.component_check.specs.Verdict.{rule, IsBefore, IsFirst, IsFirstBroken, check_from}
use Rattle.component_check.proofs.Offers.{IsFirstIn as IsFirstIndex, first_below_is, first_by, first_broken}
use Rattle.linked_starts.specs.declared.pairs.PartPlace.{PartPlace}
use Rattle.linked_starts.specs.Pairs.{PairTest, BrokenIn, rule_of, IsBeforeIn, IsFirstIn, IsFirstBrokenIn}
use Rattle.linked_starts.specs.Pairs.{by_part, first_in, InFoundBy, FirstInBy}

-- ---- one rule

place_in : (t : PairTest) (p place : ℕ) → Some place ≡ first_place (t.within p)
    → (by_part t).place p ≡ record { part = p; place = place }
place_in t p place e = ap (λ o. record { part = p; place = unwrap_or o 0 }) (sym e)

tells : (t : Test ℕ) (o : Option ℕ) → o ≡ first_place t → is_some o ≡ is_some (first_of t)
tells t o e = ap is_some e ∙ mapped (first_of t)
  where
    mapped : (u : Option ℕ) → is_some (option_map t.place u) ≡ is_some u
    mapped None = refl
    mapped (Some i) = refl

in_by : (t : PairTest) (Says : ℕ → Option ℕ → Type 0) (o : Option PartPlace)
    → ((p : ℕ) (u : Option ℕ) → p < t.parts → Says p u → u ≡ first_place (t.within p))
    → InFoundBy Says t.parts o → o ≡ first_in t
in_by t Says None f h =
    ap (option_map (by_part t).place)
    (first_by (λ p b. (by_part t).broken p ≡ b) (by_part t).broken t.parts None (λ p b lt e. sym e)
    (λ p lt. sym (tells (t.within p) None (f p None lt (h p lt)))))
in_by t Says (Some at) f h =
    let here : Some at.place ≡ first_place (t.within at.part) = f at.part (Some at.place) h.0 h.1 in
    let part = first_by (λ p b. (by_part t).broken p ≡ b) (by_part t).broken t.parts (Some at.part)
    (λ p b lt e. sym e) (
      h.0,
      sym (tells (t.within at.part) (Some at.place) here),
      λ p lt. sym
          (tells (t.within p) None (f p None (let l : at.part < t.parts = h.0 in omega arith) (h.2 p lt))),
    ) in
    ap Some (sym (place_in t at.part at.place here)) ∙ ap (option_map (by_part t).place) part

-- a search that asks of one part after another finds the first place
pub first_in_is : (t : PairTest) {Says : ℕ → Option ℕ → Type 0} {n : ℕ} {o : Option PartPlace}
    → FirstInBy Says n o → n ≡ t.parts
    → ((p : ℕ) (u : Option ℕ) → p < n → Says p u → u ≡ first_place (t.within p)) → o ≡ first_in t
first_in_is t {Says} {n} {o} h e f =
    in_by t Says o (λ p u lt s. f p u (rw e lt) s)
    (let P : ℕ → Type 0 = λ m. InFoundBy Says m o in subst P e h.found)

-- ---- over the rules

-- where a rule is broken at some place of a part, it is as a rule over the parts
breaks_part : (t : PairTest) (p i : ℕ) → BrokenIn t p i → BrokenAt (by_part t) p
breaks_part t p i b =
    (b.0, by_first (first_of (t.within p)) (first_below_is (t.within p).broken (t.within p).count))
  where
    by_first : (o : Option ℕ) → IsFirstIndex (t.within p).broken (t.within p).count o → is_some o ≡ true
    by_first None none = let f : false ≡ true = sym (none i b.1.0) ∙ b.1.1 in cc
    by_first (Some j) first = refl

-- and then there is a first place there
first_place_of : (t : PairTest) (p : ℕ) → BrokenAt (by_part t) p → (i : ℕ) × BrokenIn t p i
    × ((by_part t).place p ≡ record { part = p; place = (t.within p).place i })
    × ((j : ℕ) → j < i → BrokenIn t p j → ⊥)
first_place_of t p b =
    by_first (first_of (t.within p)) refl (first_below_is (t.within p).broken (t.within p).count)
  where
    by_first : (o : Option ℕ) → first_of (t.within p) ≡ o
        → IsFirstIndex (t.within p).broken (t.within p).count o → (i : ℕ) × BrokenIn t p i
        × ((by_part t).place p ≡ record { part = p; place = (t.within p).place i })
        × ((j : ℕ) → j < i → BrokenIn t p j → ⊥)
    by_first None e none = let f : false ≡ true = sym (ap is_some e) ∙ b.1 in cc
    by_first (Some i) e first = (
      i,
      (b.0, (first.0, first.1)),
      place_in t p ((t.within p).place i)
          (ap (option_map (t.within p).place) (sym e)),
      λ j lt c.
          (let f : false ≡ true = sym (first.2 j lt) ∙ c.1.1 in cc),
    )

numbered_by : (rules : List PairTest) (n : ℕ)
    → rule (map by_part rules) n ≡ option_map by_part (rule_of rules n)
numbered_by rules zero = refl
numbered_by rules (suc n) = slice_get-map by_part rules n

numbered_of : (rules : List PairTest) (n : ℕ) (u : Test PartPlace) → rule (map by_part rules) n ≡ Some u
    → (t : PairTest) × (rule_of rules n ≡ Some t) × (by_part t ≡ u)
numbered_of rules n u e = by_cases (rule_of rules n) refl
  where
    by_cases : (o : Option PairTest) → rule_of rules n ≡ o → (t : PairTest) × (rule_of rules n ≡ Some t)
        × (by_part t ≡ u)
    by_cases None is = let f : None ≡ Some u =
        sym (numbered_by rules n ∙ ap (option_map by_part) is) ∙ e in cc
    by_cases (Some t) is =
        let same : Some (by_part t) ≡ Some u = sym (numbered_by rules n ∙ ap (option_map by_part) is) ∙ e in
        (t, is, cc)

-- the first of the rules over the parts, with the first place in its part
pub with_place : {E : Type 0} (told : ℕ → PartPlace → E) (rules : List PairTest) (report : E)
    → IsFirst told (map by_part rules) report → IsFirstIn told rules report
with_place told rules report h = placed (numbered_of rules h.number h.test h.is)
  where
    placed : (t : PairTest) × (rule_of rules h.number ≡ Some t) × (by_part t ≡ h.test)
        → IsFirstIn told rules report
    placed (t, is, same) =
        at_index (first_place_of t h.index (subst (λ u. BrokenAt u h.index) (sym same) h.broken))
      where
        at_index : (i : ℕ) × BrokenIn t h.index i
            × ((by_part t).place h.index ≡ record { part = h.index; place = (t.within h.index).place i })
            × ((j : ℕ) → j < i → BrokenIn t h.index j → ⊥) → IsFirstIn told rules report
        at_index (i, broken, told_as, none) = record {
          number = h.number;
          test = t;
          is = is;
          part = h.index;
          index = i;
          reported = h.reported ∙ ap (λ u. told h.number (u.place h.index)) (sym same)
              ∙ ap (told h.number) told_as;
          broken = broken;
          first = before;
        }
          where
            over_parts : (n p j : ℕ) (u : PairTest) → rule_of rules n ≡ Some u → IsBefore n p h.number h.index
                → BrokenIn u p j → ⊥
            over_parts n p j u e lt b =
                h.first n p (by_part u) (numbered_by rules n ∙ ap (option_map by_part) e)
                lt (breaks_part u p j b)

            in_part : (n p j : ℕ) (u : PairTest) → rule_of rules n ≡ Some u → n ≡ h.number → p ≡ h.index
                → j < i → BrokenIn u p j → ⊥
            in_part n p j u e same_rule same_part lt b =
                let both : Some u ≡ Some t = sym e ∙ ap (rule_of rules) same_rule ∙ is in
                let one : u ≡ t = cc in
                none j lt (subst (λ v. BrokenIn v h.index j) one (subst (λ q. BrokenIn u q j) same_part b))

            before : (n p j : ℕ) (u : PairTest) → rule_of rules n ≡ Some u
                → IsBeforeIn n p j h.number h.index i → BrokenIn u p j → ⊥
            before n p j u e lt b = elim lt as (λ _. ⊥) [
              | inl l ↦ over_parts n p j u e (inl l) b
              | inr l ↦ elim l.1 as (λ _. ⊥) [
                | inl m ↦ over_parts n p j u e (inr (l.0, m)) b
                | inr m ↦ in_part n p j u e l.0 m.0 m.1 b
              ]
            ]

-- to try the rules in their order gives the first that is broken, in its first part and at its first place
-- there
pub first_broken_in : {E : Type 0} (told : ℕ → PartPlace → E) (rules : List PairTest)
    → IsFirstBrokenIn told rules (check_from told 1 (map by_part rules))
first_broken_in told rules =
    of (check_from told 1 (map by_part rules)) (first_broken told (map by_part rules))
  where
    of : (r : Result (Unit {0}) _) → IsFirstBroken told (map by_part rules) r → IsFirstBrokenIn told rules r
    of (Ok u) none = λ n p i t e b. none n p (by_part t) (numbered_by rules n ∙ ap (option_map by_part) e)
        (breaks_part t p i b)
    of (Err report) first = with_place told rules report first

-- ---- one

order : (p q : ℕ) → (p ≡ q) ⊎ ((p < q) ⊎ (q < p))
order p q = grind arith

one_number_in : {E : Type 0} (told : ℕ → PartPlace → E) (ts : List PairTest) (a b : E)
    (h : IsFirstIn told ts a) (k : IsFirstIn told ts b) → h.number ≡ k.number → h.part ≡ k.part → h.index
    ≡ k.index → a ≡ b
one_number_in told ts a b h k n p i =
    let s : Some h.test ≡ Some k.test = sym h.is ∙ ap (rule_of ts) n ∙ k.is in
    let t : h.test ≡ k.test = cc in
    h.reported ∙ ap (λ m. told m (record { part = h.part; place = (h.test.within h.part).place h.index })) n
    ∙ ap (λ (u : PairTest). told k.number (record { part = h.part; place = (u.within h.part).place h.index }))
    t
    ∙ ap (λ q. told k.number (record { part = q; place = (k.test.within q).place h.index })) p
    ∙ ap (λ j. told k.number (record { part = k.part; place = (k.test.within k.part).place j })) i
    ∙ sym k.reported

-- there is one first place at which a rule is broken
pub one_first_in : {E : Type 0} (told : ℕ → PartPlace → E) (ts : List PairTest) (a b : E)
    → IsFirstIn told ts a → IsFirstIn told ts b → a ≡ b
one_first_in told ts a b h k = elim (order h.number k.number) as (λ _. a ≡ b) [
  | inl n ↦ elim (order h.part k.part) as (λ _. a ≡ b) [
    | inl p ↦ elim (order h.index k.index) as (λ _. a ≡ b) [
      | inl i ↦ one_number_in told ts a b h k n p i
      | inr i ↦ elim i as (λ _. a ≡ b) [
        | inl lt ↦ absurd (k.first h.number h.part h.index h.test h.is (inr (n, inr (p, lt))) h.broken)
        | inr lt ↦ absurd (h.first k.number k.part k.index k.test k.is
            (inr (sym n, inr (sym p, lt))) k.broken)
      ]
    ]
    | inr p ↦ elim p as (λ _. a ≡ b) [
      | inl lt ↦ absurd (k.first h.number h.part h.index h.test h.is (inr (n, inl lt)) h.broken)
      | inr lt ↦ absurd (h.first k.number k.part k.index k.test k.is (inr (sym n, inl lt)) k.broken)
    ]
  ]
  | inr n ↦ elim n as (λ _. a ≡ b) [
    | inl lt ↦ absurd (k.first h.number h.part h.index h.test h.is (inl lt) h.broken)
    | inr lt ↦ absurd (h.first k.number k.part k.index k.test k.is (inl lt) k.broken)
  ]
]
