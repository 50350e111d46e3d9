-- 'Covered at most once', told by a count of places.
use Rattle.std.proofs.Common.{◌≡◌, ◌⊎◌, inl, inr, ℕ, suc, ◌+◌, ◌<◌, ◌≤◌, Bool, true, false, T, cond, List, []}
use Rattle.std.proofs.Common.{◌∷◌, map, Some, None, refl, sym, ap, ◌∙◌, arith}
use Rattle.std.specs.Prelude.{Option, IsTrue, ◌&&◌, ◌↔◌, is_some}
use Rattle.std.specs.List.{Contains, count_by}
use Rattle.std.specs.Ordering.{nat_cmp, is_lt, is_eq, eq_by_cmp}
use Rattle.std.specs.declared.cmp.Ordering.{Ordering}
use Rattle.std.specs.declared.cmp.Ordering.TheVariants.{Less, Equal, Greater}
use Rattle.std.specs.Cmp.{ranked}
use Rattle.std.specs.FinMap.{FinMap, keys, entries, entries_sorted, contains_key-keys, is_sorted}
use Rattle.std.specs.FinMap.Entries.{below_all}
use Rattle.std.proofs.lemmas.Bool.{cases_Bool}
use Rattle.std.proofs.lemmas.List.Sums.{sum_by-cons}
use Rattle.std.proofs.lemmas.List.Elements.{Contains-append_left, Contains-append_right}
use Rattle.std.proofs.lemmas.Map.Views.{Contains-from_any}
use Rattle.cap_words.specs.declared.Word.{Word}
use Rattle.lcm_isa.specs.declared.Reg.{Reg}
use Rattle.lcm_isa.specs.declared.Reg.TheVariants.{Pc, Rcode, Rdata, Stk, Dat, T1, T2, C1, C2, A0, A1, A2, A3}
use Rattle.lcm_isa.specs.declared.Reg.TheVariants.{G0, G1, G2}
use Rattle.lcm_isa.specs.Numbers.{reg_number, all_regs}
use Rattle.lcm_machine.specs.declared.Place.{Place}
use Rattle.lcm_machine.specs.declared.Place.TheVariants.{R, Cell}
use Rattle.lcm_machine.specs.Maps.{State}
use Rattle.lcm_machine.specs.Cells.{cell}
use Rattle.lcm_machine.specs.Row.{word_at}
use Rattle.lcm_machine.specs.Regions.{Region, IsLinearAt, word_over, CoveredOnce}
use Rattle.lcm_machine.specs.Counts.{places, cover_count}
use Rattle.lcm_machine.proofs.RegionLemmas.{contains_cases, contains_none}

-- a list whose numbers strictly rise, from a number on
abbrev Rising : {A : Type 0} → (A → ℕ) → ℕ → List A → Type 0
Rising f n [] = Unit {0}
Rising f n (x ∷ xs) = (n ≤ f x) × Rising f (f x + 1) xs

module _ {A : Type 0} (f : A → ℕ) (P : A → Bool) where
  rising_above : (n : ℕ) (xs : List A) (y : A) → Rising f n xs → Contains xs y → n ≤ f y
  rising_above n [] y h m = absurd (contains_none y m)
  rising_above n (x ∷ xs) y h m = elim (contains_cases x xs y m) as (λ _. n ≤ f y) [
    | inl e ↦ rw (← e) h.0
    | inr k ↦ (let l = rising_above (f x + 1) xs y h.1 k in omega (arith, l, h.0))
  ]

  count_cons : (x : A) (xs : List A) (b : Bool) → P x ≡ b → count_by P (x ∷ xs) ≡ cond b 1 0 + count_by P xs
  count_cons x xs b e = sum_by-cons (λ y. cond (P y) 1 0) x xs ∙ ap (λ c. cond c 1 0 + count_by P xs) e

  count_none : (xs : List A) → ((y : A) → Contains xs y → P y ≡ true → ⊥) → count_by P xs ≡ 0
  count_none [] h = refl
  count_none (x ∷ xs) h = elim (cases_Bool (P x)) as (λ _. count_by P (x ∷ xs) ≡ 0) [
    | inl e ↦ absurd (h x (0, omega arith, refl) e)
    | inr e ↦
        omega (arith, count_cons x xs false e, count_none xs (λ y m. h y (suc m.0, omega (arith, m.1), m.2)))
  ]

  pub count_some : (xs : List A) (y : A) → Contains xs y → P y ≡ true → 1 ≤ count_by P xs
  count_some [] y m p = absurd (contains_none y m)
  count_some (x ∷ xs) y m p = elim (cases_Bool (P x)) as (λ _. 1 ≤ count_by P (x ∷ xs)) [
    | inl e ↦ omega (arith, count_cons x xs true e)
    | inr e ↦ elim (contains_cases x xs y m) as (λ _. 1 ≤ count_by P (x ∷ xs)) [
      | inl same ↦ (let t : P x ≡ true = ap P same ∙ p in cc)
      | inr k ↦ omega (arith, count_some xs y k p, count_cons x xs false e)
    ]
  ]

  -- a count that isn't 0 has counted one
  pub counted : (xs : List A) → ((y : A) × Contains xs y × (P y ≡ true)) ⊎ (count_by P xs ≡ 0)
  counted [] = inr refl
  counted (x ∷ xs) =
      elim (cases_Bool (P x))
      as (λ _. ((y : A) × Contains (x ∷ xs) y × (P y ≡ true)) ⊎ (count_by P (x ∷ xs) ≡ 0)) [
        | inl e ↦ inl (x, (0, omega arith, refl), e)
        | inr e ↦
            elim (counted xs)
            as (λ _. ((y : A) × Contains (x ∷ xs) y × (P y ≡ true)) ⊎ (count_by P (x ∷ xs) ≡ 0)) [
              | inl h ↦ inl (h.0, (suc h.1.0, (let lt = h.1.1 in omega (arith, lt)), h.1.2), h.2)
              | inr n ↦ inr (let k = count_cons x xs false e in omega (arith, k, n))
            ]
      ]

  fewer : (x : A) (xs : List A) → count_by P (x ∷ xs) ≤ 1 → count_by P xs ≤ 1
  fewer x xs c = elim (cases_Bool (P x)) as (λ _. count_by P xs ≤ 1) [
    | inl e ↦ omega (arith, count_cons x xs true e, c)
    | inr e ↦ omega (arith, count_cons x xs false e, c)
  ]

  -- at most one element passes the test where any two that pass are one
  pub once_counts : (n : ℕ) (xs : List A) → Rising f n xs
      → ((y z : A) → Contains xs y → Contains xs z → P y ≡ true → P z ≡ true → y ≡ z) → count_by P xs ≤ 1
  once_counts n [] r h = omega arith
  once_counts n (x ∷ xs) r h =
      let later : (y : A) → Contains xs y → Contains (x ∷ xs) y = λ y m. (suc m.0, omega (arith, m.1), m.2) in
      elim (cases_Bool (P x)) as (λ _. count_by P (x ∷ xs) ≤ 1) [
        | inl e ↦ (let k = count_none xs (λ y m p.
            let same : f x ≡ f y = ap f (h x y (0, omega arith, refl) (later y m) e p) in
            omega (arith, rising_above (f x + 1) xs y r.1 m, same)) in
            omega (arith, count_cons x xs true e, k))
        | inr e ↦
            omega (
              arith,
              count_cons x xs false e,
              once_counts (f x + 1)
                  xs r.1 (λ y z m o. h y z (later y m) (later z o)),
            )
      ]

  pub counts_once : (xs : List A) → count_by P xs ≤ 1 → (y z : A) → Contains xs y → Contains xs z → P y ≡ true
      → P z ≡ true → y ≡ z
  counts_once [] c y z m o p q = absurd (contains_none y m)
  counts_once (x ∷ xs) c y z m o p q = elim (contains_cases x xs y m) as (λ _. y ≡ z) [
    | inl e ↦ elim (contains_cases x xs z o) as (λ _. y ≡ z) [
      | inl d ↦ sym e ∙ d
      | inr d ↦ absurd (omega (arith, count_cons x xs true (ap P e ∙ p), count_some xs z d q, c))
    ]
    | inr e ↦ elim (contains_cases x xs z o) as (λ _. y ≡ z) [
      | inl d ↦ absurd (omega (arith, count_cons x xs true (ap P d ∙ q), count_some xs y e p, c))
      | inr d ↦ counts_once xs (fewer x xs c) y z e d p q
    ]
  ]

both_T : (a b : Bool) → T (a && b) → T a × T b
both_T true b h = (tt, h)
both_T false b h = absurd h

less_of : (x y : ℕ) → T (is_lt (nat_cmp x y)) → x < y
less_of x y h = by_rank (nat_cmp x y) refl h
  where
    by_rank : (r : Ordering) → r ≡ nat_cmp x y → T (is_lt r) → x < y
    by_rank Less e t = ranked x y Less e
    by_rank Equal e t = absurd t
    by_rank Greater e t = absurd t

-- the registers are numbered 0 to 15, and the cell at a is numbered 16 + a
abbrev place_number : Place → ℕ
place_number (R r) = reg_number r
place_number (Cell a) = 16 + a

contains_map : {A B : Type 0} (g : A → B) (xs : List A) (y : A) → Contains xs y → Contains (map g xs) (g y)
contains_map g [] y m = absurd (contains_none y m)
contains_map g (x ∷ xs) y m = elim (contains_cases x xs y m) as (λ _. Contains (map g (x ∷ xs)) (g y)) [
  | inl e ↦ (0, omega arith, ap g e)
  | inr k ↦ (let l = contains_map g xs y k in (suc l.0, omega (arith, l.1), l.2))
]

has_reg : (r : Reg) → Contains all_regs r
has_reg Pc = (0, omega arith, refl)
has_reg Rcode = (1, omega arith, refl)
has_reg Rdata = (2, omega arith, refl)
has_reg Stk = (3, omega arith, refl)
has_reg Dat = (4, omega arith, refl)
has_reg T1 = (5, omega arith, refl)
has_reg T2 = (6, omega arith, refl)
has_reg C1 = (7, omega arith, refl)
has_reg C2 = (8, omega arith, refl)
has_reg A0 = (9, omega arith, refl)
has_reg A1 = (10, omega arith, refl)
has_reg A2 = (11, omega arith, refl)
has_reg A3 = (12, omega arith, refl)
has_reg G0 = (13, omega arith, refl)
has_reg G1 = (14, omega arith, refl)
has_reg G2 = (15, omega arith, refl)

module _ {W : Type 0} where
  cells_rise_from : (x : ℕ) (es : List (ℕ × W)) → T (below_all nat_cmp x es) → T (is_sorted nat_cmp es)
      → Rising place_number (16 + x + 1) (map Cell (map (λ e. e.0) es))
  cells_rise_from x [] b s = tt
  cells_rise_from x (e ∷ es) b s =
      let k = less_of x e.0 (both_T _ _ b).0 in
      let l = both_T _ _ s in
      (omega (arith, k), cells_rise_from e.0 es l.0 l.1)

  cells_rise : (es : List (ℕ × W)) → T (is_sorted nat_cmp es)
      → Rising place_number 16 (map Cell (map (λ e. e.0) es))
  cells_rise [] s = tt
  cells_rise (e ∷ es) s = let l = both_T _ _ s in (omega arith, cells_rise_from e.0 es l.0 l.1)

  places_rise : (s : State W) → Rising place_number 0 (places s)
  places_rise s = (
    omega arith,
    (
      omega arith,
      (
        omega arith,
        (
          omega arith,
          (
            omega arith,
            (
              omega arith,
              (
                omega arith,
                (
                  omega arith,
                  (
                    omega arith,
                    (
                      omega arith,
                      (
                        omega arith,
                        (
                          omega arith,
                          (
                            omega arith,
                            (
                              omega arith,
                              (
                                omega arith,
                                (omega arith, cells_rise (entries s.cells) (entries_sorted s.cells)),
                              ),
                            ),
                          ),
                        ),
                      ),
                    ),
                  ),
                ),
              ),
            ),
          ),
        ),
      ),
    ),
  )

  over_some : (look : W → Word) (o : Option W) (a : ℕ) → IsTrue (word_over look o a) → is_some o ≡ true
  over_some look None a h = cc
  over_some look (Some w) a h = refl

  has_key : (m : FinMap nat_cmp W) (b : ℕ) → is_some (cell m b) ≡ true → Contains (keys m) b
  unfolding cell
  has_key m b h = Contains-from_any (λ x y e. key_same x y e) b (keys m) (sym (contains_key-keys m b) ∙ h)
    where
      key_same : (x y : ℕ) → eq_by_cmp nat_cmp x y ≡ true → x ≡ y
      key_same x y e = by_rank (nat_cmp x y) refl e
        where
          by_rank : (r : Ordering) → r ≡ nat_cmp x y → is_eq r ≡ true → x ≡ y
          by_rank Less d t = cc
          by_rank Equal d t = ranked x y Equal d
          by_rank Greater d t = cc

  -- a place with a capability over an address is among the places of the state
  pub has_place : (look : W → Word) (s : State W) (a : ℕ) (p : Place)
      → IsTrue (word_over look (word_at s p) a) → Contains (places s) p
  has_place look s a (R r) h = Contains-append_left (map R all_regs) (map Cell (keys s.cells)) (R r)
      (contains_map R all_regs r (has_reg r))
  has_place look s a (Cell b) h = Contains-append_right (map R all_regs) (map Cell (keys s.cells)) (Cell b)
      (contains_map Cell (keys s.cells) b (has_key s.cells b (over_some look (cell s.cells b) a h)))

  pub covered_counts : (look : W → Word) (rs : List Region) (s : State W) → CoveredOnce look rs s
      ↔ ((a : ℕ) → IsLinearAt rs a → cover_count look s a ≤ 1)
  unfolding cover_count
  covered_counts look rs s = (
    λ h a l. once_counts place_number (λ p. word_over look (word_at s p) a) 0 (places s) (places_rise s)
        (λ p q m o x y. h a l p q x y),
    λ h a l p q x y. counts_once place_number (λ r. word_over look (word_at s r) a) (places s) (h a l)
        p q (has_place look s a p x) (has_place look s a q y) x y,
  )
