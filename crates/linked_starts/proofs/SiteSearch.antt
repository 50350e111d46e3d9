-- What is found among sites in their order: by halving the one at an address, run by run the one of a seal.
use Rattle.std.proofs.Common.{◌≡◌, ◌≢◌, ℕ, zero, suc, ◌+◌, ◌-◌, ◌<◌, ◌≤◌, Bool, true, false, List, length}
use Rattle.std.proofs.Common.{length-drop, get_or, drop, Some, None, refl, sym, ap, ◌∙◌, subst, arith, inl}
use Rattle.std.proofs.Common.{inr, eq-eqb}
use Rattle.std.specs.Prelude.{◌==◌, nat_lt, position}
use Rattle.std.specs.List.{HoldsAt, position_or_len}
use Rattle.std.specs.List.Sorted.{IsNonDecreasingBy, IsPartitionedBy, IsPartitionPoint}
use Rattle.std.specs.Ordering.{nat_cmp, ordering_index, MatchOrdering}
use Rattle.std.specs.declared.cmp.Ordering.{Ordering}
use Rattle.std.specs.declared.cmp.Ordering.TheVariants.{Less, Equal, Greater}
use Rattle.std.proofs.lemmas.Bool.{cases_eq, cases_lt, eqb-true, lt-ltb, ltb-true, ne_eqb, false_from_ne_true}
use Rattle.std.proofs.lemmas.Bool.{true≢false}
use Rattle.std.proofs.lemmas.Cmp.{ranked}
use Rattle.std.proofs.lemmas.List.{get_or-drop, get_or_default}
use Rattle.std.proofs.lemmas.List.Sums.{position_or_len_is}
use Rattle.lcm_machine.proofs.Offers.{tied_same}
use Rattle.linked_starts.specs.declared.owners.Site.{Site}
use Rattle.linked_starts.specs.Owners.{SitesAscend, InRuns, IsRun}

-- what is read where no site is
abbrev pub no_site : Site
no_site = record { part = 0; index = 0; seal = 0; at = 0 }

-- ---- the first that passes

module _ {X : Type 0} (test : X → Bool) (xs : List X) (d : X) where
  first_is : (i : ℕ) → i < length xs → ((k : ℕ) → k < i → test (get_or xs k d) ≡ false)
      → test (get_or xs i d) ≡ true → position test xs ≡ Some i
  first_is i lt fails passes =
      let first : position_or_len test xs ≡ i =
      position_or_len_is test xs i d (omega (arith, lt)) fails (λ _. passes) in
      rw (first, lt-ltb i (length xs) lt) refl

  none_is : ((k : ℕ) → k < length xs → test (get_or xs k d) ≡ false) → position test xs ≡ None
  none_is fails =
      let last : position_or_len test xs ≡ length xs =
      position_or_len_is test xs (length xs) d (omega arith) fails (λ lt. absurd (omega (arith, lt))) in
      let past : nat_lt (length xs) (length xs) ≡ false =
      false_from_ne_true _ (λ e. let lt = ltb-true (length xs) (length xs) e in omega (arith, lt)) in
      rw (last, past) refl

-- ---- by addresses

pub less_is : (a b : ℕ) → nat_cmp a b ≡ Less → a < b
less_is a b e = subst (λ r. MatchOrdering r (a < b) (a ≡ b) (b < a)) e (ranked a b (nat_cmp a b) refl)

pub greater_is : (a b : ℕ) → nat_cmp a b ≡ Greater → b < a
greater_is a b e = subst (λ r. MatchOrdering r (a < b) (a ≡ b) (b < a)) e (ranked a b (nat_cmp a b) refl)

index_up : (a b o : ℕ) (r s : Ordering) → MatchOrdering r (a < o) (a ≡ o) (o < a)
    → MatchOrdering s (b < o) (b ≡ o) (o < b) → a ≤ b → ordering_index r ≤ ordering_index s
index_up a b o Less s h k le = omega arith
index_up a b o Equal Less h k le = absurd (let l : b < o = k in let m : a ≡ o = h in omega (arith, l, m, le))
index_up a b o Equal Equal h k le = omega arith
index_up a b o Equal Greater h k le = omega arith
index_up a b o Greater Less h k le =
    absurd (let l : b < o = k in let m : o < a = h in omega (arith, l, m, le))
index_up a b o Greater Equal h k le =
    absurd (let l : b ≡ o = k in let m : o < a = h in omega (arith, l, m, le))
index_up a b o Greater Greater h k le = omega arith

-- a later site has a higher address
pub up_to : (rows : List Site) (i j : ℕ) (d : Site) → SitesAscend rows → i ≤ j → j < length rows
    → (get_or rows i d).at ≤ (get_or rows j d).at
up_to rows i j d h le lt = elim (cases_eq i j) as (λ _. (get_or rows i d).at ≤ (get_or rows j d).at) [
  | inl e ↦ rw e (omega arith)
  | inr ne ↦ (let up = h i j d (omega (arith, le, ne)) lt in omega (arith, up))
]

searchable : (rows : List Site) (o : ℕ) → SitesAscend rows
    → IsNonDecreasingBy (λ (y : Site). ordering_index (nat_cmp y.at o)) rows
searchable rows o h i j d le lt =
    let at : Site → Ordering = λ y. nat_cmp y.at o in
    index_up (get_or rows i d).at (get_or rows j d).at o _ _
    (ranked (get_or rows i d).at o (at (get_or rows i d)) refl)
    (ranked (get_or rows j d).at o (at (get_or rows j d)) refl) (up_to rows i j d h le lt)

pub at_place : (rows : List Site) (o i : ℕ) (d : Site) → SitesAscend rows → i < length rows
    → HoldsAt (λ (y : Site). nat_cmp y.at o ≡ Equal) rows i → position (λ (s : Site). s.at == o) rows ≡ Some i
at_place rows o i d h lt e =
    let here : (get_or rows i d).at ≡ o = tied_same _ o (e d) in
    first_is (λ (s : Site). s.at == o) rows d i lt
    (λ k below.
    ne_eqb (get_or rows k d).at o (λ same. let up = h k i d below lt in omega (arith, here, same, up)))
    (eq-eqb _ o here)

pub at_none : (rows : List Site) (o i : ℕ) (d : Site) → SitesAscend rows
    → (IsNonDecreasingBy (λ (y : Site). ordering_index (nat_cmp y.at o)) rows
    → IsPartitionPoint (λ (y : Site). nat_cmp y.at o ≡ Less) (λ (y : Site). nat_cmp y.at o ≡ Greater)
    rows i)
    → position (λ (s : Site). s.at == o) rows ≡ None
at_none rows o i d h split =
    none_is (λ (s : Site). s.at == o)
    rows d (λ k lt. ne_eqb (get_or rows k d).at o (λ e. elim (cases_lt k i) as (λ _. ⊥) [
      | inl low ↦
          (let l = less_is _ o ((split (searchable rows o h)).0 k d (omega arith) low) in omega (arith, l, e))
      | inr high ↦
          (let l = greater_is _ o ((split (searchable rows o h)).1 k d high lt) in omega (arith, l, e))
    ]))

-- ---- by seals

module _ (rows : List Site) (runs : InRuns rows) (d : Site) where
  -- between two sites of a part are its own
  between : (n i m k : ℕ) → i + n ≡ m → m ≤ k → k < length rows
      → (get_or rows i d).part ≡ (get_or rows k d).part → (get_or rows m d).part ≡ (get_or rows k d).part
  between zero i m k e le lt same =
      subst (λ x. (get_or rows x d).part ≡ (get_or rows k d).part) (omega (arith, e)) same
  between (suc n) i m k e le lt same =
      let next = (runs i k d (omega (arith, e, le)) lt same).0 in
      between n (i + 1) m k (omega (arith, e)) le lt (next ∙ same)

  -- and their seals go up by one
  climbs : (n i k : ℕ) → i + n ≡ k → k < length rows → (get_or rows i d).part ≡ (get_or rows k d).part
      → (get_or rows k d).seal ≡ (get_or rows i d).seal + n
  climbs zero i k e lt same = let here : i ≡ k = omega (arith, e) in let x =
      ap (λ n. (get_or rows n d).seal) here in omega (arith, x)
  climbs (suc n) i k e lt same =
      let next = runs i k d (omega (arith, e)) lt same in
      let rest = climbs n (i + 1) k (omega (arith, e)) lt (next.0 ∙ same) in
      let here = next.1 in
      omega (arith, rest, here)

-- of the sites from a place on, those of its part are in front
module _ (rows : List Site) (place part : ℕ) (rest : List Site) (d : Site) (from : rest ≡ drop place rows)
    (is : part ≡ (get_or rows place d).part) (inside : place < length rows) where
  rest_at : (k : ℕ) (e : Site) → (get_or rest k e).part ≡ (get_or rows (place + k) e).part
  rest_at k e = ap (λ xs. (get_or xs k e).part) from ∙ ap (λ (s : Site). s.part) (get_or-drop place rows k e)

  rest_length : length rest + place ≡ length rows
  rest_length = let n = ap length from ∙ length-drop place rows in omega (arith, n, inside)

  first_part : (e : Site) → (get_or rows place e).part ≡ part
  first_part e = ap (λ (s : Site). s.part) (get_or_default rows place e d inside) ∙ sym is

  pub run_in_front : InRuns rows → IsPartitionedBy (λ (s : Site). s.part == part) rest
  run_in_front runs i j e le lt on =
      let later : (get_or rows (place + j) e).part ≡ part = sym (rest_at j e) ∙ eqb-true _ part on in
      let there = between rows runs e i place (place + i) (place + j) refl (omega (arith, le))
      (let n = rest_length in omega (arith, n, lt)) (first_part e ∙ sym later) in
      eq-eqb _ part (rest_at i e ∙ there ∙ later)

  pub run_is : (n : ℕ) → n ≤ length rest
      → IsPartitionPoint (λ (s : Site). (s.part == part) ≡ true) (λ (s : Site). (s.part == part) ≡ false)
      rest n
      → IsRun rows place (place + n)
  run_is n le split = record {
    some = some n split.1;
    within = let long = rest_length in omega (arith, le, long);
    one_part = λ k e low high.
        let here : place + (k - place) ≡ k = omega (arith, low) in
        let on = eqb-true _ part (split.0 (k - place) e (omega arith) (omega (arith, low, high))) in
        first_part e ∙ sym on ∙ rest_at (k - place) e ∙ ap (λ x. (get_or rows x e).part) here;
    whole = λ e lt same.
        let off = split.1 n e (omega arith) (let long = rest_length in omega (arith, lt, long)) in
        let on : (get_or rest n e).part ≡ part = rest_at n e ∙ sym same ∙ first_part e in
        true≢false (sym (eq-eqb _ part on) ∙ off);
  }
    where
      some : (m : ℕ)
          → ((k : ℕ) (e : Site) → m ≤ k → k < length rest → ((get_or rest k e).part == part) ≡ false)
          → place < place + m
      some zero off = absurd (
          let zeroth : place + 0 ≡ place = omega arith in
          let first : (get_or rest 0 d).part ≡ part =
          rest_at 0 d ∙ ap (λ x. (get_or rows x d).part) zeroth ∙ first_part d in
          true≢false
          (sym (eq-eqb _ part first)
          ∙ off 0 d (omega arith) (let long = rest_length in omega (arith, long, inside)))
          )
      some (suc m) off = omega arith

-- ---- one run after another

module _ (rows : List Site) (runs : InRuns rows) (seal place end : ℕ) (d : Site)
    (before : (k : ℕ) (e : Site) → k < place → (get_or rows k e).seal ≢ seal) (run : IsRun rows place end)
  where
    inside : (k : ℕ) → k < end → k < length rows
    inside k lt = let le = run.within in omega (arith, lt, le)

    seal_at : (k : ℕ) → place ≤ k → k < end
        → (get_or rows k d).seal ≡ (get_or rows place d).seal + (k - place)
    seal_at k low high =
        climbs rows runs d (k - place) place k (omega (arith, low)) (inside k high)
        (run.one_part k d low high)

    pub in_run : (get_or rows place d).seal ≤ seal → seal - (get_or rows place d).seal < end - place
        → position (λ (s : Site). s.seal == seal) rows ≡ Some (place + (seal - (get_or rows place d).seal))
    in_run low near =
        let k = place + (seal - (get_or rows place d).seal) in
        let high : k < end = omega (arith, near) in
        let there = seal_at k (omega arith) high in
        let is : (get_or rows k d).seal ≡ seal = omega (arith, there, low) in
        first_is (λ (s : Site). s.seal == seal) rows d k (inside k high)
        (λ n lt. ne_eqb (get_or rows n d).seal seal (λ same. elim (cases_lt n place) as (λ _. ⊥) [
          | inl l ↦ before n d l same
          | inr r ↦
              (let here = seal_at n r (omega (arith, lt, high)) in omega (arith, here, same, lt, r, low))
        ]))
        (eq-eqb _ seal is)

    pub past_run : ((k : ℕ) → place ≤ k → k < end → (get_or rows place d).seal + (k - place) ≢ seal)
        → (k : ℕ) (e : Site) → k < end → (get_or rows k e).seal ≢ seal
    past_run none k e lt same = elim (cases_lt k place) as (λ _. ⊥) [
      | inl l ↦ before k e l same
      | inr r ↦
          (let here = seal_at k r lt in let x =
          ap (λ (s : Site). s.seal) (get_or_default rows k e d (inside k lt)) in
          none k r lt (omega (arith, here, x, same)))
    ]

pub nowhere : (rows : List Site) (seal place : ℕ)
    → ((k : ℕ) (e : Site) → k < place → (get_or rows k e).seal ≢ seal) → length rows ≤ place
    → position (λ (s : Site). s.seal == seal) rows ≡ None
nowhere rows seal place none end =
    none_is (λ (s : Site). s.seal == seal)
    rows no_site
    (λ k lt. ne_eqb (get_or rows k no_site).seal seal (none k no_site (omega (arith, lt, end))))
