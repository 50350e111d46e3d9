-- The first place at which a test holds, and the first rule that is broken.
use Rattle.std.proofs.Common.{◌≡◌, ℕ, zero, suc, ◌+◌, ◌<◌, ◌⊎◌, inl, inr, Bool, true, false, List, [], ◌∷◌}
use Rattle.std.proofs.Common.{Option, Some, None, Result, Ok, Err, refl, sym, ap, ◌∙◌, arith, subst}
use Rattle.std.specs.Prelude.{slice_get, option_map}
use Rattle.std.proofs.lemmas.Bool.{cases_eq, cases_order}
use Rattle.std.proofs.lemmas.Iterator.Adapters.{option_map_id}
use Rattle.component_check.specs.Places.{Test, plainly, BrokenAt, or_here, first_below, first_of, first_place}
use Rattle.component_check.specs.Places.{FoundBy, FirstBy}
use Rattle.component_check.specs.Verdict.{rule, IsBefore, IsFirst, IsFirstBroken, kept_or, check_from}

-- what the first place is
abbrev pub IsFirstIn : (ℕ → Bool) → ℕ → Option ℕ → Type 0
IsFirstIn broken n o = FoundBy (λ i b. broken i ≡ b) n o

pub below_suc : (P : ℕ → Type 0) (n : ℕ) → ((i : ℕ) → i < n → P i) → P n → (i : ℕ) → i < suc n → P i
below_suc P n h here i lt = elim (cases_eq i n) as (λ _. P i) [
  | inl e ↦ subst P (sym e) here
  | inr ne ↦ h i (omega arith)
]

first_here : (broken : ℕ → Bool) (n : ℕ) (o : Option ℕ) (b : Bool) → broken n ≡ b → IsFirstIn broken n o
    → IsFirstIn broken (suc n) (or_here o n b)
first_here broken n (Some p) b e h = (omega (arith, h.0), h.1, h.2)
first_here broken n None true e h = (omega arith, e, h)
first_here broken n None false e h = below_suc (λ i. broken i ≡ false) n h e

pub first_below_is : (broken : ℕ → Bool) (n : ℕ) → IsFirstIn broken n (first_below broken n)
first_below_is broken zero = λ i lt. absurd (omega arith)
first_below_is broken (suc n) = first_here broken n (first_below broken n) (broken n) refl
    (first_below_is broken n)

-- there is one first place at most
pub first_unique : (broken : ℕ → Bool) (n : ℕ) (o u : Option ℕ) → IsFirstIn broken n o → IsFirstIn broken n u
    → o ≡ u
first_unique broken n None None h k = refl
first_unique broken n None (Some q) h k = let f : false ≡ true = sym (h q k.0) ∙ k.1 in cc
first_unique broken n (Some p) None h k = let f : false ≡ true = sym (k p h.0) ∙ h.1 in cc
first_unique broken n (Some p) (Some q) h k = elim (cases_eq p q) as (λ _. Some p ≡ Some q) [
  | inl e ↦ ap Some e
  | inr ne ↦ elim (order p q ne) as (λ _. Some p ≡ Some q) [
    | inl lt ↦ (let f : false ≡ true = sym (k.2 p lt) ∙ h.1 in cc)
    | inr lt ↦ (let f : false ≡ true = sym (h.2 q lt) ∙ k.1 in cc)
  ]
]
  where
    order : (p q : ℕ) → (p ≡ q → ⊥) → (p < q) ⊎ (q < p)
    order p q ne = grind arith

-- a search that asks of one place after another finds the first place
pub first_by : (Says : ℕ → Bool → Type 0) (broken : ℕ → Bool) (n : ℕ) (o : Option ℕ)
    → ((i : ℕ) (b : Bool) → i < n → Says i b → b ≡ broken i) → FoundBy Says n o → o ≡ first_below broken n
first_by Says broken n o f h = first_unique broken n o (first_below broken n) (is_first o h)
    (first_below_is broken n)
  where
    is_first : (o : Option ℕ) → FoundBy Says n o → IsFirstIn broken n o
    is_first None h = λ i lt. sym (f i false lt (h i lt))
    is_first (Some p) h =
        (h.0, sym (f p true h.0 h.1), λ i lt. sym (f i false (let l : p < n = h.0 in omega arith) (h.2 i lt)))

-- the same, for a rule
pub first_of_is : {P : Type 0} (t : Test P) {Says : ℕ → Bool → Type 0} {n : ℕ} {o : Option ℕ}
    → FirstBy Says n o → n ≡ t.count → ((i : ℕ) (b : Bool) → i < n → Says i b → b ≡ t.broken i)
    → o ≡ first_of t
first_of_is t {Says} {n} {o} h e f = first_by Says t.broken n o f h.found ∙ ap (first_below t.broken) e

-- and for one whose places are named by their index
pub plain_first : (count : ℕ) (broken : ℕ → Bool) {Says : ℕ → Bool → Type 0} {n : ℕ} {o : Option ℕ}
    → FirstBy Says n o → n ≡ count → ((i : ℕ) (b : Bool) → i < n → Says i b → b ≡ broken i)
    → o ≡ first_place (plainly count broken)
plain_first count broken h e f = first_of_is (plainly count broken) h e f
    ∙ sym (option_map_id (first_below broken count))

-- the place of the first index is the first place
pub first_place_is : {P : Type 0} (t : Test P) (o : Option ℕ) → IsFirstIn t.broken t.count o
    → option_map t.place o ≡ first_place t
first_place_is t o h = ap (option_map t.place)
    (first_unique t.broken t.count o (first_of t) h (first_below_is t.broken t.count))

-- what is the first index is the first place
pub first_is : (count : ℕ) (broken : ℕ → Bool) (o : Option ℕ) → IsFirstIn broken count o
    → o ≡ first_place (plainly count broken)
first_is count broken o h = first_unique broken count o (first_below broken count) h
    (first_below_is broken count) ∙ sym (option_map_id (first_below broken count))

-- ---- over the rules

abbrev NoneBefore : {P : Type 0} → List (Test P) → ℕ → ℕ → Type 0
NoneBefore ts i p = (j q : ℕ) (t : Test _) → slice_get ts j ≡ Some t → IsBefore j q i p → BrokenAt t q → ⊥

-- the verdict over the rules of a list, the first of which has this number
abbrev IsVerdict : {P E : Type 0} → (ℕ → P → E) → ℕ → List (Test P) → Result (Unit {0}) E → Type 0
IsVerdict told k ts (Ok u) = (i p : ℕ) (t : Test _) → slice_get ts i ≡ Some t → BrokenAt t p → ⊥
IsVerdict told k ts (Err e) = (i : ℕ) × (p : ℕ) × (u : Test _) × (slice_get ts i ≡ Some u)
    × (e ≡ told (k + i) (u.place p)) × BrokenAt u p × NoneBefore ts i p

unbroken : {P : Type 0} (t u : Test P) → IsFirstIn t.broken t.count None → Some t ≡ Some u → (p : ℕ)
    → BrokenAt u p → ⊥
unbroken t u none e p b =
    let same : t ≡ u = cc in
    let here : BrokenAt t p = subst (λ v. BrokenAt v p) (sym same) b in
    let f : false ≡ true = sym (none p here.0) ∙ here.1 in
    cc

kept_is : {P E : Type 0} (told : ℕ → P → E) (k : ℕ) (t : Test P) (ts : List (Test P))
    (r : Result (Unit {0}) E) → IsFirstIn t.broken t.count None → IsVerdict told (k + 1) ts r
    → IsVerdict told k (t ∷ ts) r
kept_is told k t ts (Ok u) none v = all
  where
    all : (i p : ℕ) (w : Test _) → slice_get (t ∷ ts) i ≡ Some w → BrokenAt w p → ⊥
    all zero p w e b = unbroken t w none e p b
    all (suc i) p w e b = v i p w e b
kept_is told k t ts (Err e) none v =
    (suc v.0, v.1, v.2, v.3, v.4 ∙ ap (λ n. told n (v.2.place v.1)) (omega arith), v.5, all)
  where
    all : (j q : ℕ) (w : Test _) → slice_get (t ∷ ts) j ≡ Some w → IsBefore j q (suc v.0) v.1 → BrokenAt w q
        → ⊥
    all zero q w is lt b = unbroken t w none is q b
    all (suc j) q w is lt b =
        v.6 j q w is
        (elim lt as (λ _. IsBefore j q v.0 v.1) [
          | inl l ↦ inl (omega arith)
          | inr l ↦ inr (omega arith, l.1)
        ]) b

broken_is : {P E : Type 0} (told : ℕ → P → E) (k : ℕ) (t : Test P) (ts : List (Test P)) (p : ℕ)
    → IsFirstIn t.broken t.count (Some p) → IsVerdict told k (t ∷ ts) (Err (told k (t.place p)))
broken_is told k t ts p first =
    (0, p, t, refl, ap (λ n. told n (t.place p)) (omega arith), (first.0, first.1), all)
  where
    all : (j q : ℕ) (w : Test _) → slice_get (t ∷ ts) j ≡ Some w → IsBefore j q 0 p → BrokenAt w q → ⊥
    all zero q w is lt b = elim lt as (λ _. ⊥) [
      | inl l ↦ omega arith
      | inr l ↦ (
          let same : t ≡ w = cc in
          let here : BrokenAt t q = subst (λ v. BrokenAt v q) (sym same) b in
          let f : false ≡ true = sym (first.2 q l.1) ∙ here.1 in
          cc
          )
    ]
    all (suc j) q w is lt b = elim lt as (λ _. ⊥) [ inl l ↦ omega arith | inr l ↦ omega arith ]

verdict : {P E : Type 0} (told : ℕ → P → E) (k : ℕ) (ts : List (Test P))
    → IsVerdict told k ts (check_from told k ts)
verdict told k [] = λ i p t e b. cc
verdict told k (t ∷ ts) = by_first (first_of t) (first_below_is t.broken t.count) (verdict told (k + 1) ts)
  where
    by_first : (o : Option ℕ) → IsFirstIn t.broken t.count o
        → IsVerdict told (k + 1) ts (check_from told (k + 1) ts)
        → IsVerdict told k (t ∷ ts) (kept_or told k (option_map t.place o) (check_from told (k + 1) ts))
    by_first None h v = kept_is told k t ts (check_from told (k + 1) ts) h v
    by_first (Some p) h v = broken_is told k t ts p h

-- to try the rules in their order gives the first that is broken
pub first_broken : {P E : Type 0} (told : ℕ → P → E) (ts : List (Test P))
    → IsFirstBroken told ts (check_from told 1 ts)
first_broken told ts = numbered (check_from told 1 ts) (verdict told 1 ts)
  where
    numbered : (r : Result (Unit {0}) _) → IsVerdict told 1 ts r → IsFirstBroken told ts r
    numbered (Ok u) v = all
      where
        all : (n p : ℕ) (t : Test _) → rule ts n ≡ Some t → BrokenAt t p → ⊥
        all zero p t e b = cc
        all (suc n) p t e b = v n p t e b
    numbered (Err e) v = record {
      number = suc v.0;
      test = v.2;
      is = v.3;
      index = v.1;
      reported = v.4 ∙ ap (λ n. told n (v.2.place v.1)) (omega arith);
      broken = v.5;
      first = all;
    }
      where
        all : (n p : ℕ) (t : Test _) → rule ts n ≡ Some t → IsBefore n p (suc v.0) v.1 → BrokenAt t p → ⊥
        all zero p t is lt b = cc
        all (suc n) p t is lt b =
            v.6 n p t is
            (elim lt as (λ _. IsBefore n p v.0 v.1) [
              | inl l ↦ inl (omega arith)
              | inr l ↦
                  inr (omega arith, l.1)
            ]) b

-- ---- there is one first broken rule

one_number : {P E : Type 0} (told : ℕ → P → E) (ts : List (Test P)) (a b : E) (h : IsFirst told ts a)
    (k : IsFirst told ts b) → h.number ≡ k.number → h.index ≡ k.index → a ≡ b
one_number told ts a b h k n i =
    let s : Some h.test ≡ Some k.test = sym h.is ∙ ap (rule ts) n ∙ k.is in
    let t : h.test ≡ k.test = cc in
    h.reported ∙ ap (λ m. told m (h.test.place h.index)) n
    ∙ ap (λ (u : Test _). told k.number (u.place h.index)) t ∙ ap (λ j. told k.number (k.test.place j)) i
    ∙ sym k.reported

one_first : {P E : Type 0} (told : ℕ → P → E) (ts : List (Test P)) (a b : E) → IsFirst told ts a
    → IsFirst told ts b → a ≡ b
one_first told ts a b h k = elim (cases_order h.number k.number) as (λ _. a ≡ b) [
  | inl n ↦ elim (cases_order h.index k.index) as (λ _. a ≡ b) [
    | inl i ↦ one_number told ts a b h k n i
    | inr i ↦ elim i as (λ _. a ≡ b) [
      | inl lt ↦ absurd (k.first h.number h.index h.test h.is (inr (n, lt)) h.broken)
      | inr lt ↦ absurd (h.first k.number k.index k.test k.is (inr (sym n, lt)) k.broken)
    ]
  ]
  | inr n ↦ elim n as (λ _. a ≡ b) [
    | inl lt ↦ absurd (k.first h.number h.index h.test h.is (inl lt) h.broken)
    | inr lt ↦ absurd (h.first k.number k.index k.test k.is (inl lt) k.broken)
  ]
]

-- to try the rules in their order gives it
pub is_tried : {P E : Type 0} (told : ℕ → P → E) (ts : List (Test P)) (r : Result (Unit {0}) E)
    → IsFirstBroken told ts r → r ≡ check_from told 1 ts
is_tried {P} {E} told ts r h = by_both r (check_from told 1 ts) h (first_broken told ts)
  where
    by_both : (r s : Result (Unit {0}) E) → IsFirstBroken told ts r → IsFirstBroken told ts s → r ≡ s
    by_both (Ok u) (Ok v) h k = refl
    by_both (Ok u) (Err b) h k = absurd (h k.number k.index k.test k.is k.broken)
    by_both (Err b) (Ok v) h k = absurd (k h.number h.index h.test h.is h.broken)
    by_both (Err b) (Err d) h k = ap (λ e. Err e) (one_first told ts b d h k)
