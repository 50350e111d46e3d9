-- Regions that lie apart: those of two parts, and of a part and the stack.
use Rattle.std.proofs.Common.{◌≡◌, ◌≢◌, ◌⊎◌, ℕ, zero, suc, ◌+◌, ◌-◌, ◌<◌, ◌≤◌, Bool, true, false, List, []}
use Rattle.std.proofs.Common.{◌∷◌, ◌++◌, length, get_or, Some, refl, sym, ap, subst, ◌∙◌, arith, inl, inr}
use Rattle.std.proofs.Common.{append_assoc, length-append, le-leb, leb-true, eq-eqb}
use Rattle.std.specs.Prelude.{slice_get, IsTrue, nat_le, ◌==◌}
use Rattle.std.specs.List.{Contains, AllPairs, flat_map}
use Rattle.std.proofs.lemmas.List.{get_or_append_left, get_or-append-add, get_or_default}
use Rattle.std.proofs.lemmas.Bool.{cases_order, cases_eq, ne_eqb, and_parts, or_right}
use Rattle.std.proofs.lemmas.List.Elements.{Contains-append_left, Contains-append_right}
use Rattle.std.proofs.lemmas.List.Elements.{Contains-append_cases}
use Rattle.lcm_machine.specs.Regions.{Region, AreApart}
use Rattle.linked_starts.specs.Parts.{PartSeen}
use Rattle.linked_starts.specs.Regions.{Apart, part_regions, regions_of, region, span_of, code_span}
use Rattle.linked_starts.specs.Regions.{data_span, linear_span, stack_span, is_stack_size, in_region}
use Rattle.linked_starts.specs.Regions.{in_regions}
use Rattle.linked_starts.specs.Start.{stack_base_of}
use Rattle.linked_starts.specs.Linked.{Kept, Linked}

-- ---- pairs of a list of two pieces

pub pairs_across : {X : Type 0} (R : X → X → Type 0) (xs ys : List X) (x y : X) → AllPairs R (xs ++ ys)
    → Contains xs x → Contains ys y → R x y
pairs_across R xs ys x y h m n =
    let p = h m.0 (length xs + n.0) x (omega (arith, m.1)) (omega (arith, n.1, length-append xs ys)) in
    let a : get_or (xs ++ ys) m.0 x ≡ x = get_or_append_left xs ys x m.0 m.1 ∙ m.2 in
    let b : get_or (xs ++ ys) (length xs + n.0) x ≡ y =
    get_or-append-add xs ys n.0 x ∙ get_or_default ys n.0 x y n.1 ∙ n.2 in
    subst (λ z. R x z) b (subst (λ z. R z (get_or (xs ++ ys) (length xs + n.0) x)) a p)

pub pairs_right : {X : Type 0} (R : X → X → Type 0) (xs ys : List X) → AllPairs R (xs ++ ys) → AllPairs R ys
pairs_right R xs ys h i j d lt in' =
    let p = h (length xs + i) (length xs + j) d (omega (arith, lt)) (omega (arith, in', length-append xs ys))
    in
    let a : get_or (xs ++ ys) (length xs + i) d ≡ get_or ys i d = get_or-append-add xs ys i d in
    let b : get_or (xs ++ ys) (length xs + j) d ≡ get_or ys j d = get_or-append-add xs ys j d in
    subst (λ z. R (get_or ys i d) z) b (subst (λ z. R z (get_or (xs ++ ys) (length xs + j) d)) a p)

in_flat : (parts : List PartSeen) (k : ℕ) (p : PartSeen) (r : Region) → slice_get parts k ≡ Some p
    → Contains (part_regions p) r → Contains (flat_map part_regions parts) r
in_flat [] k p r at h = absurd cc
in_flat (x ∷ xs) zero p r at h = let e : x ≡ p =
    cc in Contains-append_left (part_regions x) (flat_map part_regions xs)
    r (subst (λ y. Contains (part_regions y) r) (sym e) h)
in_flat (x ∷ xs) (suc k) p r at h =
    Contains-append_right (part_regions x) (flat_map part_regions xs) r (in_flat xs k p r at h)

-- ---- of two parts

apart_in : (parts : List PartSeen) (rest : List Region) (k n : ℕ) (p q : PartSeen) (r s : Region)
    → AllPairs Apart (flat_map part_regions parts ++ rest) → k < n
    → slice_get parts k ≡ Some p → slice_get parts n ≡ Some q → Contains (part_regions p) r
    → Contains (part_regions q) s → Apart r s
apart_in [] rest k n p q r s h lt at_k at_n m l = absurd cc
apart_in (x ∷ xs) rest k zero p q r s h lt at_k at_n m l = absurd (omega (arith, lt))
apart_in (x ∷ xs) rest zero (suc n) p q r s h lt at_k at_n m l =
    let e : x ≡ p = cc in
    pairs_across Apart (part_regions x) (flat_map part_regions xs ++ rest)
    r s (subst (AllPairs Apart) (append_assoc (part_regions x) (flat_map part_regions xs) rest) h)
    (subst (λ y. Contains (part_regions y) r) (sym e) m)
    (Contains-append_left (flat_map part_regions xs) rest s (in_flat xs n q s at_n l))
apart_in (x ∷ xs) rest (suc k) (suc n) p q r s h lt at_k at_n m l =
    apart_in xs rest k n p q r s
    (pairs_right Apart (part_regions x) (flat_map part_regions xs ++ rest)
    (subst (AllPairs Apart) (append_assoc (part_regions x) (flat_map part_regions xs) rest) h))
    (omega (arith, lt)) at_k at_n m l

pub apart_parts : (parts : List PartSeen) (size k n : ℕ) (p q : PartSeen) (r s : Region)
    → AllPairs Apart (regions_of parts size) → k < n
    → slice_get parts k ≡ Some p → slice_get parts n ≡ Some q → Contains (part_regions p) r
    → Contains (part_regions q) s → Apart r s
unfolding regions_of
apart_parts parts size k n p q r s h lt at_k at_n m l =
    apart_in parts (region true (stack_span parts size)) k n p q r s h lt at_k at_n m l

pub apart_stack : (parts : List PartSeen) (size k : ℕ) (p : PartSeen) (r s : Region)
    → AllPairs Apart (regions_of parts size)
    → slice_get parts k ≡ Some p → Contains (part_regions p) r
    → Contains (region true (stack_span parts size)) s → Apart r s
unfolding regions_of
apart_stack parts size k p r s h at m l =
    pairs_across Apart (flat_map part_regions parts) (region true (stack_span parts size))
    r s h (in_flat parts k p r at m) l

pub part_region_of : (parts : List PartSeen) (size k : ℕ) (p : PartSeen) (r : Region)
    → slice_get parts k ≡ Some p → Contains (part_regions p) r → Contains (regions_of parts size) r
unfolding regions_of
part_region_of parts size k p r at m =
    Contains-append_left (flat_map part_regions parts) (region true (stack_span parts size))
    r (in_flat parts k p r at m)

pub stack_region_of : (parts : List PartSeen) (size : ℕ) (r : Region)
    → Contains (region true (stack_span parts size)) r → Contains (regions_of parts size) r
unfolding regions_of
stack_region_of parts size r m =
    Contains-append_right (flat_map part_regions parts) (region true (stack_span parts size)) r m

-- ---- of a whole list

at_pair : (rs : List Region) → AllPairs Apart rs → (i j : ℕ) (x y d : Region) → i < j → j < length rs
    → get_or rs i d ≡ x → get_or rs j d ≡ y → Apart x y
at_pair rs h i j x y d lt in' a b =
    subst (λ z. Apart x z) b (subst (λ z. Apart z (get_or rs j d)) a (h i j d lt in'))

turned : (r q : Region) → Apart q r → Apart r q
turned r q (inl a) = inr a
turned r q (inr a) = inl a

pub apart_all : (rs : List Region) → AllPairs Apart rs → AreApart rs
apart_all rs h r q m n =
    let at_n : get_or rs n.0 r ≡ q = get_or_default rs n.0 r q n.1 ∙ n.2 in
    elim (cases_order m.0 n.0) as (λ _. (r ≡ q) ⊎ Apart r q) [
      | inl e ↦ inl (sym m.2 ∙ ap (λ i. get_or rs i r) e ∙ at_n)
      | inr (inl lt) ↦ inr (at_pair rs h m.0 n.0 r q r lt n.1 m.2 at_n)
      | inr (inr gt) ↦ inr (turned r q (at_pair rs h n.0 m.0 q r r gt m.1 at_n m.2))
    ]

-- ---- which regions there are

-- so many addresses, at least one
abbrev pub whole : ℕ → ℕ → Bool → Region
whole base count linear = record { base = base; end = base + count - 1; linear = linear }

pub in_stretch : (base count : ℕ) (linear : Bool) → 1 ≤ count
    → Contains (region linear (span_of base count)) (whole base count linear)
in_stretch base count linear h =
    let ne : count ≢ 0 = omega (arith, h) in
    let e : (count == 0) ≡ false = ne_eqb count 0 ne in
    rw e (0, omega arith, refl)

pub code_in : (p : PartSeen) → 1 ≤ length p.component.code
    → Contains (part_regions p) (whole p.component.code_base (length p.component.code) false)
code_in p h = Contains-append_left (region false (code_span p) ++ region false (data_span p))
    (region true (linear_span p)) _
    (Contains-append_left (region false (code_span p)) (region false (data_span p))
    _ (in_stretch p.component.code_base (length p.component.code) false h))

pub data_in : (p : PartSeen) → 1 ≤ length p.component.data_words
    → Contains (part_regions p) (whole p.component.data_base (length p.component.data_words) false)
data_in p h = Contains-append_left (region false (code_span p) ++ region false (data_span p))
    (region true (linear_span p)) _
    (Contains-append_right (region false (code_span p)) (region false (data_span p))
    _ (in_stretch p.component.data_base (length p.component.data_words) false h))

pub linear_in : (p : PartSeen) → 1 ≤ p.component.linear.count
    → Contains (part_regions p) (whole p.component.linear.base p.component.linear.count true)
linear_in p h = Contains-append_right (region false (code_span p) ++ region false (data_span p))
    (region true (linear_span p)) _ (in_stretch p.component.linear.base p.component.linear.count true h)

pub stack_in : (parts : List PartSeen) (size k : ℕ) (p : PartSeen) → slice_get parts k ≡ Some p
    → is_stack_size size ≡ true → 2 ≤ size
    → Contains (region true (stack_span parts size)) (whole (stack_base_of parts) size true)
stack_in [] size k p at fits few = absurd cc
stack_in (x ∷ xs) size k p at fits few =
    rw fits (in_stretch x.component.stack_base size true (omega (arith, few)))

-- ---- addresses of regions

pub in_region_is : (a : ℕ) (r : Region) → r.base ≤ a → a ≤ r.end → in_region a r ≡ true
in_region_is a r low high = let l = le-leb r.base a low in let m = le-leb a r.end high in rw (l, m) refl

pub in_regions_is : (a : ℕ) (rs : List Region) (r : Region) → Contains rs r → r.base ≤ a → a ≤ r.end
    → in_regions a rs ≡ true
in_regions_is a [] r m low high = absurd (omega (arith, m.1))
in_regions_is a (x ∷ xs) r (zero, lt, e) low high = let h : in_region a x ≡ true =
    ap (in_region a) e ∙ in_region_is a r low high in rw h refl
in_regions_is a (x ∷ xs) r (suc k, lt, e) low high = let h : in_regions a xs ≡ true =
    in_regions_is a xs r (k, omega (arith, lt), e) low high in rw h (or_right (in_region a x) true refl)

-- ---- the regions there are, and no others

pub stretch_of : (base count : ℕ) (linear : Bool) (r : Region)
    → Contains (region linear (span_of base count)) r → (1 ≤ count) × (whole base count linear ≡ r)
stretch_of base count linear r m =
    elim (cases_eq count 0) as (λ _. (1 ≤ count) × (whole base count linear ≡ r)) [
      | inl e ↦
          absurd (let t = eq-eqb count 0 e in let l : Contains (region linear (span_of base count)) r → ⊥ =
          rw t (λ n. omega (arith, n.1)) in l m)
      | inr ne ↦
          (let f = ne_eqb count 0 ne in let l : Contains (region linear (span_of base count)) r
          → whole base count linear ≡ r = rw f (λ n. only n) in (omega (arith, ne), l m))
    ]
  where
    only : Contains (whole base count linear ∷ []) r → whole base count linear ≡ r
    only (zero, lt, e) = e
    only (suc k, lt, e) = absurd (omega (arith, lt))

-- the regions of a part, one by one
pub data PartRegion (p : PartSeen) (r : Region) : Type 0 where
  in_code : whole p.component.code_base (length p.component.code) false ≡ r → PartRegion p r
  in_data : whole p.component.data_base (length p.component.data_words) false ≡ r → PartRegion p r
  in_linear : 1 ≤ p.component.linear.count → whole p.component.linear.base p.component.linear.count true ≡ r
      → PartRegion p r

pub part_region : (p : PartSeen) (r : Region) → Contains (part_regions p) r → PartRegion p r
part_region p r m =
    elim (Contains-append_cases (region false (code_span p) ++ region false (data_span p))
    (region true (linear_span p)) r m) as (λ _. PartRegion p r) [
      | inl n ↦
          elim (Contains-append_cases (region false (code_span p)) (region false (data_span p)) r n)
          as (λ _. PartRegion p r) [
            | inl c ↦ in_code (stretch_of p.component.code_base (length p.component.code) false r c).1
            | inr d ↦ in_data (stretch_of p.component.data_base (length p.component.data_words) false r d).1
          ]
      | inr l ↦
          (let s = stretch_of p.component.linear.base p.component.linear.count true r l in in_linear s.0 s.1)
    ]

-- a region of some part
pub record OfPart (parts : List PartSeen) (r : Region) : Type 0 where
  pub index : ℕ
  pub part : PartSeen
  pub at : slice_get parts index ≡ Some part
  pub is : Contains (part_regions part) r

next_part : (x : PartSeen) (xs : List PartSeen) (r : Region) → OfPart xs r → OfPart (x ∷ xs) r
next_part x xs r o = record { index = suc o.index; part = o.part; at = o.at; is = o.is }

pub of_part : (parts : List PartSeen) (r : Region) → Contains (flat_map part_regions parts) r → OfPart parts r
of_part [] r m = absurd (omega (arith, m.1))
of_part (x ∷ xs) r m =
    elim (Contains-append_cases (part_regions x) (flat_map part_regions xs) r m) as (λ _. OfPart (x ∷ xs) r) [
      | inl h ↦ record { index = 0; part = x; at = refl; is = h }
      | inr t ↦ next_part x xs r (of_part xs r t)
    ]

pub region_cases : (parts : List PartSeen) (size : ℕ) (r : Region) → Contains (regions_of parts size) r
    → OfPart parts r ⊎ Contains (region true (stack_span parts size)) r
unfolding regions_of
region_cases parts size r m =
    elim (Contains-append_cases (flat_map part_regions parts) (region true (stack_span parts size)) r m)
    as (λ _. OfPart parts r ⊎ Contains (region true (stack_span parts size)) r)
    [ inl h ↦ inl (of_part parts r h) | inr s ↦ inr s ]

-- ---- within the address space

-- it isn't empty, and ends within the address space
abbrev pub IsWithin : Region → Type 0
IsWithin r = (r.base ≤ r.end) × (r.end ≤ 1048575)

whole_within : (base count : ℕ) (linear : Bool) → 1 ≤ count → base + count ≤ 1048576
    → IsWithin (whole base count linear)
whole_within base count linear some end = (omega (arith, some), omega (arith, some, end))

pub within_part : (p : PartSeen) (r : Region) → Kept p → PartRegion p r → IsWithin r
within_part p r kept (in_code e) =
    subst IsWithin e
    (whole_within p.component.code_base (length p.component.code) false kept.limits.code.0.0 kept.code_end)
within_part p r kept (in_data e) =
    subst IsWithin e
    (whole_within p.component.data_base (length p.component.data_words)
    false kept.limits.data_words.0.0 kept.data_end)
within_part p r kept (in_linear some e) =
    subst IsWithin e (whole_within p.component.linear.base p.component.linear.count true some kept.linear_end)

-- the stack's region, where the size is one of a stack
pub stack_is : (parts : List PartSeen) (size : ℕ) (r : Region) → IsTrue (is_stack_size size)
    → Contains (region true (stack_span parts size)) r → whole (stack_base_of parts) size true ≡ r
stack_is [] size r fits m = absurd (omega (arith, m.1))
stack_is (x ∷ xs) size r fits m =
    let l : Contains (region true (stack_span (x ∷ xs) size)) r → whole x.component.stack_base size true ≡ r =
    rw fits (λ n. (stretch_of x.component.stack_base size true r n).1) in l m

pub size_bounds : (size : ℕ) → IsTrue (is_stack_size size) → (2 ≤ size) × (size ≤ 65536)
size_bounds size h = let k =
    and_parts (nat_le 2 size) (nat_le size 65536) h in (leb-true 2 size k.0, leb-true size 65536 k.1)

pub all_within : (parts : List PartSeen) (size : ℕ) (r : Region) → Linked parts size
    → Contains (regions_of parts size) r → IsWithin r
all_within parts size r linked m = elim (region_cases parts size r m) as (λ _. IsWithin r) [
  | inl o ↦ within_part o.part r (linked.closed.kept o.index o.part o.at) (part_region o.part r o.is)
  | inr s ↦
      (let b = size_bounds size linked.size_fits in let e =
      linked.stack_end in subst IsWithin (stack_is parts size r linked.size_fits s)
      (whole_within (stack_base_of parts) size true (omega (arith, b.0)) e))
]
