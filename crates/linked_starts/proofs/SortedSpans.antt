-- The spans of regions that lie apart, in ascending order, are spans as a machine is made of.
use Rattle.std.proofs.Common.{◌≡◌, ℕ, zero, suc, ◌+◌, ◌<◌, ◌≤◌, Bool, true, false, List, [], ◌∷◌, ◌++◌}
use Rattle.std.proofs.Common.{length, map, take, get_or, Some, None, refl, pos, sym, ap, subst, ◌∙◌, arith}
use Rattle.std.proofs.Common.{inl, inr, le-leb}
use Rattle.std.specs.Prelude.{nat_le, ◌&&◌, ◌||◌, slice_get, if◌then◌else◌}
use Rattle.std.specs.Option.{option_or}
use Rattle.std.specs.List.{All, AllPairs, Contains, IsDistinct, flat_map, list_any}
use Rattle.std.specs.List.Sorted.{IsPermutation, IsNonDecreasingBy}
use Rattle.std.proofs.Math.Bool.{and_comm}
use Rattle.std.proofs.lemmas.Bool.{cases_lt, false≢true, and_right}
use Rattle.std.proofs.lemmas.Bool.Decides.{nat_tests}
use Rattle.std.proofs.lemmas.List.{map-append, length-map, append-nil}
use Rattle.std.proofs.lemmas.Grind.{flat_map-append}
use Rattle.std.proofs.lemmas.List.Elements.{Contains-get_or}
use Rattle.std.proofs.lemmas.List.Sorted.{All-permutation, list_any-IsPermutation}
use Rattle.std.proofs.lemmas.Map.Keys.{IsDistinct-IsPermutation, IsDistinct-from_apart, apart_from_distinct}
use Rattle.lcm_machine.specs.declared.cells.Span.{Span}
use Rattle.lcm_machine.specs.Regions.{Region}
use Rattle.cap_words.specs.declared.Word.{Word}
use Rattle.cap_words.specs.declared.Word.TheVariants.{Int}
use Rattle.lcm_machine.specs.Cells.{cell}
use Rattle.lcm_machine.specs.Run.{Run}
use Rattle.lcm_machine.specs.Spans.{AreSpans, in_span, in_spans, slot}
use Rattle.linked_starts.specs.Parts.{PartSeen}
use Rattle.linked_starts.specs.Regions.{AreSpansOf, Apart, part_regions, regions_of, region, region_span}
use Rattle.linked_starts.specs.Regions.{stack_span, in_region, in_regions}
use Rattle.linked_starts.specs.Start.{first_given, part_word, start_cell}
use Rattle.linked_starts.specs.Linked.{Linked, AreClosed}
use Rattle.linked_starts.proofs.RegionFacts.{IsWithin, all_within, part_region_of, in_regions_is}
use Rattle.linked_starts.proofs.Found.{taken_at}
use Rattle.linked_starts.proofs.PartWords.{standing}

-- within the address space
abbrev Fits : Span → Type 0
Fits s = (s.base ≤ s.end) × (s.end ≤ 1048575)

-- in ascending order without overlap
ascending : (at : ℕ) (ss : List Span) → ((k : ℕ) (d : Span) → k < length ss → at ≤ (get_or ss k d).base)
    → All Fits ss → AllPairs (λ s t. s.end + 1 ≤ t.base) ss → AreSpans at ss
ascending at [] low fits pairs = tt
ascending at (s ∷ ss) low fits pairs = (
  low 0 s (omega arith),
  (fits 0 s (omega arith)).0,
  (fits 0 s (omega arith)).1,
  ascending (s.end + 1) ss (λ k d lt. pairs 0 (suc k) d (omega arith) (omega (arith, lt)))
      (λ k d lt. fits (suc k) d (omega (arith, lt)))
      (λ i j d lt in'. pairs (suc i) (suc j) d (omega (arith, lt)) (omega (arith, in'))),
)

-- no address is between them, or they share one
abbrev near : Span → Span → Bool
near s t = nat_le s.base (t.end + 1) && nat_le t.base (s.end + 1)

near_flips : (s t : Span) → near s t ≡ near t s
near_flips s t = and_comm (nat_le s.base (t.end + 1)) (nat_le t.base (s.end + 1))

far : (r q : Region) → Apart r q → near (region_span r) (region_span q) ≡ false
far r q (inl a) = let e : nat_le q.base (r.end + 1) ≡ false =
    grind (arith, nat_tests) in rw e (and_right (nat_le r.base (q.end + 1)) false refl)
far r q (inr a) = let e : nat_le r.base (q.end + 1) ≡ false = grind (arith, nat_tests) in rw e refl

before_of_far : (s t : Span) → near s t ≡ false → s.base ≤ t.base → t.base ≤ t.end → s.end + 1 ≤ t.base
before_of_far s t h le order = elim (cases_lt t.base (s.end + 1)) as (λ _. s.end + 1 ≤ t.base) [
  | inl lt ↦ absurd (
      let a = le-leb s.base (t.end + 1) (omega (arith, le, order)) in
      let b = le-leb t.base (s.end + 1) (omega (arith, lt)) in
      let e : near s t ≡ true = rw (a, b) refl in
      false≢true (sym h ∙ e)
      )
  | inr ge ↦ ge
]

-- ---- regions as spans

pub map_at : (rs : List Region) (i : ℕ) (d : Region)
    → get_or (map region_span rs) i (region_span d) ≡ region_span (get_or rs i d)
map_at [] i d = refl
map_at (r ∷ rs) zero d = refl
map_at (r ∷ rs) (suc i) d = map_at rs i d

as_region : Span → Region
as_region s = record { base = s.base; end = s.end; linear = false }

distinct : (rs : List Region) → AllPairs Apart rs → IsDistinct near (map region_span rs)
unfolding as_region
distinct rs pairs = IsDistinct-from_apart near (map region_span rs) (λ i j d lt in'.
    let D = as_region d in
    let a = map_at rs i D in
    let b = map_at rs j D in
    let h = far (get_or rs i D) (get_or rs j D)
    (pairs i j D lt (omega (arith, in', length-map rs region_span))) in
    subst (λ x. near x (get_or (map region_span rs) j d) ≡ false) (sym a)
    (subst (λ y. near (region_span (get_or rs i D)) y ≡ false) (sym b) h))

pub any_region : (a : ℕ) (rs : List Region) → list_any (in_span a) (map region_span rs) ≡ in_regions a rs
any_region a [] = refl
any_region a (r ∷ rs) = ap (λ b. in_region a r || b) (any_region a rs)

fits_all : (rs : List Region) → ((r : Region) → Contains rs r → IsWithin r) → All Fits (map region_span rs)
unfolding as_region
fits_all rs h k d lt =
    let D = as_region d in
    let in' : k < length rs = omega (arith, lt, length-map rs region_span) in
    subst Fits (sym (map_at rs k D)) (h (get_or rs k D) (Contains-get_or rs k D in'))

ordered : (ss : List Span) → IsNonDecreasingBy (λ s. s.base) ss → IsDistinct near ss → All Fits ss
    → AreSpans 0 ss
ordered ss up apart fits = ascending 0 ss (λ k d lt. omega arith) fits
    (λ i j d lt in'. before_of_far (get_or ss i d) (get_or ss j d)
    (apart_from_distinct near ss i j d apart lt in') (up i j d (omega (arith, lt)) in') (fits j d in').0)

-- ---- of linked parts

pub spans_are : (parts : List PartSeen) (size : ℕ) (stack : Span) → stack_span parts size ≡ Some stack
    → map region_span (flat_map part_regions parts) ++ stack ∷ [] ≡ map region_span (regions_of parts size)
unfolding regions_of
spans_are parts size stack is =
    sym (map-append region_span (flat_map part_regions parts) (region true (stack_span parts size))
    ∙ ap (λ o. map region_span (flat_map part_regions parts) ++ map region_span (region true o)) is)

pub are_spans : (parts : List PartSeen) (size : ℕ) (stack : Span) (ss : List Span) → Linked parts size
    → stack_span parts size ≡ Some stack
    → IsPermutation (map region_span (flat_map part_regions parts) ++ stack ∷ []) ss
    → IsNonDecreasingBy (λ s. s.base) ss → AreSpans 0 ss
are_spans parts size stack ss linked is moved up =
    let xs = map region_span (regions_of parts size) in
    let moved' : IsPermutation xs ss =
    subst (λ l. IsPermutation l ss) (spans_are parts size stack is) moved in
    ordered ss up
    (IsDistinct-IsPermutation near near_flips xs ss moved'
    (distinct (regions_of parts size) linked.apart))
    (All-permutation Fits xs ss moved'
    (fits_all (regions_of parts size) (λ r m. all_within parts size r linked m)))

pub are_spans_of : (parts : List PartSeen) (size : ℕ) (stack : Span) (ss : List Span)
    → stack_span parts size ≡ Some stack
    → IsPermutation (map region_span (flat_map part_regions parts) ++ stack ∷ []) ss
    → IsNonDecreasingBy (λ s. s.base) ss → AreSpansOf parts size ss
are_spans_of parts size stack ss is moved up = record {
  same = subst (λ l. IsPermutation l ss) (spans_are parts size stack is) moved;
  ascend = up;
}

pub in_spans_is : (parts : List PartSeen) (size : ℕ) (stack : Span) (ss : List Span)
    → stack_span parts size ≡ Some stack
    → IsPermutation (map region_span (flat_map part_regions parts) ++ stack ∷ []) ss → (a : ℕ)
    → in_spans a ss ≡ in_regions a (regions_of parts size)
in_spans_is parts size stack ss is moved a =
    sym (list_any-IsPermutation (in_span a) (map region_span (flat_map part_regions parts) ++ stack ∷ [])
    ss moved)
    ∙ ap (list_any (in_span a)) (spans_are parts size stack is) ∙ any_region a (regions_of parts size)

-- ---- memory

-- where a part has a word there is a cell
pub room : (parts : List PartSeen) (size : ℕ) → AreClosed parts → (k a : ℕ) (p : PartSeen) (w : Word)
    → slice_get parts k ≡ Some p → part_word parts a p ≡ Some w → in_regions a (regions_of parts size) ≡ true
room parts size closed k a p w at h =
    let s = standing parts p (closed.kept k p at) a w h in
    in_regions_is a (regions_of parts size) s.region (part_region_of parts size k p s.region at s.of)
    s.low s.high

pub is_slot : (parts : List PartSeen) (size a : ℕ) (ss : List Span)
    → in_spans a ss ≡ in_regions a (regions_of parts size)
    → slot (λ w. w) ss a ≡ (if in_regions a (regions_of parts size) then Some (Int (pos 0)) else None)
is_slot parts size a ss e = ap (λ b. if b then Some (Int (pos 0)) else None) e

pub cells_are : (parts : List PartSeen) (size a : ℕ) (ss : List Span) (made laid : Run)
    → in_spans a ss ≡ in_regions a (regions_of parts size)
    → cell made.maps.cells a ≡ slot (λ w. w) ss a
    → cell laid.maps.cells a ≡ option_or (first_given (part_word parts a) parts) (cell made.maps.cells a)
    → cell laid.maps.cells a ≡ start_cell parts size a
unfolding start_cell
cells_are parts size a ss made laid e m l =
    l ∙ ap (λ o. option_or (first_given (part_word parts a) parts) o) (m ∙ is_slot parts size a ss e)

-- one part more
pub spans_more : (parts : List PartSeen) (k : ℕ) (p : PartSeen) (old new : List Span)
    → slice_get parts k ≡ Some p → old ≡ map region_span (flat_map part_regions (take k parts))
    → new ≡ old ++ map region_span (part_regions p)
    → new ≡ map region_span (flat_map part_regions (take (k + 1) parts))
spans_more parts k p old new at before pushed =
    pushed ∙ ap (λ ss. ss ++ map region_span (part_regions p)) before
    ∙ sym (ap (λ ps. map region_span (flat_map part_regions ps)) (taken_at parts k p at)
    ∙ ap (map region_span)
    (flat_map-append part_regions (take k parts) (p ∷ [])
    ∙ ap (λ rs. flat_map part_regions (take k parts) ++ rs) (append-nil (part_regions p)))
    ∙ map-append region_span (flat_map part_regions (take k parts)) (part_regions p))
