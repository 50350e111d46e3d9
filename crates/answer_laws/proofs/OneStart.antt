-- Parts that keep the rules of linking have one start.
use Rattle.std.proofs.Common.{◌≡◌, ◌≢◌, ℕ, zero, suc, ◌<◌, ◌≤◌, List, [], ◌∷◌, ◌++◌, length, map, Option}
use Rattle.std.proofs.Common.{Some, None, get_or, refl, sym, ap, subst, ◌∙◌, arith, inl, inr}
use Rattle.std.specs.Prelude.{Bool, true, false, ◌==◌, if◌then◌else◌}
use Rattle.std.specs.List.{AllPairs, Contains, IsDistinct}
use Rattle.std.proofs.lemmas.Bool.{ne_eqb, eqb-false}
use Rattle.std.proofs.lemmas.Bool.Decides.{nat_tests}
use Rattle.std.proofs.lemmas.List.{length-map}
use Rattle.std.proofs.lemmas.List.Elements.{Contains-get_or, Contains-append_cases}
use Rattle.std.proofs.lemmas.List.Sorted.{IsPermutation-sym, Contains-permutation}
use Rattle.std.proofs.lemmas.Map.Keys.{IsDistinct-IsPermutation, IsDistinct-from_apart, apart_from_distinct}
use Rattle.std.specs.Ordering.{nat_cmp}
use Rattle.std.specs.FinMap.{FinMap}
use Rattle.cap_words.specs.declared.Word.{Word}
use Rattle.linked_starts.specs.Parts.{PartSeen}
use Rattle.linked_starts.specs.Regions.{AreSpansOf, Apart, regions_of, region_span, region, span_of}
use Rattle.linked_starts.specs.Regions.{stack_span, part_regions, code_span, data_span, linear_span}
use Rattle.linked_starts.specs.Regions.{is_stack_size}
use Rattle.linked_starts.proofs.Offers.{stretch_of, region_cases, regions_apart}
use Rattle.lcm_machine.specs.Regions.{Region}
use Rattle.linked_starts.specs.Pairs.{NoneIsBroken}
use Rattle.linked_starts.specs.Links.{rules_l}
use Rattle.linked_starts.specs.Start.{Exported, IsStart, start_regs, main_of}
use Rattle.linked_starts.specs.declared.owners.Site.{Site}
use Rattle.linked_starts.specs.declared.owners.Owner.{Owner}
use Rattle.linked_starts.specs.Owners.{AreSites, AreOwners}
use Rattle.linked_starts.specs.Started.{StartSeen, Starts}
use Rattle.answer_laws.proofs.Rising.{Rises, one_rising}
use Rattle.lcm_machine.specs.declared.End.{End}
use Rattle.lcm_machine.specs.declared.cells.Span.{Span}
use Rattle.lcm_machine.specs.Maps.{Regs}
use Rattle.lcm_machine.specs.Run.{Run}
use Rattle.lcm_machine.proofs.Offers.{same_cells}

run_of : Regs Word → FinMap nat_cmp Word → List Span → ℕ → Option End → Run
run_of regs cells spans count end = record {
  maps = record { regs = regs; cells = cells; spans = spans };
  count = count;
  end = end;
}

same_run : (s t : Run) → s.maps.regs ≡ t.maps.regs → s.maps.cells ≡ t.maps.cells → s.maps.spans ≡ t.maps.spans
    → s.count ≡ t.count → s.end ≡ t.end → s ≡ t
unfolding run_of
same_run s t a b l c d =
    ap (λ x. run_of x s.maps.cells s.maps.spans s.count s.end) a
    ∙ ap (λ x. run_of t.maps.regs x s.maps.spans s.count s.end) b
    ∙ ap (λ x. run_of t.maps.regs t.maps.cells x s.count s.end) l
    ∙ ap (λ x. run_of t.maps.regs t.maps.cells t.maps.spans x s.end) c
    ∙ ap (run_of t.maps.regs t.maps.cells t.maps.spans t.count) d

one_main : (parts : List PartSeen) (x y : Exported) → main_of parts ≡ Some x → main_of parts ≡ Some y → x ≡ y
one_main parts x y h k = let e : Some x ≡ Some y = sym h ∙ k in cc

-- ---- the spans of linked parts

none_in : (linear : Bool) (r : Region) → Contains (region linear None) r → r.base ≤ r.end
none_in linear r c = absurd (omega (arith, c.1))

some_in : (base count : ℕ) (linear : Bool) (r : Region) → Contains (region linear (span_of base count)) r
    → r.base ≤ r.end
some_in base count linear r c = let s = stretch_of base count linear r c in
    subst (λ (q : Region). q.base ≤ q.end) s.1 (let n = s.0 in omega (arith, n))

part_in : (p : PartSeen) (r : Region) → Contains (part_regions p) r → r.base ≤ r.end
part_in p r c = elim (Contains-append_cases (region false (code_span p) ++ region false (data_span p))
    (region true (linear_span p)) r c) as (λ _. r.base ≤ r.end) [
      | inl h ↦ elim (Contains-append_cases (region false (code_span p))
          (region false (data_span p)) r h) as (λ _. r.base ≤ r.end) [
            | inl g ↦ some_in p.component.code_base (length p.component.code) false r g
            | inr g ↦ some_in p.component.data_base (length p.component.data_words) false r g
          ]
      | inr h ↦ some_in p.component.linear.base p.component.linear.count true r h
    ]

stack_in : (parts : List PartSeen) (size : ℕ) (r : Region) → Contains (region true (stack_span parts size)) r
    → r.base ≤ r.end
stack_in [] size r c = none_in true r c
stack_in (p ∷ ps) size r c = by_size (is_stack_size size) c
  where
    by_size : (b : Bool) → Contains (region true (if b then span_of p.component.stack_base size else None)) r
        → r.base ≤ r.end
    by_size true c = some_in p.component.stack_base size true r c
    by_size false c = none_in true r c

in_order : (parts : List PartSeen) (size : ℕ) (r : Region) → Contains (regions_of parts size) r
    → r.base ≤ r.end
in_order parts size r c = elim (region_cases parts size r c) as (λ _. r.base ≤ r.end) [
  | inl o ↦ part_in o.part r o.is
  | inr s ↦ stack_in parts size r s
]

begins_as : Span → Span → Bool
begins_as s t = s.base == t.base

flips : (s t : Span) → begins_as s t ≡ begins_as t s
unfolding begins_as
flips s t = eq_flips s.base t.base
  where
    eq_flips : (n m : ℕ) → (n == m) ≡ (m == n)
    eq_flips n m = grind (arith, nat_tests)

map_at : (rs : List Region) (i : ℕ) (d : Region) → get_or (map region_span rs) i (region_span d)
    ≡ region_span (get_or rs i d)
map_at [] i d = refl
map_at (r ∷ rs) zero d = refl
map_at (r ∷ rs) (suc i) d = map_at rs i d

as_region : Span → Region
as_region s = record { base = s.base; end = s.end; linear = false }

apart_differ : (r q : Region) → r.base ≤ r.end → q.base ≤ q.end → Apart r q → r.base ≢ q.base
apart_differ r q h k (inl a) = λ e. omega (arith, h, k, a, e)
apart_differ r q h k (inr a) = λ e. omega (arith, h, k, a, e)

distinct : (rs : List Region) → AllPairs Apart rs → ((r : Region) → Contains rs r → r.base ≤ r.end)
    → IsDistinct begins_as (map region_span rs)
unfolding as_region begins_as
distinct rs pairs fits = IsDistinct-from_apart begins_as (map region_span rs) (λ i j d lt in'.
    let D = as_region d in
    let l = length-map rs region_span in
    let low : i < length rs = omega (arith, lt, in', l) in
    let high : j < length rs = omega (arith, in', l) in
    let h : begins_as (region_span (get_or rs i D)) (region_span (get_or rs j D))
    ≡ false = ne_eqb _ _ (apart_differ (get_or rs i D) (get_or rs j D)
    (fits _ (Contains-get_or rs i D low)) (fits _ (Contains-get_or rs j D high)) (pairs i j D lt high)) in
    subst (λ x. begins_as x (get_or (map region_span rs) j d) ≡ false) (sym (map_at rs i D))
    (subst (λ y. begins_as (region_span (get_or rs i D)) y ≡ false) (sym (map_at rs j D)) h))

abbrev base_of : Span → ℕ
base_of s = s.base

rises : (parts : List PartSeen) (size : ℕ) (ss : List Span) → AllPairs Apart (regions_of parts size)
    → AreSpansOf parts size ss → Rises base_of ss
unfolding begins_as
rises parts size ss pairs h = λ i j d lt in'.
    let apart = IsDistinct-IsPermutation begins_as flips (map region_span (regions_of parts size)) ss h.same
    (distinct (regions_of parts size) pairs (in_order parts size)) in
    let differ : (get_or ss i d).base ≢ (get_or ss j d).base =
    eqb-false _ _ (apart_from_distinct begins_as ss i j d apart lt in') in
    let up = h.ascend i j d (omega (arith, lt)) in' in
    rise _ _ up differ
  where
    rise : (n m : ℕ) → n ≤ m → n ≢ m → n < m
    rise n m h k = grind arith

one_spans : (parts : List PartSeen) (size : ℕ) (ss ts : List Span) → AllPairs Apart (regions_of parts size)
    → AreSpansOf parts size ss → AreSpansOf parts size ts → ss ≡ ts
one_spans parts size ss ts pairs h k =
    let xs = map region_span (regions_of parts size) in
    one_rising base_of ss ts (rises parts size ss pairs h) (rises parts size ts pairs k)
    (λ s c. Contains-permutation xs ts s k.same
    (Contains-permutation ss xs s (IsPermutation-sym xs ss h.same) c))
    (λ s c. Contains-permutation xs ss s h.same
    (Contains-permutation ts xs s (IsPermutation-sym xs ts k.same) c))

one_run : (parts : List PartSeen) (size : ℕ) (s t : Run) → NoneIsBroken (rules_l parts size)
    → IsStart parts size s → IsStart parts size t → s ≡ t
one_run parts size s t rules h k =
    let main = one_main parts h.main k.main h.main_is k.main_is in
    same_run s t (h.regs ∙ ap (start_regs parts size) main ∙ sym k.regs)
    (same_cells s.maps.cells t.maps.cells (λ a. h.cells a ∙ sym (k.cells a)))
    (one_spans parts size s.maps.spans t.maps.spans (regions_apart parts size rules) h.spans k.spans) (h.count
    ∙ sym k.count) (h.end ∙ sym k.end)

-- ---- its sites, owners and stack

abbrev address_of : Site → ℕ
address_of s = s.at

one_sites : (parts : List PartSeen) (ss ts : List Site) → AreSites parts ss → AreSites parts ts → ss ≡ ts
one_sites parts ss ts h k = one_rising address_of ss ts h.ascend k.ascend (λ s c. (k.all s).1 ((h.all s).0 c))
    (λ s c. (h.all s).1 ((k.all s).0 c))

abbrev code_base_of : Owner → ℕ
code_base_of o = o.code.base

one_owners : (parts : List PartSeen) (ss ts : List Owner) → AreOwners parts ss → AreOwners parts ts → ss ≡ ts
one_owners parts ss ts h k = one_rising code_base_of ss ts h.ascend k.ascend
    (λ s c. (k.all s).1 ((h.all s).0 c)) (λ s c. (h.all s).1 ((k.all s).0 c))

one_stack : (o : Option Span) (x y : Span) → o ≡ Some x → o ≡ Some y → x ≡ y
one_stack o x y h k = let e : Some x ≡ Some y = sym h ∙ k in cc

start_with : Run → List Site → List Owner → Span → StartSeen
start_with state sites owners stack = record { state = state; sites = sites; owners = owners; stack = stack }

same_start : (s t : StartSeen) → s.state ≡ t.state → s.sites ≡ t.sites → s.owners ≡ t.owners → s.stack
    ≡ t.stack → s ≡ t
unfolding start_with
same_start s t a b c d =
    ap (λ x. start_with x s.sites s.owners s.stack) a ∙ ap (λ x. start_with t.state x s.owners s.stack) b
    ∙ ap (λ x. start_with t.state t.sites x s.stack) c ∙ ap (start_with t.state t.sites t.owners) d

-- such parts have one start
pub one_start : (parts : List PartSeen) (size : ℕ) (s t : StartSeen) → NoneIsBroken (rules_l parts size)
    → Starts parts size s → Starts parts size t → s ≡ t
one_start parts size s t rules h k =
    same_start s t (one_run parts size s.state t.state rules h.state k.state)
    (one_sites parts s.sites t.sites h.sites k.sites)
    (one_owners parts s.owners t.owners h.owners k.owners)
    (one_stack (stack_span parts size) s.stack t.stack h.stack k.stack)
